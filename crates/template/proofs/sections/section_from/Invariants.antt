use mathlib.Core.Path.{◌≡◌}
use Prim.Native.Nat.{◌-◌, ◌≤◌}
use lib.ListN.{length, drop}
use Rattle.template.specs.Lines.{lines_of}
use Rattle.template.specs.Sections.{section_from}
use Rattle.template.proofs.sections.section_from.Given as goal

abbrev pub invariant-loop-at : goal.invariant-loop-at
invariant-loop-at l = (section_from l.name l.at l.lines (lines_of (drop l.at l.template)) ≡ section_from l.name l.«from» l.before (lines_of (drop l.«from» l.template))) × (l.lines ≤ l.at)

abbrev pub decreases-loop-at : goal.decreases-loop-at
decreases-loop-at l = length l.template - l.at
