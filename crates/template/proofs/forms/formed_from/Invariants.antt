use mathlib.Core.Path.{◌≡◌}
use Prim.Native.Nat.{◌+◌, ◌-◌, ◌≤◌}
use lib.ListN.{length, drop}
use Rattle.template.specs.Lines.{lines_of}
use Rattle.template.specs.Verdicts.{first_fault}
use Rattle.template.specs.Shape.{is_formed}
use Rattle.template.proofs.forms.formed_from.Given as goal

abbrev pub invariant-loop-at : goal.invariant-loop-at
invariant-loop-at l = (first_fault is_formed l.number (lines_of (drop l.at l.template)) ≡ first_fault is_formed l.first (lines_of (drop l.«from» l.template))) × (l.number ≤ l.at + 1)

abbrev pub decreases-loop-at : goal.decreases-loop-at
decreases-loop-at l = length l.template - l.at
