use mathlib.Core.Path.{◌≡◌}
use Prim.Native.Nat.{◌-◌, ◌*◌, ◌≤◌}
use lib.ListN.{length, take, drop}
use Rattle.template.specs.Lines.{lines_of}
use Rattle.template.specs.Walk.{walk}
use Rattle.template.specs.Checks.{name_step, name_end, name_check}
use Rattle.template.proofs.SortedLaws.{Listed}
use Rattle.template.proofs.repeats.check.Given as goal

abbrev pub invariant-loop-at : goal.invariant-loop-at
invariant-loop-at l = (walk (name_step l.template) name_end l.lines l.lines (lines_of (drop l.at l.template)) ≡ name_check l.template) × (drop l.lines (lines_of l.template) ≡ lines_of (drop l.at l.template)) × (Listed l.template l.places l.count (take l.lines (lines_of l.template))) × (l.lines ≤ l.at) × (l.count * 7 ≤ l.at)

abbrev pub decreases-loop-at : goal.decreases-loop-at
decreases-loop-at l = length l.template - l.at
