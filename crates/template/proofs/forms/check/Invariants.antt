use mathlib.Core.Path.{◌≡◌}
use Prim.Native.Nat.{◌+◌, ◌-◌, ◌≤◌}
use lib.ListN.{length, drop}
use Rattle.template.specs.Lines.{lines_of}
use Rattle.template.specs.Verdicts.{first_fault}
use Rattle.template.specs.Walk.{walk}
use Rattle.template.specs.Shape.{is_formed}
use Rattle.template.specs.Checks.{nest_step, nest_end, form_check, nest_check}
use Rattle.template.proofs.NestLaws.{Sound}
use Rattle.template.proofs.forms.check.Given as goal

abbrev pub invariant-loop-at : goal.invariant-loop-at
invariant-loop-at l = (x : Sound l.state) × (walk nest_step nest_end x.list l.lines (lines_of (drop l.at l.template)) ≡ nest_check l.template) × (first_fault is_formed (l.lines + 1) (lines_of (drop l.at l.template)) ≡ form_check l.template) × (l.lines ≤ l.at)

abbrev pub decreases-loop-at : goal.decreases-loop-at
decreases-loop-at l = length l.template - l.at
