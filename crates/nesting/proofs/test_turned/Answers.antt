use native.Mathlib.Omega.{arith}
use Rattle.nesting.proofs.OpenLaws.{turn_step, no_turn_step}
use Rattle.nesting.proofs.test_turned.Goals as goal

pub returns-in-2 : goal.returns-in-2
returns-in-2 c = turn_step _ (omega arith)

pub returns-in_default : goal.returns-in_default
returns-in_default c = no_turn_step _ (λ e. omega arith)
