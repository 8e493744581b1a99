use native.Mathlib.Omega.{arith}
use Rattle.nesting.proofs.OpenLaws.{no_test_end_step, untested_end_step}
use Rattle.nesting.proofs.test_ended.Goals as goal

pub returns-in_default : goal.returns-in_default
returns-in_default c = no_test_end_step _ (λ e k. omega arith)

pub returns-in_default-2 : goal.returns-in_default-2
returns-in_default-2 c = untested_end_step _ (omega arith)

pub returns-in_default-3 : goal.returns-in_default-3
returns-in_default-3 c = no_test_end_step _ (λ e k. omega arith)
