use native.Mathlib.Omega.{arith}
use Rattle.nesting.proofs.OpenLaws.{no_table_end_step, untabled_end_step}
use Rattle.nesting.proofs.table_ended.Goals as goal

pub returns-in_default : goal.returns-in_default
returns-in_default c = untabled_end_step _ (omega arith)

pub returns-in_default-2 : goal.returns-in_default-2
returns-in_default-2 c = no_table_end_step _ (λ e. omega arith)
