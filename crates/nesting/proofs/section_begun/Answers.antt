use native.Mathlib.Omega.{arith}
use Rattle.nesting.proofs.OpenLaws.{section_step, no_section_step}
use Rattle.nesting.proofs.section_begun.Goals as goal

pub returns-in-0 : goal.returns-in-0
returns-in-0 c = section_step _ (omega arith)

pub returns-in_default : goal.returns-in_default
returns-in_default c = no_section_step _ (omega arith)
