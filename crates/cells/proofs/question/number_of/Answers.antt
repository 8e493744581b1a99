-- Within the limits nothing overflows.
use Rattle.std.proofs.Common.{arith}
use Rattle.cells.specs.Cell.{key_as_number}
use Rattle.cells.proofs.CellForm.{limits}
use Rattle.cells.proofs.question.number_of.Goals as goal

pub overflow_mul-result : goal.overflow_mul-result
overflow_mul-result c = let l = limits _ c.requires in omega arith

pub overflow_add-result : goal.overflow_add-result
overflow_add-result c = let l = limits _ c.requires in omega arith

pub overflow_mul-result-2 : goal.overflow_mul-result-2
overflow_mul-result-2 c = let l = limits _ c.requires in omega arith

pub overflow_add-result-2 : goal.overflow_add-result-2
overflow_add-result-2 c = let l = limits _ c.requires in omega arith

pub returns : goal.returns
unfolding key_as_number
returns c = let l = limits _ c.requires in (omega arith, omega arith)
