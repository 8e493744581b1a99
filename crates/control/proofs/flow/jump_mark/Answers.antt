use Rattle.control.specs.Inner.Remembering.{jump_mark}
use Rattle.control.proofs.flow.jump_mark.Goals as goal

pub returns-in-Branch : goal.returns-in-Branch
unfolding jump_mark
returns-in-Branch c = rw c.in-Branch.is

pub returns-in-TestEnd : goal.returns-in-TestEnd
unfolding jump_mark
returns-in-TestEnd c = rw c.in-TestEnd.is

pub returns-in-TableEnd : goal.returns-in-TableEnd
unfolding jump_mark
returns-in-TableEnd c = rw c.in-TableEnd.is
