-- By the cases of the definition.
use Rattle.commands.proofs.Tabling.{exceeds_all, exceeds_last}
use Rattle.commands.proofs.table.exceeds.Goals as goal

pub returns-then-counter-gt2000000000 : goal.returns-then-counter-gt2000000000
returns-then-counter-gt2000000000 c = exceeds_all _ _ c.if-counter-gt2000000000.true

pub returns : goal.returns
returns c = exceeds_last _ _ c.if-counter-gt2000000000.false
