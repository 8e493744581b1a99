use Rattle.pages.proofs.Shows.{not_starred, all_starred}
use Rattle.pages.proofs.field.stars.Goals as goal

pub returns-then-not-put : goal.returns-then-not-put
returns-then-not-put c = all_starred _ _ _ _ _ c.if-not-put.true c.fill.ensures.buffer

pub returns-else-not-put : goal.returns-else-not-put
returns-else-not-put c = not_starred _ _ _ _ c.if-not-put.false
