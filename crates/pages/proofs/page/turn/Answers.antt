use Rattle.pages.proofs.Turning.{turn_not, turn_breaks}
use Rattle.pages.proofs.page.turn.Goals as goal

pub returns-then-page-le-LIMIT : goal.returns-then-page-le-LIMIT
returns-then-page-le-LIMIT c = turn_not _ _ _ _ _ c.requires c.if-page-le-LIMIT.true

pub returns : goal.returns
returns c = turn_breaks _ _ _ _ _ c.requires _ _ _ _ c.if-page-le-LIMIT.false c.break_page.ensures
