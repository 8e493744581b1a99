use Rattle.pages.proofs.Turning.{break_quiet, break_feeds, break_full}
use Rattle.pages.proofs.page.break_page.Goals as goal
use Rattle.pages.proofs.page.break_page.Goals.{then-feeds+else-text-printed, else-feeds}

pub returns-then-text-printed : goal.returns-then-text-printed
returns-then-text-printed c = break_full _ _ _ _ _ c.requires _ c.cut.ensures c.if-feeds.true c.if-text-printed.true

pub returns : goal.returns
returns c = elim c.if-feeds.branch [
  | then-feeds+else-text-printed w ↦ rw (w.text-is, w.printed-is) (break_feeds _ _ _ _ _ c.requires _ w.if-feeds.true w.if-text-printed.false c.broken.ensures)
  | else-feeds w ↦ rw (w.text-is, w.printed-is) (break_quiet _ _ _ _ _ c.requires _ w.if-feeds.false c.broken.ensures)
]
