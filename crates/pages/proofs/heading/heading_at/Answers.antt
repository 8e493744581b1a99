-- One of nine, or none.
use Rattle.pages.proofs.Heads.{heading_inside, heading_outside}
use Rattle.pages.proofs.heading.heading_at.Goals as goal

pub returns-then-k-lt9 : goal.returns-then-k-lt9
returns-then-k-lt9 c = heading_inside _ _ _ _ c.heading_word-word.ensures c.unpacked.ensures

pub returns : goal.returns
returns c = heading_outside _ _ c.if-k-lt9.false
