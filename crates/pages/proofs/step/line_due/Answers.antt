use Rattle.pages.proofs.Listing.{due_text, due_blank, due_heading}
use Rattle.pages.proofs.step.line_due.Goals as goal

pub returns-then-lead-k : goal.returns-then-lead-k
returns-then-lead-k c = due_text _ _ _ _ c.if-lead-k.true

pub returns-then-heading-eq0 : goal.returns-then-heading-eq0
returns-then-heading-eq0 c = due_blank _ _ _ _ _ c.if-lead-k.false c.heading_at-heading.ensures c.if-heading-eq0.true

pub returns : goal.returns
returns c = due_heading _ _ _ _ _ c.if-lead-k.false c.heading_at-heading.ensures c.if-heading-eq0.false
