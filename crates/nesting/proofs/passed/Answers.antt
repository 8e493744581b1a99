use borrow.Author.Tests.{eq-eqb, ne_eqb}
use Rattle.nesting.specs.Inner.Open.{step_in}
use Rattle.nesting.proofs.OpenLaws.{early_line, same_line}
use Rattle.nesting.proofs.passed.Goals as goal

pub returns-then-state-eq0 : goal.returns-then-state-eq0
unfolding step_in
returns-then-state-eq0 c = record { told = rw (eq-eqb _ _ c.if-state-eq0.true); follows = λ s h. early_line s h c.if-state-eq0.true }

pub returns : goal.returns
unfolding step_in
returns c = record { told = rw (ne_eqb _ _ c.if-state-eq0.false); follows = λ s h. same_line s h c.if-state-eq0.false }
