-- A word that stands is the first; else the search goes on behind it.
use mathlib.Core.Path.{refl, sym, ◌∙◌}
use Rattle.scan.proofs.WordLaws.{search_end, search_found, search_more}
use Rattle.scan.proofs.words.word_at.Goals as goal

pub loop-entry-init : goal.loop-entry-init
loop-entry-init g c = refl

pub returns-then-is_some : goal.returns-then-is_some
returns-then-is_some g c = search_found (λ e. (e.0.now, e.1)) c.args.words.now _ _ _ c.loop-entry.invariant _ c.entry-item.is c.loop-entry-test.true (c.word_or-found.ensures) (sym c.is_some.ensures ∙ c.if-is_some.true)

pub loop-entry-preserved : goal.loop-entry-preserved
loop-entry-preserved g c = search_more (λ e. (e.0.now, e.1)) c.args.words.now _ _ _ c.loop-entry.invariant _ c.entry-item.is c.loop-entry-test.true (c.word_or-found.ensures) (sym c.is_some.ensures ∙ c.if-is_some.false)

pub returns : goal.returns
returns g c = search_end (λ e. (e.0.now, e.1)) c.args.words.now _ _ _ c.loop-entry.invariant c.loop-entry-test.false
