-- 8, or as many questions as there are places for, or all: one law for each.
use Rattle.values.proofs.Fetches.{within, fetch_refused, first_small, word_most, fetch_cut, fetch_all}
use mathlib.Core.Path.{refl, sym, ◌∙◌}
use native.Mathlib.Omega.{arith}
use Rattle.values.proofs.fetch.fetch_at.Goals as goal

pub packed-word-requires : goal.packed-word-requires
packed-word-requires c = let v = within _ _ _ _ (sym c.allowed.ensures ∙ c.if-not-allowed.false) in first_small v c.requires

pub note-requires : goal.note-requires
note-requires c = let v = within _ _ _ _ (sym c.allowed.ensures ∙ c.if-not-allowed.false) in (omega (arith, v.count, c.requires.1.place, c.if-left-count.true), omega (arith, word_most v c.requires _ c.packed-word.ensures))

pub note-requires-2 : goal.note-requires-2
note-requires-2 c = let v = within _ _ _ _ (sym c.allowed.ensures ∙ c.if-not-allowed.false) in (omega (arith, v.count, c.requires.1.place), omega (arith, word_most v c.requires _ c.packed-word.ensures))

pub overflow_mul-result : goal.overflow_mul-result
overflow_mul-result c = let v = within _ _ _ _ (sym c.allowed.ensures ∙ c.if-not-allowed.false) in omega (arith, word_most v c.requires _ c.packed-word.ensures)

pub overflow_add-result : goal.overflow_add-result
overflow_add-result c = let v = within _ _ _ _ (sym c.allowed.ensures ∙ c.if-not-allowed.false) in omega (arith, v.count, word_most v c.requires _ c.packed-word.ensures)

pub returns-then-not-allowed : goal.returns-then-not-allowed
returns-then-not-allowed c = fetch_refused _ _ _ _ _ _ c.refused.ensures (sym c.allowed.ensures ∙ c.if-not-allowed.true)

pub returns-then-left-count : goal.returns-then-left-count
returns-then-left-count c = fetch_cut _ _ _ _ _ (sym c.allowed.ensures ∙ c.if-not-allowed.false) c.requires _ c.packed-word.ensures _ _ _ c.cut.ensures c.left-left.ensures c.if-left-count.true c.note.ensures

pub returns : goal.returns
returns c = fetch_all _ _ _ _ _ (sym c.allowed.ensures ∙ c.if-not-allowed.false) c.requires _ c.packed-word.ensures _ _ (omega (arith, c.left-left.ensures, c.if-left-count.false)) c.note-2.ensures refl
