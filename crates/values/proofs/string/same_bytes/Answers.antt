-- The loop keeps: what is left is alike where the whole is. The pairs are those of the indexes.
use mathlib.Core.Path.{◌≡◌, ap, ◌∙◌}
use lib.ListN.{length-append}
use Rattle.std.proofs.lemmas.Slice.Zip.{zip_turn, zip_end}
use Rattle.values.specs.Letters.{letter}
use Rattle.values.proofs.Texts.{compare_start, compare_over, compare_differs, compare_next}
use Rattle.values.proofs.string.same_bytes.Goals as goal

pub loop-x-init : goal.loop-x-init
loop-x-init c = compare_start _ _ _ _ _

pub returns-then-letter : goal.returns-then-letter
returns-then-letter c =
    let s = c.into_iter-x-iterator.result in
    let first : s.a.rest.now ≡ c.args.a.now = cc in
    let second : s.b.rest.now ≡ c.args.b.now = ap (λ z. z.b.rest.now) c.into_iter-x-iterator.ensures.into_iter_gives ∙ c.zip-x-items.ensures.second.0 in
    let t = zip_turn c.args.a.now c.args.b.now c.loop-x.yielded s c.loop-x.x-iterator c.next.new.self c.next.result first second c.loop-x.yielded_by (c.in-Some.field-0-0, c.in-Some.field-0-1) c.in-Some.is c.next.ensures.steps in
    compare_differs _ _ _ _ _ _ c.loop-x.invariant t.0 t.1 _ _ _ _ (c.letter.ensures ∙ ap (letter c.args.a_upper) (t.2 0)) c.letter-in-loop-x.ensures (c.letter-in-loop-x-2.ensures ∙ ap (letter c.args.b_upper) (t.3 0)) c.letter-in-loop-x-3.ensures c.if-letter.true

pub loop-x-preserved : goal.loop-x-preserved
loop-x-preserved c =
    let s = c.into_iter-x-iterator.result in
    let first : s.a.rest.now ≡ c.args.a.now = cc in
    let second : s.b.rest.now ≡ c.args.b.now = ap (λ z. z.b.rest.now) c.into_iter-x-iterator.ensures.into_iter_gives ∙ c.zip-x-items.ensures.second.0 in
    let t = zip_turn c.args.a.now c.args.b.now c.loop-x.yielded s c.loop-x.x-iterator c.next.new.self c.next.result first second c.loop-x.yielded_by (c.in-Some.field-0-0, c.in-Some.field-0-1) c.in-Some.is c.next.ensures.steps in
    rw (length-append c.loop-x.yielded)
    (compare_next _ _ _ _ _ _ c.loop-x.invariant t.0 t.1 _ _ _ _ (c.letter.ensures ∙ ap (letter c.args.a_upper) (t.2 0)) c.letter-in-loop-x.ensures (c.letter-in-loop-x-2.ensures ∙ ap (letter c.args.b_upper) (t.3 0)) c.letter-in-loop-x-3.ensures c.if-letter.false)

pub returns : goal.returns
returns c =
    let s = c.into_iter-x-iterator.result in
    let first : s.a.rest.now ≡ c.args.a.now = cc in
    let second : s.b.rest.now ≡ c.args.b.now = ap (λ z. z.b.rest.now) c.into_iter-x-iterator.ensures.into_iter_gives ∙ c.zip-x-items.ensures.second.0 in
    compare_over _ _ _ _ _ _ c.loop-x.invariant
    (zip_end c.args.a.now c.args.b.now c.loop-x.yielded s c.loop-x.x-iterator c.next.new.self c.next.result first second c.loop-x.yielded_by c.in-None.is c.next.ensures.steps)
