-- The loop keeps: the bytes from its place on are in the order of the whole.
use mathlib.Core.Path.{◌≡◌, refl, sym, ap, ◌∙◌}
use mathlib.Core.List.{List}
use Prim.Native.Nat.{ℕ, ◌<◌}
use borrow.Author.Tests.{ltb-true, ltb-false}
use lib.Dec.{ltb}
use lib.ListN.{length, get_or}
use Rattle.std.proofs.lemmas.List.{get_or_default}
use Rattle.template.proofs.SectionNames.{below_end, below_short, below_line_end, below_here, below_more}
use Rattle.template.proofs.names.is_below.Goals as goal

-- what stands at a place, whatever stands for a byte past the end
read : (s : List ℕ) (i : ℕ) {b : ℕ} → b ≡ get_or s i b → i < length s → b ≡ get_or s i 0
read s i e k = e ∙ get_or_default s i _ 0 k

pub loop-i-init : goal.loop-i-init
loop-i-init c = refl

pub returns-in_default : goal.returns-in_default
returns-in_default c = below_short _ _ _ c.loop-i.invariant c.loop-i-test.true (ltb-false _ _ (sym c.in_default.ensures.lookup.0))

pub returns-then-a-eq10 : goal.returns-then-a-eq10
returns-then-a-eq10 c =
    below_line_end _ _ _ c.loop-i.invariant c.loop-i-test.true (ltb-true _ _ (sym c.in-Some.ensures.lookup.0)) (sym (read _ _ c.in-Some.ensures.lookup.1 (ltb-true _ _ (sym c.in-Some.ensures.lookup.0))) ∙ c.if-a-eq10.true)

pub returns-then-a-b : goal.returns-then-a-b
returns-then-a-b c =
    let k = ltb-true _ _ (sym c.in-Some.ensures.lookup.0) in
    let e = read _ _ c.in-Some.ensures.lookup.1 k in
    ap (λ (x : ℕ). ltb x (get_or c.args.name.now c.loop-i.i 0)) e ∙ below_here _ _ _ c.loop-i.invariant c.loop-i-test.true k (λ z. c.if-a-eq10.false (e ∙ z)) (λ z. c.if-a-b.true (e ∙ z))

pub loop-i-preserved : goal.loop-i-preserved
loop-i-preserved c =
    let k = ltb-true _ _ (sym c.in-Some.ensures.lookup.0) in
    let e = read _ _ c.in-Some.ensures.lookup.1 k in
    below_more _ _ _ c.loop-i.invariant c.loop-i-test.true k (λ z. c.if-a-eq10.false (e ∙ z)) (sym e ∙ c.if-a-b.false)

pub returns : goal.returns
returns c = below_end _ _ _ c.loop-i.invariant c.loop-i-test.false
