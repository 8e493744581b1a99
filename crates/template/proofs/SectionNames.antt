-- Laws of the names of sections.
use mathlib.Core.Path.{◌≡◌, refl, sym, ap, ◌∙◌}
use mathlib.Core.Bool.{Bool, true, false, cond, ◌&&◌, false≢true}
use mathlib.Core.List.{List, [], ◌∷◌}
use Prim.Native.Nat.{ℕ, zero, suc, ◌+◌, ◌<◌, ◌≤◌}
use native.Mathlib.Numerals.{add-one}
use native.Mathlib.Omega.{arith}
use borrow.Author.Tests.{eqb-true, eqb-false, eq-eqb, ne_eqb, ltb-true, ltb-false, le-ltb}
use lib.Dec.{eqb, ltb}
use lib.ListN.{length, get_or, take, drop, length-take, length-drop}
use lib.Seq.{drop-cons, drop-drop}
use Rattle.scan.proofs.RunLaws.{span_end, span_stop, span_more}
use Rattle.scan.specs.declared.run.Class.{Class}
use Rattle.scan.specs.declared.run.Class.TheVariants.{InLine}
use Rattle.std.specs.Cmp.Lexicographic.{pointwise}
use Rattle.std.proofs.Common.{drop_of_length-le}
use Rattle.scan.specs.Run.{belongs, span}
use Rattle.scan.specs.Line.{line_of, line_at, window}
use Rattle.scan.specs.Words.{begins}
use Rattle.template.specs.Name.{section_word, name_of, same_bytes}
use Rattle.template.specs.Inner.Sorted.{is_below}

-- a section's name, and the empty name of other lines
module _ (l : List ℕ) (b : Bool) (q : b ≡ begins section_word l) where
  pub named : b ≡ true → name_of l ≡ window l 5 8
  unfolding name_of
  named k = rw (← q, k)

  pub unnamed : b ≡ false → name_of l ≡ []
  unfolding name_of
  unnamed k = rw (← q, k)

-- ---- where a section's name lies

-- a section's line has six bytes or more
pub section_length : (l name : List ℕ) → name ≡ name_of l → (length name ≡ 0 → ⊥) → 6 ≤ length l
unfolding name_of
section_length l name e n = go (begins section_word l) refl
  where
    go : (p : Bool) → begins section_word l ≡ p → 6 ≤ length l
    go true q = omega (arith, n, ap length (rw q at e), length-take 8 (drop 5 l), length-drop 5 l)
    go false q = absurd (n (ap length (rw q at e)))

take_of_span : (class : Class) (n : ℕ) (s : List ℕ) → take n (span class s) ≡ span class (take n s)
unfolding span
take_of_span class zero s = refl
take_of_span class (suc n) [] = refl
take_of_span class (suc n) (b ∷ s) = go (belongs class b) refl (take_of_span class n s)
  where
    go : (p : Bool) → belongs class b ≡ p → take n (span class s) ≡ span class (take n s) → take (suc n) (span class (b ∷ s)) ≡ span class (b ∷ take n s)
    go true q more = rw (q, more)
    go false q more = rw q

drop_of_span : (class : Class) (n : ℕ) (s : List ℕ) → n ≤ length (span class s) → drop n (span class s) ≡ span class (drop n s)
unfolding span
drop_of_span class zero s h = refl
drop_of_span class (suc n) [] h = refl
drop_of_span class (suc n) (b ∷ s) h = go (belongs class b) refl h (drop_of_span class n s)
  where
    go : (p : Bool) → belongs class b ≡ p → suc n ≤ length (span class (b ∷ s)) → (n ≤ length (span class s) → drop n (span class s) ≡ span class (drop n s)) → drop (suc n) (span class (b ∷ s)) ≡ span class (drop n s)
    go true q k more = rw q (more (omega (arith, rw q at k)))
    go false q k more = absurd (omega (arith, rw q at k))

-- it starts five bytes behind the line's start
pub name_in_place : (t line name : List ℕ) (at : ℕ) → line ≡ line_at t at → name ≡ name_of line → (length name ≡ 0 → ⊥) → name ≡ line_of (window t (at + 5) 8)
unfolding name_of
name_in_place t line name at e o n = go (begins section_word line) refl
  where
    long : 6 ≤ length line
    long = section_length line name o n

    there : window line 5 8 ≡ line_of (window t (at + 5) 8)
    there =
        ap (λ (l : List ℕ). window l 5 8) e
        ∙ ap (take 8) (drop_of_span InLine 5 (drop at t) (omega (arith, long, ap length e)))
        ∙ take_of_span InLine 8 (drop 5 (drop at t))
        ∙ ap (λ (s : List ℕ). line_of (take 8 s)) (drop-drop 5 at t)

    go : (p : Bool) → begins section_word line ≡ p → name ≡ line_of (window t (at + 5) 8)
    go true q = (rw q at o) ∙ there
    go false q = absurd (n (ap length (rw q at o)))

-- ---- the order, byte by byte

in_line : (b : ℕ) → (b ≡ 10 → ⊥) → belongs InLine b ≡ true
unfolding belongs
in_line b n = rw (ne_eqb b 10 n)

a_line_end : (b : ℕ) → b ≡ 10 → belongs InLine b ≡ false
unfolding belongs
a_line_end b e = rw (eq-eqb b 10 e)

module _ (rest name : List ℕ) (i : ℕ) {w : Bool} (inv : is_below (line_of (drop i rest)) (drop i name) ≡ w) where
  pub below_end : length name ≤ i → false ≡ w
  unfolding is_below
  below_end h = sym (rw (drop_of_length-le name h) (never (line_of (drop i rest)))) ∙ inv
    where
      never : (s : List ℕ) → is_below s [] ≡ false
      never [] = refl
      never (x ∷ s) = refl

  module _ (h : i < length name) where
    pub below_short : length rest ≤ i → true ≡ w
    unfolding is_below
    below_short k = sym (rw (span_end InLine rest i k, drop-cons name i 0 h)) ∙ inv

    pub below_line_end : i < length rest → get_or rest i 0 ≡ 10 → true ≡ w
    unfolding is_below
    below_line_end k e = sym (rw (span_stop InLine rest i k (a_line_end _ e), drop-cons name i 0 h)) ∙ inv

    module _ (k : i < length rest) (n : get_or rest i 0 ≡ 10 → ⊥) where
      pub below_here : (get_or rest i 0 ≡ get_or name i 0 → ⊥) → ltb (get_or rest i 0) (get_or name i 0) ≡ w
      unfolding is_below
      below_here d = sym (rw (span_more InLine rest i k (in_line _ n), drop-cons name i 0 h, ne_eqb _ _ d)) ∙ inv

      pub below_more : get_or rest i 0 ≡ get_or name i 0 → is_below (line_of (drop (i + 1) rest)) (drop (i + 1) name) ≡ w
      unfolding is_below
      below_more e = rw (add-one i) (sym (rw (span_more InLine rest i k (in_line _ n), add-one i, drop-cons name i 0 h, eq-eqb _ _ e)) ∙ inv)

-- `==` of two slices is that they are as long and the one begins the other
suc_eqb : (m n : ℕ) → eqb (suc m) (suc n) ≡ eqb m n
suc_eqb m n = go (eqb m n) refl
  where
    go : (t : Bool) → eqb m n ≡ t → eqb (suc m) (suc n) ≡ t
    go true e = eq-eqb _ _ (ap suc (eqb-true m n e))
    go false e = let z = eqb-false m n e in ne_eqb _ _ (λ s. z (omega arith))

pub same_law : (a b : List ℕ) → pointwise eqb a b ≡ same_bytes a b
unfolding begins
same_law [] [] = refl
same_law [] (y ∷ b) = sym (rw (ne_eqb 0 (suc (length b)) (λ e. omega arith)))
same_law (x ∷ a) [] = sym (rw (ne_eqb (suc (length a)) 0 (λ e. omega arith)))
same_law (x ∷ a) (y ∷ b) = rw (suc_eqb (length a) (length b)) (go (eqb x y) (same_law a b))
  where
    none : (t : Bool) → false ≡ t && false
    none true = refl
    none false = refl

    go : (p : Bool) → pointwise eqb a b ≡ eqb (length a) (length b) && begins a b → p && pointwise eqb a b ≡ eqb (length a) (length b) && cond p (begins a b) false
    go true h = h
    go false h = none (eqb (length a) (length b))

-- ---- it is an order

pub below_self : (a : List ℕ) → is_below a a ≡ false
unfolding is_below
below_self [] = refl
below_self (x ∷ a) = rw (eq-eqb x x refl) (below_self a)

pub above_below : (a b : List ℕ) → is_below a b ≡ true → is_below b a ≡ false
unfolding is_below
above_below [] [] h = absurd (false≢true h)
above_below [] (y ∷ b) h = refl
above_below (x ∷ a) [] h = absurd (false≢true h)
above_below (x ∷ a) (y ∷ b) h = go (eqb x y) refl h (above_below a b)
  where
    go : (p : Bool) → eqb x y ≡ p → is_below (x ∷ a) (y ∷ b) ≡ true → (is_below a b ≡ true → is_below b a ≡ false) → is_below (y ∷ b) (x ∷ a) ≡ false
    go true q k more = rw (eq-eqb y x (sym (eqb-true x y q))) (more (rw q at k))
    go false q k more =
        let l = ltb-true x y (rw q at k) in
        rw (ne_eqb y x (λ e. omega arith), le-ltb y x (omega arith))

pub neither_below : (a b : List ℕ) → is_below a b ≡ false → is_below b a ≡ false → a ≡ b
unfolding is_below
neither_below [] [] h k = refl
neither_below [] (y ∷ b) h k = absurd (false≢true (sym h))
neither_below (x ∷ a) [] h k = absurd (false≢true (sym k))
neither_below (x ∷ a) (y ∷ b) h k = go (eqb x y) refl h k (neither_below a b)
  where
    go : (p : Bool) → eqb x y ≡ p → is_below (x ∷ a) (y ∷ b) ≡ false → is_below (y ∷ b) (x ∷ a) ≡ false → (is_below a b ≡ false → is_below b a ≡ false → a ≡ b) → x ∷ a ≡ y ∷ b
    go true q u v more =
        let e = eqb-true x y q in
        rw (e, more (rw q at u) (rw (eq-eqb y x (sym e)) at v))
    go false q u v more =
        let n = eqb-false x y q in
        let l = ltb-false x y (rw q at u) in
        let m = ltb-false y x (rw (ne_eqb y x (λ e. n (sym e))) at v) in
        absurd (n (omega arith))

-- a not below b, b not below c
pub not_below : (a b c : List ℕ) → is_below a b ≡ false → is_below b c ≡ false → is_below a c ≡ false
unfolding is_below
not_below [] [] c h k = k
not_below [] (y ∷ b) c h k = absurd (false≢true (sym h))
not_below (x ∷ a) b [] h k = refl
not_below (x ∷ a) [] (z ∷ c) h k = absurd (false≢true (sym k))
not_below (x ∷ a) (y ∷ b) (z ∷ c) h k = go (eqb x y) refl (eqb y z) refl h k (not_below a b c)
  where
    go : (p : Bool) → eqb x y ≡ p → (q : Bool) → eqb y z ≡ q → is_below (x ∷ a) (y ∷ b) ≡ false → is_below (y ∷ b) (z ∷ c) ≡ false → (is_below a b ≡ false → is_below b c ≡ false → is_below a c ≡ false) → is_below (x ∷ a) (z ∷ c) ≡ false
    go true p true q u v more =
        rw (eq-eqb x z (eqb-true x y p ∙ eqb-true y z q)) (more (rw p at u) (rw q at v))
    go true p false q u v more =
        let e = eqb-true x y p in
        let n = eqb-false y z q in
        rw (ne_eqb x z (λ d. n (sym e ∙ d)), le-ltb x z (omega (arith, ltb-false y z (rw q at v))))
    go false p true q u v more =
        let n = eqb-false x y p in
        let e = eqb-true y z q in
        rw (ne_eqb x z (λ d. n (d ∙ sym e)), le-ltb x z (omega (arith, ltb-false x y (rw p at u))))
    go false p false q u v more =
        let n = eqb-false x y p in
        let l = ltb-false x y (rw p at u) in
        let m = ltb-false y z (rw q at v) in
        rw (ne_eqb x z (λ d. n (omega arith)), le-ltb x z (omega arith))

-- ---- the same bytes are the same list

same_begin : (a b : List ℕ) → length a ≡ length b → begins a b ≡ true → a ≡ b
unfolding begins
same_begin [] [] h e = refl
same_begin [] (y ∷ b) h e = absurd (omega arith)
same_begin (x ∷ a) [] h e = absurd (omega arith)
same_begin (x ∷ a) (y ∷ b) h e = go (eqb x y) refl e (same_begin a b (omega arith))
  where
    go : (p : Bool) → eqb x y ≡ p → begins (x ∷ a) (y ∷ b) ≡ true → (begins a b ≡ true → a ≡ b) → x ∷ a ≡ y ∷ b
    go true q k more = rw (eqb-true x y q, more (rw q at k))
    go false q k more = absurd (false≢true (rw q at k))

pub same_name : (a b : List ℕ) → same_bytes a b ≡ true → a ≡ b
same_name a b h = go (eqb (length a) (length b)) refl h
  where
    go : (p : Bool) → eqb (length a) (length b) ≡ p → same_bytes a b ≡ true → a ≡ b
    go true k e = same_begin a b (eqb-true (length a) (length b) k) (rw k at e)
    go false k e = absurd (false≢true (rw k at e))

pub same_self : (a : List ℕ) → same_bytes a a ≡ true
unfolding begins
same_self a = rw (eq-eqb (length a) (length a) refl) (whole a)
  where
    whole : (s : List ℕ) → begins s s ≡ true
    whole [] = refl
    whole (x ∷ s) = rw (eq-eqb x x refl) (whole s)
