-- What the tests of the code say, in the words of the definitions.
use Rattle.std.proofs.Common.{◌≡◌, ℕ, ◌+◌, ◌-◌, ◌<◌, ◌≤◌, Bool, true, false, ◌&&◌, List, [], ◌∷◌, get_or, take, drop, sym, refl, ap, ◌∙◌, arith, eq-eqb, ne_eqb, le-leb}
use Rattle.std.specs.List.{list_all}
use borrow.Author.Tests.{lt-leb}
use Rattle.numbers.specs.Range.{integer_limit, decimal_limit, within}
use Rattle.cells.specs.Bytes.{quad_from, octet_at, from_complement, word_range, long_range}
use Rattle.cells.specs.Cell.{each, printable, integer_kind, decimal_kind}
use Rattle.cells.specs.Inner.Tests.{zeros, string_formed, value_formed}

pub each_all : (p : ℕ → Bool) (s : List ℕ) → list_all p s ≡ each p s
unfolding each
each_all p [] = refl
each_all p (b ∷ s) = ap (λ (t : Bool). p b && t) (each_all p s)

-- the tests of a string
module _ (s : List ℕ) (n : ℕ) (e : n ≡ get_or s 8 0) where
  pub text_long : 16 < n → false ≡ string_formed s
  unfolding string_formed
  text_long h = rw (← e, lt-leb n 16 h)

  pub text_unprintable : n ≤ 16 → (r : Bool) → r ≡ printable (take (9 + n - 9) (drop 9 s)) → r ≡ false → false ≡ string_formed s
  unfolding string_formed
  text_unprintable h r f g =
      let m : 9 + n - 9 ≡ n = omega arith in
      let q : printable (take n (drop 9 s)) ≡ false = ap (λ (k : ℕ). printable (take k (drop 9 s))) (sym m) ∙ sym f ∙ g in
      rw (← e, le-leb n 16 h, q)

  pub text_all : n ≤ 16 → (r : Bool) → r ≡ printable (take (9 + n - 9) (drop 9 s)) → r ≡ true → (q : Bool) → q ≡ zeros (take (25 - (9 + n)) (drop (9 + n) s)) → q ≡ string_formed s
  unfolding string_formed
  text_all h r f g q x =
      let m : 9 + n - 9 ≡ n = omega arith in
      let k : 25 - (9 + n) ≡ 16 - n = omega arith in
      let y : printable (take n (drop 9 s)) ≡ true = ap (λ (k : ℕ). printable (take k (drop 9 s))) (sym m) ∙ sym f ∙ g in
      rw (← e, le-leb n 16 h, y) (x ∙ ap (λ (k : ℕ). zeros (take k (drop (9 + n) s))) k)

-- the value by the kind
module _ (s : List ℕ) (r : Bool) where
  pub value_of_integer : get_or s 0 0 ≡ integer_kind → (n : ℕ) → n ≡ quad_from s 8 → r ≡ within integer_limit (from_complement word_range n) → r ≡ value_formed s
  unfolding value_formed
  value_of_integer e n q f = rw (eq-eqb _ _ e, ← q) f

  pub value_of_decimal : (get_or s 0 0 ≡ integer_kind → ⊥) → get_or s 0 0 ≡ decimal_kind → (n : ℕ) → n ≡ octet_at s 8 → r ≡ within decimal_limit (from_complement long_range n) → r ≡ value_formed s
  unfolding value_formed
  value_of_decimal n e m q f = rw (ne_eqb _ _ n, eq-eqb _ _ e, ← q) f

  pub value_of_string : (get_or s 0 0 ≡ integer_kind → ⊥) → (get_or s 0 0 ≡ decimal_kind → ⊥) → r ≡ string_formed s → r ≡ value_formed s
  unfolding value_formed
  value_of_string n m f = rw (ne_eqb _ _ n, ne_eqb _ _ m) f
