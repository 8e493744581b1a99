-- Laws of digits, and of the loop that reads them.
use Rattle.std.specs.Char.{is_ascii_digit}
use mathlib.Core.Path.{◌≡◌, refl, ap, sym, ◌∙◌}
use mathlib.Core.Bool.{Bool, true, false, cond, ◌&&◌, false≢true}
use mathlib.Core.List.{List, [], ◌∷◌}
use Prim.Native.Nat.{ℕ, suc, ◌+◌, ◌-◌, ◌*◌, ◌^◌, ◌<◌, ◌≤◌}
use native.Mathlib.Nat.{pow-suc, pow-le-pow_right, lt_of_lt_of_le}
use native.Mathlib.Numerals.{add-one}
use native.Mathlib.Omega.{arith}
use borrow.Author.Tests.{leb-true, ltb-true, ltb-false, le-ltb}
use lib.Dec.{leb, ltb}
use lib.ListN.{length, get_or, take, drop, length-take}
use Rattle.scan.specs.declared.run.Class.TheVariants.{Digit}
use Rattle.scan.specs.declared.digits.Digits.{Digits}
use Rattle.scan.specs.Run.{belongs, span}
use Rattle.scan.specs.Value.{value_from}
use Rattle.scan.specs.Readers.Digits.{digits_at}
use Rattle.scan.proofs.RunLaws.{span_end, span_stop, span_more, run_within, length_span}

digit_range : (b : ℕ) (p q : Bool) → leb 48 b ≡ p → leb b 57 ≡ q → (p && q) ≡ true → (48 ≤ b) × (b ≤ 57)
digit_range b true true e f t = (leb-true 48 b e, leb-true b 57 f)
digit_range b true false e f t = absurd (false≢true t)
digit_range b false q e f t = absurd (false≢true t)

pub digit_bounds : (b : ℕ) → belongs Digit b ≡ true → (48 ≤ b) × (b ≤ 57)
unfolding belongs
digit_bounds b t = digit_range b (leb 48 b) (leb b 57) refl refl t

-- Rust's test of a digit is the class's
pub digit_told : (b : ℕ) {t u : Bool} → t ≡ is_ascii_digit b → t ≡ u → belongs Digit b ≡ u
unfolding belongs
digit_told b e q = sym e ∙ q

module _ (l : List ℕ) (i v : ℕ) where
  pub value_end : length l ≤ i → value_from v (span Digit (drop i l)) ≡ v
  unfolding value_from
  value_end h = rw (span_end Digit l i h)

  pub value_stop : i < length l → belongs Digit (get_or l i 0) ≡ false → value_from v (span Digit (drop i l)) ≡ v
  unfolding value_from
  value_stop h e = rw (span_stop Digit l i h e)

  pub value_more : i < length l → belongs Digit (get_or l i 0) ≡ true → value_from v (span Digit (drop i l)) ≡ value_from (v * 10 + (get_or l i 0 - 48)) (span Digit (drop (i + 1) l))
  unfolding value_from
  value_more h e = rw (span_more Digit l i h e)

-- a value of i digits, and one digit more
pub bound_more : (v b i : ℕ) → v < 10 ^ i → 48 ≤ b → b ≤ 57 → v * 10 + (b - 48) < 10 ^ (i + 1)
bound_more v b i h p q = rw (add-one i, pow-suc 10 i) (omega arith)

pub bound_ten : (v i : ℕ) → v < 10 ^ i → i ≤ 10 → v < 10000000000
bound_ten v i h k = let m : 10 ^ i ≤ 10 ^ 10 = pow-le-pow_right (omega arith) k in omega arith

-- digits at a place of a line end within it
pub digits_within : (l : List ℕ) (at most : ℕ) (d : Digits) → d ≡ digits_at l at most → (d.count ≡ 0 → ⊥) → at + d.count ≤ length l
unfolding digits_at
digits_within l at most d e h =
    let q : d.count ≡ (digits_at l at most).count = ap (λ (x : Digits). x.count) e in
    let k : 0 < d.count = omega arith in
    rw q (run_within Digit l at (cond (ltb 10 most) 10 most) (rw q at k))

-- there are no more digits than allowed
pub digits_count : (l : List ℕ) (at most : ℕ) (d : Digits) → d ≡ digits_at l at most → d.count ≤ most
unfolding digits_at
digits_count l at most d e =
    let n = cond (ltb 10 most) 10 most in
    let q : d.count ≡ (digits_at l at most).count = ap (λ (x : Digits). x.count) e in
    omega (arith, q, length_span Digit (take n (drop at l)), length-take n (drop at l), few most (ltb 10 most) refl)
  where
    few : (m : ℕ) (t : Bool) → ltb 10 m ≡ t → cond (ltb 10 m) 10 m ≤ m
    few m true q = rw q (omega (arith, ltb-true 10 m q))
    few m false q = rw q (omega arith)

-- a value of k digits with the digits of s behind it
value_below : (s : List ℕ) (v k : ℕ) → v < 10 ^ k → value_from v (span Digit s) < 10 ^ (k + length s)
unfolding span value_from
value_below [] v k h = let e : k + 0 ≡ k = omega arith in rw e h
value_below (b ∷ s) v k h = go (belongs Digit b) refl (λ w. value_below s (v * 10 + (b - 48)) (k + 1) w)
  where
    go : (t : Bool) → belongs Digit b ≡ t → (v * 10 + (b - 48) < 10 ^ (k + 1) → value_from (v * 10 + (b - 48)) (span Digit s) < 10 ^ (k + 1 + length s)) → value_from v (span Digit (b ∷ s)) < 10 ^ (k + length (b ∷ s))
    go true e more =
        let d = digit_bounds b e in
        let q : k + suc (length s) ≡ k + 1 + length s = omega arith in
        rw (e, q) (more (bound_more v b k h d.0 d.1))
    go false e more = rw e (lt_of_lt_of_le h (pow-le-pow_right (omega arith) (omega arith)))

-- a value of at most ten digits
pub digits_below : (l : List ℕ) (at most : ℕ) (d : Digits) → d ≡ digits_at l at most → d.value < 10000000000
unfolding digits_at
digits_below l at most d e =
    let n = cond (ltb 10 most) 10 most in
    let s = take n (drop at l) in
    rw (ap (λ (x : Digits). x.value) e)
    (bound_ten _ (0 + length s) (value_below s 0 0 (omega arith)) (omega (arith, length-take n (drop at l), ten most (ltb 10 most) refl)))
  where
    ten : (m : ℕ) (t : Bool) → ltb 10 m ≡ t → cond (ltb 10 m) 10 m ≤ 10
    ten m true q = rw q (omega arith)
    ten m false q = rw q (ltb-false 10 m q)

-- a value of at most so many digits
pub digits_power : (l : List ℕ) (at most : ℕ) → most ≤ 10 → (digits_at l at most).value < 10 ^ most
unfolding digits_at
digits_power l at most h =
    rw (le-ltb 10 most h)
    (lt_of_lt_of_le (value_below (take most (drop at l)) 0 0 (omega arith)) (pow-le-pow_right (omega arith) (omega (arith, length-take most (drop at l)))))
