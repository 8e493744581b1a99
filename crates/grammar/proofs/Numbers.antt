-- Numbers, literals and indexes: what is read is spelled, and what is spelled is read.
use Rattle.std.specs.Prelude.{Option, Some, None}
use mathlib.Core.Path.{◌≡◌, refl, sym, ap, ◌∙◌, subst}
use mathlib.Core.Bool.{Bool, true, false}
use mathlib.Core.List.{List, [], ◌∷◌, ◌++◌}
use Prim.Native.Nat.{ℕ, suc, ◌+◌, ◌-◌, ◌*◌, ◌^◌, ◌≤◌, ◌<◌}
use native.Mathlib.Nat.{pow-suc, pow-le-pow_right, mul-le-mul_right}
use native.Mathlib.Omega.{arith}
use borrow.Author.Tests.{leb-true, leb-false, le-leb, eqb-false, ne_eqb, le-ltb}
use lib.Dec.{leb, eqb}
use lib.ListN.{length, get_or, take, drop, get_or-append}
use Rattle.scan.specs.declared.run.Class.TheVariants.{Digit}
use Rattle.scan.specs.declared.digits.Digits.{Digits}
use Rattle.scan.specs.Run.{span}
use Rattle.scan.specs.Line.{byte_at, byte_is}
use Rattle.scan.specs.Value.{value_from, value_of}
use Rattle.scan.specs.Readers.Digits.{digits_at, number_at}
use Rattle.scan.proofs.DigitLaws.{digit_bounds}
use Rattle.scan.proofs.NumberLaws.{Within, number_within}
use Rattle.grammar.specs.Number.{All, Numbered}
use Rattle.grammar.proofs.Standing.{tested, Found, byte_is_law, Stops, span_all, span_exact, span_here}

-- ---- digits

-- a row of digits is read whole where no digit follows
pub digits_read : (l : List ℕ) (at most : ℕ) (s r : List ℕ) → most ≤ 10 → drop at l ≡ s ++ r → All Digit s → length s ≤ most → Stops Digit r → digits_at l at most ≡ record { count = length s; value = value_of s }
unfolding digits_at
digits_read l at most s r h e a k t = rw (le-ltb 10 most h, e) (ap digits_of' (span_exact Digit s r most a k t))
  where
    digits_of' : List ℕ → Digits
    digits_of' d = record { count = length d; value = value_of d }

-- ---- numbers without leading zeros

value_grows : (s : List ℕ) (v : ℕ) → v * 10 ^ length s ≤ value_from v s
unfolding value_from
value_grows [] v = omega arith
value_grows (d ∷ s) v = let h = value_grows s (v * 10 + (d - 48)) in rw (pow-suc 10 (length s)) (omega (arith, h))

-- a number of more than five digits without a leading zero is over 65,535
few_digits : (s : List ℕ) → All Digit s → (byte_at s 0 ≡ 48 → ⊥) → value_of s ≤ 65535 → length s ≤ 5
unfolding All value_from byte_at
few_digits [] a z h = omega arith
few_digits (d ∷ s) a z h =
    let g = value_grows s (0 * 10 + (d - 48)) in
    let b = digit_bounds d a.0 in
    go (leb (length s) 4) refl g b
  where
    go : (t : Bool) → leb (length s) 4 ≡ t → (0 * 10 + (d - 48)) * 10 ^ length s ≤ value_from (0 * 10 + (d - 48)) s → (48 ≤ d) × (d ≤ 57) → suc (length s) ≤ 5
    go true e g b = omega (arith, leb-true (length s) 4 e)
    go false e g b =
        let k : 10 ^ 5 ≤ 10 ^ length s = pow-le-pow_right (omega arith) (leb-false (length s) 4 e) in
        let m : 1 * 10 ^ length s ≤ (0 * 10 + (d - 48)) * 10 ^ length s = mul-le-mul_right (10 ^ length s) (omega (arith, z, b)) in
        absurd (omega (arith, h, g, k, m))

pub some_digits : (limit n : ℕ) (s : List ℕ) → Numbered limit n s → 0 < length s
unfolding value_from
some_digits limit n [] k = absurd (omega (arith, k.least, k.value))
some_digits limit n (d ∷ s) k = omega arith

-- the first byte of a row that is not empty
pub first_byte : (s r : List ℕ) → 0 < length s → get_or (s ++ r) 0 0 ≡ byte_at s 0
unfolding byte_at
first_byte s r h = get_or-append s r 0 0 h

-- a number that is spelled is read
pub number_read : (l : List ℕ) (at limit n : ℕ) (s r : List ℕ) → limit ≤ 65535 → drop at l ≡ s ++ r → Numbered limit n s → Stops Digit r → number_at l at limit ≡ Some (n, at + length s)
unfolding number_at
number_read l at limit n s r h e k t =
    let some = some_digits limit n s k in
    let d : digits_at l at 5 ≡ record { count = length s; value = value_of s } = digits_read l at 5 s r (omega arith) e k.digits (few_digits s k.digits k.leading (omega (arith, k.value, k.most))) t in
    let z : byte_is l at "0" ≡ false = ne_eqb (byte_at l at) 48 (λ q. k.leading (sym (byte_is_law l at (s ++ r) e ∙ first_byte s r some) ∙ q)) in
    rw (z, d, ne_eqb (length s) 0 (λ q. omega (arith, some)), k.value, le-leb n limit k.most)

-- what is read as a number is spelled so
abbrev NumberSound : List ℕ → ℕ → ℕ → Option (ℕ × ℕ) → Type 0
NumberSound l at limit (Some (n, next)) = Found (Numbered limit n) l at next
NumberSound l at limit None = Unit {0}

number_sound : (l : List ℕ) (at limit : ℕ) → NumberSound l at limit (number_at l at limit)
unfolding number_at digits_at
number_sound l at limit =
    let s : List ℕ = span Digit (take 5 (drop at l)) in
    tested (NumberSound l at limit) (byte_is l at "0") (λ z. tt) (λ z.
    tested (NumberSound l at limit) (eqb (length s) 0) (λ c. tt) (λ c.
    tested (NumberSound l at limit) (leb (value_of s) limit) (λ v.
    let some : 0 < length s = omega (arith, eqb-false (length s) 0 c) in
    let q : number_at l at limit ≡ Some (value_of s, at + length s) = rw (z, c, v) in
    let w = subst (Within limit at) q (number_within l at limit) in
    let h = span_here Digit l at 5 in
    record {
      bytes = s;
      spelled = record {
        digits = span_all Digit (take 5 (drop at l));
        leading = λ e. eqb-false (byte_at l at) 48 z (byte_is_law l at (s ++ drop (at + length s) l) h ∙ first_byte s (drop (at + length s) l) some ∙ e);
        least = w.least;
        most = w.most;
        value = refl;
      };
      here = h;
      behind = refl;
    }) (λ v. tt)))

pub number_spelled : (l : List ℕ) (at limit n next : ℕ) → number_at l at limit ≡ Some (n, next) → Found (Numbered limit n) l at next
number_spelled l at limit n next e = subst (NumberSound l at limit) e (number_sound l at limit)
