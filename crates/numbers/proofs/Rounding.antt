-- The rounded quotient of magnitudes, and the table of powers of ten.
use mathlib.Core.Path.{◌≡◌, sym, ap, ◌∙◌}
use Prim.Native.Nat.{ℕ, ◌+◌, ◌*◌, ◌-◌, ◌/◌, ◌^◌, ◌≤◌, ◌<◌}
use native.Mathlib.Nat.{mul-div-le, lt-mul-div-succ, div-div-eq-div-mul, div-lt_iff_lt-mul, mul-le-mul, mul_assoc, pow-le-pow_right, mul-add-div_right, div-eq_of_lt}
use native.Mathlib.Omega.{arith}
use lib.Pow.{pow-add}
use Rattle.numbers.specs.Rounding.{rounded}

-- why it is the nearest, halves up: it is the one r with b * r - b / 2 ≤ a < b * r + b / 2, doubled
pub record Nearest (a b r : ℕ) : Type 0 where
  pub low : 2 * b * r ≤ 2 * a + b
  pub high : 2 * a + b < 2 * b * (r + 1)

pub nearest : (a b : ℕ) → 0 < b → Nearest a b (rounded a b)
unfolding rounded
nearest a b h = record {
  low = mul-div-le (2 * a + b) (2 * b);
  high = lt-mul-div-succ (2 * a + b) (omega arith);
}

-- the form that doesn't double
pub rounded_half : (a b : ℕ) → rounded a b ≡ (a + b / 2) / b
unfolding rounded
rounded_half a b = sym (div-div-eq-div-mul (2 * a + b) 2 b) ∙ ap (λ (n : ℕ). n / b) (omega arith)

-- a multiple of the divisor is divided exactly
pub rounded_exact : (a b : ℕ) → 0 < b → rounded (a * b) b ≡ a
rounded_exact a b h =
    rounded_half (a * b) b ∙ mul-add-div_right h a (b / 2) ∙ rw (div-eq_of_lt {n = b / 2} {m = b} (omega arith)) (omega arith)

-- it is no more than the dividend
pub rounded_le : (a b : ℕ) → 0 < b → rounded a b ≤ a
unfolding rounded
rounded_le a b h =
    let m : 1 * a ≤ b * a = mul-le-mul {n₂ = b} {m₂ = a} (omega arith) (omega arith) in
    let l : rounded a b < a + 1 = (div-lt_iff_lt-mul {k = 2 * b} {x = 2 * a + b} {y = a + 1} (omega arith)).1 (omega arith) in
    omega arith

-- ---- powers of ten

pub power_above : (n : ℕ) → 0 < 10 ^ n
power_above n = pow-le-pow_right {n = 10} (omega arith) {i = 0} {j = n} (omega arith)

-- 10^6 units of 6 places are 10^d units of d places
pub power_split : (n d : ℕ) → d ≤ 6 → n * 1000000 ≡ n * 10 ^ d * 10 ^ (6 - d)
power_split n d h =
    let e : d + (6 - d) ≡ 6 = omega arith in
    ap (λ (k : ℕ). n * 10 ^ k) (sym e) ∙ ap (λ (p : ℕ). n * p) (pow-add 10 d (6 - d)) ∙ sym (mul_assoc n (10 ^ d) (10 ^ (6 - d)))
