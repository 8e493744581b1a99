-- Rounded products and quotients of magnitudes in 64 bits: what `decimal::product` and `decimal::quotient` compute.
use mathlib.Core.Path.{◌≡◌, sym, ap, ◌∙◌}
use Prim.Native.Nat.{ℕ, ◌+◌, ◌*◌, ◌/◌, ◌%◌, ◌≤◌, ◌<◌}
use native.Mathlib.Nat.{mul-le-mul, mod-lt, div-add-mod', div-lt_iff_lt-mul, mul-add-div_right}
use native.Mathlib.Omega.{arith}
use Rattle.numbers.specs.Range.{decimal_limit}
use Rattle.numbers.specs.Rounding.{rounded}
use Rattle.numbers.proofs.Rounding.{rounded_half}

-- ---- products: whole parts and millionths apart

columns : (ah al bh bl : ℕ) → ((ah * 1000000 + al) * (bh * 1000000 + bl) + 500000) / 1000000 ≡ ah * bh * 1000000 + (ah * bl + al * bh) + (al * bl + 500000) / 1000000
columns ah al bh bl = omega arith

abbrev pub Product : ℕ → ℕ → ℕ
Product a b =
    a / 1000000 * (b / 1000000) * 1000000 + (a / 1000000 * (b % 1000000) + a % 1000000 * (b / 1000000)) + (a % 1000000 * (b % 1000000) + 500000) / 1000000

pub product_is : (a b : ℕ) → rounded (a * b) 1000000 ≡ Product a b
product_is a b =
    rounded_half (a * b) 1000000
    ∙ (λ i. (sym (div-add-mod' a 1000000) i * sym (div-add-mod' b 1000000) i + 500000) / 1000000)
    ∙ columns (a / 1000000) (a % 1000000) (b / 1000000) (b % 1000000)

pub record ProductFits (a b : ℕ) : Type 0 where
  pub hh : a / 1000000 * (b / 1000000) ≤ 2000000000 * 2000000000
  pub hl : a / 1000000 * (b % 1000000) ≤ 2000000000 * 1000000
  pub lh : a % 1000000 * (b / 1000000) ≤ 1000000 * 2000000000
  pub ll : a % 1000000 * (b % 1000000) ≤ 1000000 * 1000000

pub product_fits : (a b : ℕ) → a ≤ decimal_limit → b ≤ decimal_limit → ProductFits a b
product_fits a b ha hb = record {
  hh = mul-le-mul {n₂ = 2000000000} {m₂ = 2000000000} (omega arith) (omega arith);
  hl = mul-le-mul {n₂ = 2000000000} {m₂ = 1000000} (omega arith) (omega arith);
  lh = mul-le-mul {n₂ = 1000000} {m₂ = 2000000000} (omega arith) (omega arith);
  ll = mul-le-mul {n₂ = 1000000} {m₂ = 1000000} (omega arith) (omega arith);
}

-- ---- quotients: the whole part, then twice three digits, then the half

steps : (a b q0 r0 q1 r1 q2 r2 h : ℕ) → q0 * b + r0 ≡ a → q1 * b + r1 ≡ r0 * 1000 → q2 * b + r2 ≡ r1 * 1000 → a * 1000000 + h ≡ (q0 * 1000000 + (q1 * 1000 + q2)) * b + (r2 + h)
steps a b q0 r0 q1 r1 q2 r2 h e0 e1 e2 = omega arith

-- the dividends of the two steps
abbrev pub first : ℕ → ℕ → ℕ
first a b = a % b * 1000

abbrev pub second : ℕ → ℕ → ℕ
second a b = first a b % b * 1000

abbrev pub Quotient : ℕ → ℕ → ℕ
Quotient a b = a / b * 1000000 + (first a b / b * 1000 + second a b / b) + (second a b % b + b / 2) / b

pub quotient_is : (a b : ℕ) → 0 < b → rounded (a * 1000000) b ≡ Quotient a b
quotient_is a b h =
    rounded_half (a * 1000000) b
    ∙ ap (λ (n : ℕ). n / b)
    (steps a b (a / b) (a % b) (first a b / b) (first a b % b) (second a b / b) (second a b % b) (b / 2) (div-add-mod' a b) (div-add-mod' (first a b) b) (div-add-mod' (second a b) b))
    ∙ mul-add-div_right h (a / b * 1000000 + (first a b / b * 1000 + second a b / b)) (second a b % b + b / 2)

digits : (r b : ℕ) → r < b → r * 1000 / b < 1000
digits r b h = (div-lt_iff_lt-mul {k = b} {x = r * 1000} {y = 1000} (omega arith)).1 (omega arith)

half : (r b : ℕ) → r < b → (r + b / 2) / b < 2
half r b h = (div-lt_iff_lt-mul {k = b} {x = r + b / 2} {y = 2} (omega arith)).1 (omega arith)

pub record QuotientFits (a b : ℕ) : Type 0 where
  pub r0 : a % b < b
  pub q1 : first a b / b < 1000
  pub r1 : first a b % b < b
  pub q2 : second a b / b < 1000
  pub r2 : second a b % b < b
  pub up : (second a b % b + b / 2) / b < 2

pub quotient_fits : (a b : ℕ) → 0 < b → QuotientFits a b
quotient_fits a b h = record {
  r0 = mod-lt a h;
  q1 = digits (a % b) b (mod-lt a h);
  r1 = mod-lt (first a b) h;
  q2 = digits (first a b % b) b (mod-lt (first a b) h);
  r2 = mod-lt (second a b) h;
  up = half (second a b % b) b (mod-lt (second a b) h);
}
