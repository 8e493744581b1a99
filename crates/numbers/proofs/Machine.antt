-- Signed 64-bit numbers: their magnitudes, and how a call's arguments are read back from their bits.
use mathlib.Core.Path.{◌≡◌, refl, ap, ◌∙◌}
use mathlib.Core.Bool.{Bool, true, false, cond}
use Prim.Native.Nat.{ℕ, zero, suc, ◌+◌, ◌-◌, ◌*◌, ◌/◌, ◌^◌, ◌<◌, ◌≤◌}
use native.Mathlib.Omega.{arith}
use lib.IntN.{ℤ, pos, negsuc, neg_ℤ, nat_abs, sub_ℕ, ◌+ℤ◌, ◌-ℤ◌, ◌*ℤ◌}
use lib.Signed.{quot_z}
use lib.Dec.{ltb}
use borrow.Author.Tests.{ltb-true}
use native.Mathlib.Nat.{mul-le-mul}
use mir.Syntax.{w64}
use mir.Val.{SFits, to_z, of_z}
use mir.ValLaws.{to_z-of_z}
use Rattle.numbers.specs.Range.{integer_limit}
use Rattle.numbers.specs.Sign.{signed}

-- ---- a signed value in a register holds bits, and is read back from them

abbrev pub back : ℤ → ℤ
back z = to_z w64 (of_z w64 z)

pub read : {X : Type 0} (f : ℤ → X) {x : ℤ} → SFits w64 x → {r : X} → r ≡ f (back x) → r ≡ f x
read f {x} s e = e ∙ ap f (to_z-of_z w64 x s)

pub read₂ : {X : Type 0} (f : ℤ → ℤ → X) {x y : ℤ} → SFits w64 x → SFits w64 y → {r : X} → r ≡ f (back x) (back y) → r ≡ f x y
read₂ f {x} {y} s t e = e ∙ (λ i. f (to_z-of_z w64 x s i) (to_z-of_z w64 y t i))

-- ---- magnitudes

pub abs_neg : (z : ℤ) → nat_abs (neg_ℤ z) ≡ nat_abs z
abs_neg (pos zero) = refl
abs_neg (pos (suc n)) = refl
abs_neg (negsuc n) = refl

pub abs_mul : (a b : ℤ) → nat_abs (a *ℤ b) ≡ nat_abs a * nat_abs b
abs_mul (pos a) (pos b) = refl
abs_mul (pos a) (negsuc b) = abs_neg (pos (a * suc b))
abs_mul (negsuc a) (pos b) = abs_neg (pos (suc a * b))
abs_mul (negsuc a) (negsuc b) = refl

-- of two integers in range the product fits 64 bits
pub abs_product : (a b : ℤ) → nat_abs a ≤ integer_limit → nat_abs b ≤ integer_limit → nat_abs (a *ℤ b) ≤ 4000000000000000000
abs_product a b h k =
    let m = mul-le-mul {n₂ = integer_limit} {m₂ = integer_limit} h k in
    omega (arith, abs_mul a b, m)

pub abs_signed : (negative : Bool) (m : ℕ) → nat_abs (signed negative m) ≡ m
abs_signed true m = abs_neg (pos m)
abs_signed false m = refl

sub_abs : (a b : ℕ) → nat_abs (sub_ℕ a b) ≤ a + b
sub_abs a b = go (ltb a b) refl
  where
    go : (t : Bool) → ltb a b ≡ t → nat_abs (cond t (negsuc (b - suc a)) (pos (a - b))) ≤ a + b
    go true e = let h : a < b = ltb-true a b e in omega arith
    go false e = omega arith

pub abs_add : (a b : ℤ) → nat_abs (a +ℤ b) ≤ nat_abs a + nat_abs b
abs_add (pos a) (pos b) = omega arith
abs_add (pos a) (negsuc b) = sub_abs a (suc b)
abs_add (negsuc a) (pos b) = omega (arith, sub_abs b (suc a))
abs_add (negsuc a) (negsuc b) = omega arith

pub abs_sub : (a b : ℤ) → nat_abs (a -ℤ b) ≤ nat_abs a + nat_abs b
abs_sub a b = rw abs_neg at (abs_add a (neg_ℤ b))

pub abs_quot : (a b : ℤ) → nat_abs (quot_z a b) ≡ nat_abs a / nat_abs b
abs_quot (pos a) (pos b) = refl
abs_quot (pos a) (negsuc b) = abs_neg (pos (a / suc b))
abs_quot (negsuc a) (pos b) = abs_neg (pos (suc a / b))
abs_quot (negsuc a) (negsuc b) = refl

-- a number that is not too large fits
pub abs_fits : (z : ℤ) → nat_abs z < 2 ^ 63 → SFits w64 z
abs_fits (pos n) h = record { sfits = h }
abs_fits (negsuc n) h = record { sfits = omega arith }
