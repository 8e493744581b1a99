-- Laws of signed 64-bit numbers made of a sign and a magnitude.
use mathlib.Core.Path.{◌≡◌}
use Prim.Native.Nat.{ℕ, zero, suc, ◌<◌, ◌≤◌, ◌^◌}
use native.Mathlib.Omega.{arith}
use mathlib.Core.Bool.{Bool, true, false}
use lib.IntN.{ℤ, pos, neg_ℤ}
use mir.Syntax.{w64}
use mir.Val.{SFits, to_z, of_z}
use mir.ValLaws.{to_z-of_z}
use Rattle.numbers.specs.Sign.{signed}

pub negative_fits : (m : ℕ) → m < 2 ^ 63 → SFits w64 (neg_ℤ (pos m))
negative_fits zero h = record { sfits = omega arith }
negative_fits (suc n) h = record { sfits = omega arith }

signed_fits : (b : Bool) (m : ℕ) → m < 2 ^ 63 → SFits w64 (signed b m)
signed_fits true m h = negative_fits m h
signed_fits false m h = record { sfits = h }

-- a signed number is read back from its bits
pub read_back : (b : Bool) (m limit : ℕ) (z : ℤ) → m ≤ limit → limit < 2 ^ 63 → z ≡ signed b m → to_z w64 (of_z w64 z) ≡ z
read_back b m limit z k h e = to_z-of_z w64 z (rw e (signed_fits b m (omega arith)))
