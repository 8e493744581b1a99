-- Laws of the fraction of a decimal, scaled to millionths.
use mathlib.Core.Path.{◌≡◌}
use Prim.Native.Nat.{ℕ, ◌+◌, ◌-◌, ◌*◌, ◌^◌, ◌<◌, ◌≤◌}
use native.Mathlib.Nat.{mul-le-mul, pow-le-pow_right}
use native.Mathlib.Omega.{arith}
use borrow.Author.Tests.{le-leb}
use mir.Syntax.{w64}
use mir.Val.{Fits}
use Rattle.numbers.specs.Inner.Places.{scale_of}

pub scale_power : (k s : ℕ) → s ≡ scale_of (6 - k) → s ≡ 10 ^ (6 - k)
unfolding scale_of
scale_power k s e = rw e (rw (le-leb (6 - k) 6 (omega arith)))

pub product_below : (v k s : ℕ) → v < 10000000000 → s ≡ scale_of (6 - k) → v * s ≤ 10000000000000000
product_below v k s h e =
    let p : 10 ^ (6 - k) ≤ 10 ^ 6 = pow-le-pow_right (omega arith) {i = 6 - k} {j = 6} (omega arith) in
    let q : s ≤ 1000000 = rw (scale_power k s e) p in
    mul-le-mul {n₂ = 10000000000} {m₂ = 1000000} (omega arith) q

pub magnitude_fits : (w v k s : ℕ) → w < 10000000000 → v < 10000000000 → s ≡ scale_of (6 - k) → Fits w64 (w * 1000000 + v * s)
magnitude_fits w v k s h i e = let p = product_below v k s i e in record { fits = omega arith }
