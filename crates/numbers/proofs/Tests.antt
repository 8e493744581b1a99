-- Tests that pick one of two cases.
use mathlib.Core.Path.{◌≡◌, refl, sym, subst}
use mathlib.Core.Bool.{Bool, true, false, cond, ◌&&◌}
use lib.Dec.{T}

-- where the second case isn't the answer, the test passed and the first is
pub first_case : {A : Type 0} (t : Bool) {x y z : A} → cond t x y ≡ z → (y ≡ z → ⊥) → (t ≡ true) × (x ≡ z)
first_case true e n = (refl, e)
first_case false e n = absurd (n e)

-- where the first case isn't the answer, the second is
pub other_case : {A : Type 0} (t : Bool) {x y z : A} → cond t x y ≡ z → (x ≡ z → ⊥) → y ≡ z
other_case true e n = absurd (n e)
other_case false e n = e

pub and_true : (s t : Bool) → s && t ≡ true → (s ≡ true) × (t ≡ true)
and_true true t e = (refl, e)
and_true false t e = absurd (subst T (sym e) tt)

-- where a test alone picks the second case, it does so with another before it
pub second_case : {A : Type 0} (s t : Bool) (x y : A) {z : A} → cond t x z ≡ z → (x ≡ z → ⊥) → cond (s && t) y z ≡ z
second_case true true x y e n = absurd (n e)
second_case true false x y e n = refl
second_case false t x y e n = refl
