-- What callers use of the definitions, by name.
use Rattle.std.specs.Prelude.{Some, None, Result, Ok, Err}
use mathlib.Core.Path.{◌≡◌, refl, sym, ap, ◌∙◌, subst}
use mathlib.Core.Bool.{Bool, true, false, ◌&&◌}
use Prim.Native.Nat.{ℕ, ◌*◌, ◌-◌, ◌^◌, ◌≤◌, ◌<◌}
use native.Mathlib.Omega.{arith}
use lib.Dec.{T, leb, eqb}
use lib.IntN.{ℤ, pos, negsuc, nat_abs}
use mir.Syntax.{w64}
use mir.Val.{SFits}
use borrow.Author.Tests.{le-leb, lt-leb, leb-true, leb-false, eq-eqb, eqb-true}
use Rattle.numbers.specs.declared.Quantity.{Quantity}
use Rattle.numbers.specs.declared.Quantity.TheVariants.{Integer}
use Rattle.numbers.specs.Range.{integer_limit, decimal_limit, within, millionths}
use Rattle.numbers.specs.declared.ArithmeticError.{ArithmeticError}
use Rattle.numbers.specs.declared.ArithmeticError.TheVariants.{OutOfRange}
use Rattle.numbers.specs.Rounding.{rounded}
use Rattle.numbers.specs.Arithmetic.{checked, operands, divided_by, sum_of, difference_of, integer_product, integer_quotient, decimal_product, decimal_quotient, absolute_of, in_millionths}
use Rattle.numbers.specs.Order.{eq_z}
use Rattle.numbers.specs.Parts.{whole_of}
use Rattle.numbers.specs.Places.{rounded_to}
use Rattle.numbers.specs.Inner.Places.{scale_of}
use Rattle.numbers.proofs.Tests.{first_case, second_case, other_case, and_true}
use Rattle.numbers.proofs.Machine.{back, read, read₂, abs_mul, abs_quot, abs_fits}
use Rattle.numbers.proofs.Rounding.{rounded_le, rounded_exact, power_above, power_split}

-- ---- ranges

pub within_in : (limit : ℕ) (z : ℤ) → nat_abs z ≤ limit → within limit z ≡ true
unfolding within
within_in limit z h = le-leb _ _ h

pub within_out : (limit : ℕ) (z : ℤ) → limit < nat_abs z → within limit z ≡ false
unfolding within
within_out limit z h = lt-leb _ _ h

pub within_true : (limit : ℕ) (z : ℤ) → within limit z ≡ true → nat_abs z ≤ limit
unfolding within
within_true limit z e = leb-true _ _ e

pub within_false : (limit : ℕ) (z : ℤ) → within limit z ≡ false → limit < nat_abs z
unfolding within
within_false limit z e = leb-false _ _ e

-- two operands in range
pub record Inside (limit : ℕ) (a b : ℤ) : Type 0 where
  pub left : nat_abs a ≤ limit
  pub right : nat_abs b ≤ limit

-- ---- outcomes

pub checked_in : (limit : ℕ) (z : ℤ) → nat_abs z ≤ limit → checked limit z ≡ Ok z
unfolding checked
checked_in limit z h = rw (within_in limit z h)

pub checked_out : (limit : ℕ) (z : ℤ) → limit < nat_abs z → checked limit z ≡ Err OutOfRange
unfolding checked
checked_out limit z h = rw (within_out limit z h)

pub operands_in : (limit : ℕ) (a b : ℤ) (o : Result ℤ ArithmeticError) → Inside limit a b → operands limit a b o ≡ o
unfolding operands
operands_in limit a b o h = rw (within_in limit a h.left, within_in limit b h.right)

-- the code's test of two operands that it holds in 64 bits: passed, and failed
pub inside : (limit : ℕ) {a b : ℤ} → SFits w64 a → SFits w64 b → {r : Bool} → r ≡ within limit (back a) && within limit (back b) → r ≡ true → Inside limit a b
inside limit {a} {b} sa sb {r} e t =
    let w = sym (read₂ (λ (x y : ℤ). within limit x && within limit y) sa sb e) ∙ t in
    let p = and_true _ _ w in
    record { left = within_true limit a p.0; right = within_true limit b p.1 }

pub outside : (limit : ℕ) {a b : ℤ} → SFits w64 a → SFits w64 b → {r : Bool} → r ≡ within limit (back a) && within limit (back b) → r ≡ false → (o : Result ℤ ArithmeticError) → Err OutOfRange ≡ operands limit a b o
unfolding operands
outside limit {a} {b} sa sb {r} e t o =
    let w = sym (read₂ (λ (x y : ℤ). within limit x && within limit y) sa sb e) ∙ t in
    rw w

-- a result that is computed in 64 bits from operands in range, then checked
pub calculated : (f : ℤ → ℤ → ℤ) (limit : ℕ) {a b : ℤ} → SFits w64 a → SFits w64 b → SFits w64 (f a b) → Inside limit a b → {o : Result ℤ ArithmeticError} → o ≡ checked limit (back (f (back a) (back b))) → o ≡ operands limit a b (checked limit (f a b))
calculated f limit {a} {b} sa sb s h e =
    read (checked limit) s (read₂ (λ (x y : ℤ). checked limit (back (f x y))) sa sb e) ∙ sym (operands_in limit a b _ h)

-- ---- a result is in range

unequal : {e : ArithmeticError} {z : ℤ} → ◌≡◌ {A = Result ℤ ArithmeticError} (Err e) (Ok z) → ⊥
unequal e = cc

checked_bound : (limit : ℕ) (z v : ℤ) → checked limit z ≡ Ok v → nat_abs v ≤ limit
unfolding checked
checked_bound limit z v e =
    let p = first_case (within limit z) e unequal in
    let q : z ≡ v = cc in
    rw q at (within_true limit z p.0)

operands_success : (limit : ℕ) (a b : ℤ) (o : Result ℤ ArithmeticError) (v : ℤ) → operands limit a b o ≡ Ok v → o ≡ Ok v
unfolding operands
operands_success limit a b o v e = (first_case (within limit a && within limit b) e unequal).1

divided_success : (b : ℤ) (o : Result ℤ ArithmeticError) (v : ℤ) → divided_by b o ≡ Ok v → o ≡ Ok v
unfolding divided_by
divided_success b o v e = other_case (eqb (nat_abs b) 0) e unequal

pub sum_bound : (limit : ℕ) (a b v : ℤ) → sum_of limit a b ≡ Ok v → nat_abs v ≤ limit
unfolding sum_of
sum_bound limit a b v e = checked_bound limit _ v (operands_success limit a b _ v e)

pub difference_bound : (limit : ℕ) (a b v : ℤ) → difference_of limit a b ≡ Ok v → nat_abs v ≤ limit
unfolding difference_of
difference_bound limit a b v e = checked_bound limit _ v (operands_success limit a b _ v e)

pub integer_product_bound : (a b v : ℤ) → integer_product a b ≡ Ok v → nat_abs v ≤ integer_limit
unfolding integer_product
integer_product_bound a b v e = checked_bound integer_limit _ v (operands_success integer_limit a b _ v e)

pub integer_quotient_bound : (a b v : ℤ) → integer_quotient a b ≡ Ok v → nat_abs v ≤ integer_limit
unfolding integer_quotient
integer_quotient_bound a b v e = checked_bound integer_limit _ v (divided_success b _ v (operands_success integer_limit a b _ v e))

pub decimal_product_bound : (a b v : ℤ) → decimal_product a b ≡ Ok v → nat_abs v ≤ decimal_limit
unfolding decimal_product
decimal_product_bound a b v e = checked_bound decimal_limit _ v (operands_success decimal_limit a b _ v e)

pub decimal_quotient_bound : (a b v : ℤ) → decimal_quotient a b ≡ Ok v → nat_abs v ≤ decimal_limit
unfolding decimal_quotient
decimal_quotient_bound a b v e = checked_bound decimal_limit _ v (divided_success b _ v (operands_success decimal_limit a b _ v e))

pub absolute_bound : (limit : ℕ) (z v : ℤ) → absolute_of limit z ≡ Ok v → nat_abs v ≤ limit
unfolding absolute_of
absolute_bound limit z v e = checked_bound limit _ v e

pub millionths_bound : (n v : ℤ) → in_millionths n ≡ Ok v → nat_abs v ≤ decimal_limit
unfolding in_millionths
millionths_bound n v e = checked_bound decimal_limit _ v e

pub whole_bound : (q : Quantity) → nat_abs (millionths q) ≤ decimal_limit → nat_abs (whole_of q) ≤ integer_limit
whole_bound q h = omega (arith, abs_quot (millionths q) (pos 1000000))

-- ---- a value in range, at its place in the code

-- it fits 64 bits
pub inside_fits : (z : ℤ) → nat_abs z ≤ decimal_limit → SFits w64 z
inside_fits z h = abs_fits z (omega arith)

-- an integer in range is in range as a quantity
pub integer_inside : (n : ℤ) → nat_abs n ≤ integer_limit → nat_abs (millionths (Integer n)) ≤ decimal_limit
integer_inside n h = omega (arith, abs_mul n (pos 1000000))

-- so its decimal is its value
pub millionths_in : (n : ℤ) → nat_abs n ≤ integer_limit → in_millionths n ≡ Ok (millionths (Integer n))
unfolding in_millionths
millionths_in n h = checked_in decimal_limit _ (integer_inside n h)

-- ---- rounding to places

apart : {u : ℕ} → Some u ≡ None → ⊥
apart n = let z : ◌≡◌ {A = ℕ} 0 1 = cc in omega arith

pub places_in_law : (q : Quantity) (d : ℕ) → d ≤ 6 → nat_abs (millionths q) ≤ decimal_limit → rounded_to q d ≡ Some (rounded (nat_abs (millionths q)) (10 ^ (6 - d)))
unfolding rounded_to
places_in_law q d hd hq = rw (le-leb d 6 hd, within_in decimal_limit (millionths q) hq)

pub places_out : (q : Quantity) (d : ℕ) → d ≤ 6 → decimal_limit < nat_abs (millionths q) → rounded_to q d ≡ None
unfolding rounded_to
places_out q d hd hq = rw (le-leb d 6 hd, within_out decimal_limit (millionths q) hq)

pub places_many : (q : Quantity) (d : ℕ) → 6 < d → rounded_to q d ≡ None
unfolding rounded_to
places_many q d h = rw (lt-leb d 6 h)

-- where units are given, the quantity is in range and these are its units
pub record Given (q : Quantity) (d u : ℕ) : Type 0 where
  pub places : d ≤ 6
  pub inside : nat_abs (millionths q) ≤ decimal_limit
  pub units : rounded (nat_abs (millionths q)) (10 ^ (6 - d)) ≡ u

pub given : (q : Quantity) (d u : ℕ) → rounded_to q d ≡ Some u → Given q d u
unfolding rounded_to
given q d u e =
    let p = first_case _ e (λ n. apart (sym n)) in
    let t = and_true _ _ p.0 in
    record {
      places = leb-true _ _ t.0;
      inside = within_true _ _ t.1;
      units = cc;
    }

-- units of 6 places are millionths
pub sixth : (q : Quantity) (m : ℕ) → nat_abs (millionths q) ≡ m → m ≤ decimal_limit → rounded_to q 6 ≡ Some m
unfolding rounded
sixth q m e h = places_in_law q 6 (omega arith) (omega arith) ∙ ap Some (omega arith)

-- "rounded to d places" of what has been found in range in millionths
pub coarser : (q : Quantity) (d m : ℕ) → rounded_to q 6 ≡ Some m → d ≤ 6 → rounded_to q d ≡ Some (rounded m (10 ^ (6 - d)))
unfolding rounded
coarser q d m e h =
    let g = given q 6 m e in
    let s : nat_abs (millionths q) ≡ m = omega (arith, g.units) in
    places_in_law q d h g.inside ∙ ap (λ (n : ℕ). Some (rounded n (10 ^ (6 - d)))) s

-- a quantity that is out of range in millionths is so at any number of places
pub refused_all : (q : Quantity) (d : ℕ) → rounded_to q 6 ≡ None → rounded_to q d ≡ None
unfolding rounded_to
refused_all q d e = second_case (leb d 6) _ _ _ e apart

-- units of a value in range are at most 2×10^15
pub units_bound : (q : Quantity) (d u : ℕ) → rounded_to q d ≡ Some u → u ≤ decimal_limit
units_bound q d u e =
    let g = given q d u e in
    omega (arith, g, rounded_le (nat_abs (millionths q)) (10 ^ (6 - d)) (power_above (6 - d)))

-- an integer n has n × 10^d units of d places
pub integer_units : (n : ℤ) (d : ℕ) → d ≤ 6 → nat_abs n ≤ integer_limit → rounded_to (Integer n) d ≡ Some (nat_abs n * 10 ^ d)
integer_units n d hd hn =
    let p = 10 ^ (6 - d) in
    let s : nat_abs (millionths (Integer n)) ≡ nat_abs n * 1000000 = abs_mul n (pos 1000000) in
    places_in_law (Integer n) d hd (omega arith)
    ∙ ap (λ (m : ℕ). Some (rounded m p)) (s ∙ power_split (nat_abs n) d hd)
    ∙ ap Some (rounded_exact (nat_abs n * 10 ^ d) p (power_above (6 - d)))

-- ---- the scale of some places

pub scale_power : (d : ℕ) → d ≤ 6 → scale_of d ≡ 10 ^ d
unfolding scale_of
scale_power d h = rw (le-leb d 6 h)

-- ---- the test of equality tells equal numbers

pub eq_z_true : (x y : ℤ) → eq_z x y ≡ true → x ≡ y
eq_z_true (pos a) (pos b) e = ap pos (eqb-true a b e)
eq_z_true (pos a) (negsuc b) e = absurd (subst T (sym e) tt)
eq_z_true (negsuc a) (pos b) e = absurd (subst T (sym e) tt)
eq_z_true (negsuc a) (negsuc b) e = ap negsuc (eqb-true a b e)

pub eq_z_refl : (x : ℤ) → eq_z x x ≡ true
eq_z_refl (pos a) = eq-eqb a a refl
eq_z_refl (negsuc a) = eq-eqb a a refl
