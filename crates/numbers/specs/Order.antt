-- Numbers of either kind, by value.
use Rattle.std.specs.Prelude.{Bool, false, eqb, ℤ, pos, negsuc}
use Rattle.std.specs.Int.Signed.{lt_z, le_z}
use Rattle.numbers.specs.declared.Quantity.{Quantity}
use Rattle.numbers.specs.Range.{millionths}

abbrev pub eq_z : ℤ → ℤ → Bool
eq_z (pos a) (pos b) = eqb a b
eq_z (pos a) (negsuc b) = false
eq_z (negsuc a) (pos b) = false
eq_z (negsuc a) (negsuc b) = eqb a b

-- "two numbers, by value"
abbrev pub equal_to : Quantity → Quantity → Bool
equal_to p q = eq_z (millionths p) (millionths q)

abbrev pub less_than : Quantity → Quantity → Bool
less_than p q = lt_z (millionths p) (millionths q)

abbrev pub at_most : Quantity → Quantity → Bool
at_most p q = le_z (millionths p) (millionths q)

-- "one number, non-zero or zero"
abbrev pub is_zero : Quantity → Bool
is_zero q = eq_z (millionths q) (pos 0)
