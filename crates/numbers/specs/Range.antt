-- The range of numbers.
use Rattle.std.specs.Prelude.{ℕ, Bool, leb, ℤ, pos, nat_abs, ◌*ℤ◌}
use Rattle.numbers.specs.declared.Quantity.{Quantity}
use Rattle.numbers.specs.declared.Quantity.TheVariants.{Integer, Decimal}

-- "Values lie within ±2,000,000,000, so within ±2×10^15 millionths"
abbrev pub integer_limit : ℕ
integer_limit = 2000000000

abbrev pub decimal_limit : ℕ
decimal_limit = 2000000000000000

unfoldable pub within : ℕ → ℤ → Bool
within limit z = leb (nat_abs z) limit

-- the value of a number of either kind, in millionths
abbrev pub millionths : Quantity → ℤ
millionths (Integer n) = n *ℤ pos 1000000
millionths (Decimal m) = m
