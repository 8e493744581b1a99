-- Whole parts.
use Rattle.std.specs.Prelude.{ℤ, pos}
use Rattle.std.specs.Int.Signed.{quot_z}
use Rattle.numbers.specs.declared.Quantity.{Quantity}
use Rattle.numbers.specs.Range.{millionths}

-- "|INT (an integer, toward zero)"
abbrev pub whole_of : Quantity → ℤ
whole_of q = quot_z (millionths q) (pos 1000000)
