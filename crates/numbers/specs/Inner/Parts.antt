-- What a whole part leaves.
use Rattle.std.specs.Prelude.{ℤ, pos}
use Rattle.std.specs.Int.Signed.{rem_z}
use Rattle.numbers.specs.declared.Quantity.{Quantity}
use Rattle.numbers.specs.Range.{millionths}

-- the millionths that |INT leaves
abbrev pub rest_of : Quantity → ℤ
rest_of q = rem_z (millionths q) (pos 1000000)
