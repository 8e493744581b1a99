-- The product of two integers in range is at most 4×10^18, so 64 bits hold it.
use native.Mathlib.Omega.{arith}
use lib.IntN.{◌*ℤ◌}
use Rattle.numbers.specs.Range.{integer_limit}
use Rattle.numbers.specs.Arithmetic.{integer_product}
use Rattle.numbers.proofs.Machine.{abs_fits, abs_product}
use Rattle.numbers.proofs.Laws.{inside, calculated}
use Rattle.numbers.proofs.integer.multiply.Goals as goal

pub returns : goal.returns
unfolding integer_product
returns c =
    let k = inside integer_limit c.ranges.a c.ranges.b c.both_in_range.ensures c.if-not-both_in_range.false in
    calculated ◌*ℤ◌ integer_limit c.ranges.a c.ranges.b (abs_fits _ (omega (arith, abs_product c.args.a c.args.b k.left k.right))) k c.check.ensures
