-- The definition makes the code's tests in the code's order.
use Rattle.arguments.proofs.ScaleLaws.{product_below, magnitude_fits}
use native.Mathlib.Omega.{arith}
use Rattle.arguments.proofs.literal.fraction_at.Goals as goal

pub overflow_mul-magnitude-2 : goal.overflow_mul-magnitude-2
overflow_mul-magnitude-2 c = omega (arith, product_below _ _ _ c.digits_at-fraction.ensures.small c.scale-scale.ensures)

pub overflow_add-magnitude : goal.overflow_add-magnitude
overflow_add-magnitude c = magnitude_fits _ _ _ _ c.requires c.digits_at-fraction.ensures.small c.scale-scale.ensures
