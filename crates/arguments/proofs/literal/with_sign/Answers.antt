-- Minus a magnitude is 0 less the magnitude, which fits.
use lib.IntN.{pos, neg_ℤ, +ℤ_idl}
use mir.Syntax.{w64}
use mir.ValLaws.{to_z-of_z, to_z_pos}
use Rattle.arguments.proofs.SignLaws.{negative_fits}
use Rattle.arguments.proofs.literal.with_sign.Goals as goal

pub overflow_sub-result : goal.overflow_sub-result
overflow_sub-result c = rw (to_z_pos w64 _ c.requires, +ℤ_idl (neg_ℤ (pos c.args.magnitude))) (negative_fits c.args.magnitude c.requires)

pub returns-then-negative : goal.returns-then-negative
returns-then-negative c =
    rw (c.if-negative.true, to_z_pos w64 _ c.requires, +ℤ_idl (neg_ℤ (pos c.args.magnitude)))
    (to_z-of_z w64 _ (negative_fits c.args.magnitude c.requires))

pub returns-else-negative : goal.returns-else-negative
returns-else-negative c = rw c.if-negative.false (to_z_pos w64 _ c.requires)
