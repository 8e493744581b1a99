-- The digits lie behind the point.
use native.Mathlib.Omega.{arith}
use lib.ListN.{length-set}
use Rattle.fields.proofs.FieldLaws.{length_fraction}
use Rattle.fields.proofs.text.put_fraction.Goals as goal

pub put_digits-requires : goal.put_digits-requires
put_digits-requires c =
    simp length-set (omega (arith, length_fraction _ c.args.u c.if-d-eq0.false))
