-- The question is read back from below the hint, and both fit.
use native.Mathlib.Omega.{arith}
use Prim.Native.Nat.{◌%◌}
use Rattle.values.proofs.Words.{packed_most, unpacked_noted}
use Rattle.values.proofs.word.noted.Goals as goal

pub overflow_add-result : goal.overflow_add-result
overflow_add-result c = omega (arith, c.packed.ensures, packed_most _ c.requires)

pub returns : goal.returns
returns c = unpacked_noted _ (c.args.position % 1048576) _ (omega (arith, c.packed.ensures)) c.requires
