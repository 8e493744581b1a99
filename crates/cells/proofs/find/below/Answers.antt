-- The highest bit of the wrapped difference.
use Rattle.std.proofs.Common.{arith}
use Rattle.cells.proofs.Halving.{wrapped_below}
use Rattle.cells.proofs.find.below.Goals as goal

pub returns : goal.returns
returns c = (omega arith, λ h g. wrapped_below _ _ _ c.wrapping_sub_u64.ensures.value (omega arith) h g)
