-- The loop keeps: the first j bytes are in the row.
use mathlib.Core.Path.{refl}
use native.Mathlib.Omega.{arith}
use Rattle.commands.proofs.Copying.{copy_next, copy_all}
use Rattle.commands.proofs.string.copied.Goals as goal

pub loop-j-init : goal.loop-j-init
loop-j-init c = refl

pub loop-j-preserved : goal.loop-j-preserved
loop-j-preserved c = copy_next _ _ _ _ c.loop-j.invariant (omega arith) _ c.letter.ensures

pub returns : goal.returns
returns c = copy_all c.args.bytes.now c.args.raised _ _ c.loop-j.invariant (omega arith)
