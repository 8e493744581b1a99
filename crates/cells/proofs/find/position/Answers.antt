-- The loop keeps what `Halved` says.
use Rattle.std.proofs.Common.{◌+◌, ◌-◌, ◌/◌, arith}
use Rattle.cells.proofs.Halving.{lower_at, halved_step}
use Rattle.cells.proofs.find.position.Goals as goal

pub loop-size-preserved : goal.loop-size-preserved
loop-size-preserved c =
    let l = c.loop-size in
    let h = l.size - l.size / 2 in
    let judged = lower_at _ _ _ _ _ _ _ c.from-at.ensures c.key_and_byte.ensures c.below.ensures.0 c.below.ensures.1 in
    halved_step _ _ _ _ _ (l.low + h - 1) _ c.bound_of-bound.ensures (omega arith) judged _ _ l.invariant h (omega arith) (omega arith) (omega arith)
