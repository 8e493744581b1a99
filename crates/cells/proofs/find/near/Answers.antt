-- The key at the hint, and the one on its other side.
use Rattle.std.proofs.Common.{arith}
use Rattle.cells.proofs.Halving.{near_start, near_end, near_between}
use Rattle.cells.proofs.find.near.Goals as goal

pub returns-then-i-lt1 : goal.returns-then-i-lt1
returns-then-i-lt1 c = near_start _ _ _ _ _ _ _ c.bound_of-bound.ensures (omega arith) c.lower_at-lower.ensures c.if-i-lt1.true

pub returns-then-count-other : goal.returns-then-count-other
returns-then-count-other c = near_end _ _ _ _ _ _ _ c.bound_of-bound.ensures (omega arith) c.lower_at-lower.ensures c.if-count-other.true

pub returns-then-lower_at-lower-eq1 : goal.returns-then-lower_at-lower-eq1
returns-then-lower_at-lower-eq1 c =
    near_between _ _ _ _ _ _ _ _ _ c.bound_of-bound.ensures (omega arith) c.lower_at-lower.ensures (omega arith) c.lower_at.ensures (omega arith) (omega arith) (omega (arith, c.if-lower_at-lower-eq1.true))
