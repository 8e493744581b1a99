use Rattle.std.proofs.Common.{◌-◌, length}
use Rattle.cells.proofs.Walking.{Walked}
use Rattle.cells.proofs.index.walk.Given as goal

abbrev pub invariant-loop-at : goal.invariant-loop-at
invariant-loop-at l = Walked l.run l.initial.starts l.at l.count l.least l.starts

abbrev pub decreases-loop-at : goal.decreases-loop-at
decreases-loop-at l = length l.run - l.at
