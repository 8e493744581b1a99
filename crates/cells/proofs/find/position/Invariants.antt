use Rattle.cells.proofs.Halving.{Halved}
use Rattle.cells.proofs.find.position.Given as goal

abbrev pub invariant-loop-size : goal.invariant-loop-size
invariant-loop-size l = Halved l.store l.starts l.count l.key l.low l.size

abbrev pub decreases-loop-size : goal.decreases-loop-size
decreases-loop-size l = l.size
