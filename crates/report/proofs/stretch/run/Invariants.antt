use Rattle.values.specs.Inner.State.{held}
use Rattle.report.proofs.Stretching.{Going}
use Rattle.report.proofs.stretch.run.Given as goal

abbrev pub invariant-loop-left : goal.invariant-loop-left
invariant-loop-left l =
    Going l.template l.store l.saved l.initial.strings l.initial.text (held l.numbers l.strings l.words) l.flow l.text l.log l.left l.printed

abbrev pub decreases-loop-left : goal.decreases-loop-left
decreases-loop-left l =
    l.left
