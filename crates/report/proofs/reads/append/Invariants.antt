use Rattle.report.proofs.Appending.{Added}
use Rattle.report.proofs.reads.append.Given as goal

abbrev pub invariant-loop-i : goal.invariant-loop-i
invariant-loop-i l = Added l.initial.reads l.log l.i l.reads
