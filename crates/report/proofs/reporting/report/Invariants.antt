use Rattle.report.proofs.Driving.{Reached, left_of}
use Rattle.report.proofs.reporting.report.Given as goal

abbrev pub invariant-loop-s : goal.invariant-loop-s
invariant-loop-s l = Reached l.template l.section l.store l.len l.initial.text l.initial.reads l.s l.strings l.index l.text l.reads

abbrev pub decreases-loop-s : goal.decreases-loop-s
decreases-loop-s l = left_of l.s
