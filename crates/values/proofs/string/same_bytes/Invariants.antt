use lib.ListN.{length}
use Rattle.values.proofs.Texts.{Compared}
use Rattle.values.proofs.string.same_bytes.Given as goal

abbrev pub invariant-loop-x : goal.invariant-loop-x
invariant-loop-x l = Compared l.ignoring l.a_upper l.b_upper l.a l.b (length l.yielded)
