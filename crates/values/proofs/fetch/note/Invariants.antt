-- The first k words are in the log.
use Rattle.values.specs.Inner.State.{step_of, words_from}
use Rattle.values.specs.Inner.Logged.{with_words}
use Rattle.std.proofs.Common.{◌≡◌}
use Rattle.values.proofs.fetch.note.Given as goal

abbrev pub invariant-loop-k : goal.invariant-loop-k
invariant-loop-k l = l.log ≡ with_words l.initial.log (words_from (step_of l.along) l.word l.k) l.k
