-- What a store answers.
use Rattle.std.specs.Prelude.{List, ℕ}
use Rattle.meaning.specs.Answer.{Answer}
use Rattle.meaning.specs.declared.question.Question.{Question}
use Rattle.cells.specs.Asking.{ask_of}

-- what `ask` answers on a store of n bytes; missing where it refuses
abbrev pub answers : List ℕ → ℕ → Question → Answer
answers b n q = (ask_of b n q).answer
