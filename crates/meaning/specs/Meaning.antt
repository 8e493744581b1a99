-- The trees of the report interpreter: its questions and answers, its refusals, and the template's lines by number.
use Rattle.std.specs.Prelude.{List, [], ◌∷◌, ℕ}
use Rattle.meaning.specs.Answer.{Answer}
use Rattle.meaning.specs.Tree.{Tree, done, ask, bind}
use Rattle.meaning.specs.declared.question.Question.{Question}
use Rattle.meaning.specs.declared.refusal.Refusal.{Refusal}

abbrev pub Meaning : Type 0 → Type 0
Meaning A = Tree Question Answer Refusal ℕ A

-- Questions asked one after another on a line, with their answers in order.
unfoldable pub asks_each : ℕ → List Question → Meaning (List Answer)
asks_each line [] = done []
asks_each line (q ∷ qs) = ask q line (λ a. bind (asks_each line qs) (λ rest. done (a ∷ rest)))
