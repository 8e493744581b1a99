-- The question that a cell asks.
use Rattle.std.specs.Prelude.{ℕ}
use Rattle.meaning.specs.Answer.{Answer}
use Rattle.meaning.specs.Tree.{done, ask, bind}
use Rattle.meaning.specs.Meaning.{Meaning}
use Rattle.meaning.specs.declared.question.Question.{Question}
use Rattle.arguments.specs.declared.index.Index.{Index}
use Rattle.values.specs.Machine.{Machine}
use Rattle.values.specs.Indexes.{index_value}

-- "Cells ask in the selected datasource"
abbrev pub question : ℕ → ℕ → ℕ → ℕ → ℕ → Question
question kind d p r e = record { kind = kind; datasource = d; parameter = p; «record» = r; entry = e }

unfoldable pub asks : ℕ → Question → Meaning Answer
asks line q = ask q line (λ a. done a)

-- "8 then 9": both indexes, then the question
unfoldable pub cell_meaning : Machine → ℕ → ℕ → ℕ → Index → Index → Meaning Answer
cell_meaning m line kind p i j =
    bind (index_value m line i) (λ r. bind (index_value m line j) (λ e. asks line (question kind m.datasource p r e)))
