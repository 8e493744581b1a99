-- A store between two calls: "one store in the same buffer, at the length last handed back".
use Rattle.std.specs.Prelude.{◌≡◌, Bool, List, ℕ, Option}
use Rattle.meaning.specs.Answer.{Answer}
use Rattle.meaning.specs.Each.{Each}
use Rattle.meaning.specs.declared.question.Question.{Question}
use Rattle.cells.specs.Cell.{Key, Cell}
use Rattle.cells.specs.Store.{cells_held, holds_cells}
use Rattle.cells.specs.Asking.{Reply, ask_of}

pub record LentStore : Type 0 where
  pub buffer : List ℕ
  pub length : ℕ

-- the cells that it holds, or none where it is out of form
abbrev pub cells_held_by : LentStore → Option (List Cell)
cells_held_by m = cells_held m.buffer m.length

-- 1: "The store breaks its form or is longer than its buffer."
abbrev pub in_form : LentStore → Bool
in_form m = holds_cells (cells_held_by m)

-- "Ask answers one question."
abbrev pub ask_in : LentStore → Question → Reply
ask_in m q = ask_of m.buffer m.length q

-- the store as a source of answers
abbrev pub answer_in : LentStore → Question → Answer
answer_in m q = (ask_in m q).answer

-- "Kind 1 asks for the cell of a key"
abbrev pub cell_question : Key → Question
cell_question k =
    record {
      kind = 1;
      datasource = k.datasource;
      parameter = k.parameter;
      «record» = k.record_number;
      entry = k.entry_number;
    }

-- "An answer is as before if it is the one the first run got": so for each question of a list
abbrev pub AsBefore : LentStore → LentStore → List Question → Type 0
AsBefore m m' qs = Each (λ q. answer_in m' q ≡ answer_in m q) qs
