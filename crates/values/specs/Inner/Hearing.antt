-- What the contracts of calls that ask a question say.
use Rattle.std.specs.Prelude.{cond, List, ℕ, ◌+◌, ◌≤◌, ◌<◌, leb, ℤ, pos, negsuc, length, Result}
use Rattle.meaning.specs.Answer.{Answer}
use Rattle.meaning.specs.Tree.{stop}
use Rattle.meaning.specs.Meaning.{Meaning}
use Rattle.meaning.specs.Number.{ended_in}
use Rattle.meaning.specs.Inner.Place.{Does}
use Rattle.meaning.specs.declared.question.Question.{Question}
use Rattle.meaning.specs.declared.refusal.Refusal.TheVariants.{BadIndex}
use Rattle.meaning.specs.declared.end.Stop.{Stop}
use Rattle.cells.specs.declared.Answered.{Answered}
use Rattle.cells.specs.Asking as C
use Rattle.cells.specs.Cell.{Cell}
use Rattle.cells.specs.Inner.Index.{Ready}
use Rattle.values.specs.declared.log.Log.{Log}
use Rattle.values.specs.Inner.Logged.{filled_to}
use Rattle.values.specs.Asking.{asks}
use Rattle.values.specs.Source.{answers}

-- an index from 0 to 999, or 1000
unfoldable pub place_of : ℤ → ℕ
place_of (pos k) = cond (leb k 999) k 1000
place_of (negsuc k) = 1000

-- the same as a cell's meaning, for the code: its record and entry are from 0 to 999, or 1000
unfoldable pub cell_at : ℕ → Question → Meaning Answer
cell_at line q =
    cond (leb q.«record» 999) (cond (leb q.entry 999) (asks line q) (stop BadIndex line)) (stop BadIndex line)

-- A call that only asks, over the store and its index: from a log t led to log' and was answered by r, whatever the text is and
-- however many pages there are.
pub record Hears (b index : List ℕ) (t : Meaning Answer) (log log' : Log) (r : Result Answered Stop) : Type 0 where
  pub does : (n : ℕ) (cs : List Cell) → Ready b n index (length index) cs → (text : List ℕ) (m g : ℕ) → Does (answers b n) t (filled_to text m log g) (filled_to text m log' g) (ended_in (C.meant b) r)
  pub few : log'.asked ≤ log.asked + 1

-- What a call that may ask one question requires: a datasource and a parameter within their limits, and a place in the log.
pub record Askable (d kind p a : ℕ) : Type 0 where
  pub datasource : d ≤ 35
  pub kinds : kind ≤ 3
  pub parameter : p ≤ 65535
  pub place : a < 512
