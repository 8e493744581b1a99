-- What the calls of $REC and $TBL, and of their elements, require and say.
use Rattle.std.specs.Prelude.{◌≡◌, Bool, cond, ◌&&◌, List, ℕ, ◌+◌, ◌≤◌, leb, ℤ, pos, negsuc, length, Result}
use Rattle.meaning.specs.Answer.{Answer}
use Rattle.meaning.specs.Tree.{stop}
use Rattle.meaning.specs.Meaning.{Meaning, asks_each}
use Rattle.meaning.specs.Number.{ended_in}
use Rattle.meaning.specs.Inner.Place.{Does}
use Rattle.meaning.specs.declared.end.Stop.{Stop}
use Rattle.meaning.specs.declared.question.Question.{Question}
use Rattle.meaning.specs.declared.refusal.Refusal.TheVariants.{BadIndex}
use Rattle.cells.specs.declared.Answered.{Answered}
use Rattle.cells.specs.Asking as C
use Rattle.cells.specs.Cell.{Cell}
use Rattle.cells.specs.Inner.Index.{Ready}
use Rattle.lines.specs.declared.command.Fetch.{Fetch}
use Rattle.values.specs.declared.fetch.Along.{Along}
use Rattle.values.specs.declared.log.Log.{Log}
use Rattle.values.specs.declared.scene.Scene.{Scene}
use Rattle.values.specs.Inner.Logged.{filled_to}
use Rattle.values.specs.Inner.State.{fetched, held, machine}
use Rattle.values.specs.Source.{answers}
use Rattle.values.specs.Fetching.{element_question, element_questions, first_along, fetch_meaning, element}

-- The same for the code, by the record, entry and count that it worked out: each is within its limits, or 1000.
unfoldable pub fetch_allowed : Along → ℕ → ℕ → ℕ → Bool
fetch_allowed along r e n = leb r 999 && (leb e 999 && (leb n 64 && leb (first_along along r e + n) 1000))

-- the elements from a question on
unfoldable pub fetch_at : ℕ → Along → Question → ℕ → Meaning (List Answer)
fetch_at line along q n =
    cond (fetch_allowed along q.«record» q.entry n) (asks_each line (element_questions (element_question q.datasource along q.parameter q.«record» q.entry) 0 n)) (stop BadIndex line)

-- What a call that fetches says, of any source of answers, since it looks none up: from a log t led to log', and the number that
-- it keeps stands for the answers.
pub record Fetches (t : (Question → Answer) → Meaning (List Answer)) (along : Along) (log log' : Log) (r : Result ℕ Stop) : Type 0 where
  pub does : (source : Question → Answer) (text : List ℕ) (m g : ℕ) → Does source (t source) (filled_to text m log g) (filled_to text m log' g) (ended_in (fetched source along) r)
  pub few : log'.asked ≤ log.asked + 64

pub record FetchAt (line : ℕ) (along : Along) (q : Question) (n : ℕ) (log log' : Log) (v : Result ℕ Stop) : Type 0 where
  pub fetches : Fetches (λ source. fetch_at line along q n) along log log' v

pub record FetchValue (numbers : List ℤ) (scene : Scene) (along : Along) (f : Fetch) (log log' : Log) (v : Result ℕ Stop) : Type 0 where
  pub fetches : (rows : List (List ℕ)) (words : List ℕ) → Fetches (λ source. fetch_meaning (machine source (held numbers rows words) scene) scene.number along f.parameter f.«record» f.entry f.count) along log log' v

-- What such a call requires: a datasource and a parameter within their limits, and 64 places in the log.
pub record Fetchable (d c a : ℕ) : Type 0 where
  pub datasource : d ≤ 35
  pub parameter : c ≤ 65535
  pub place : a + 64 ≤ 512

-- the number of a counter, 0 below 0
unfoldable pub turn_of : ℤ → ℕ
turn_of (pos n) = n
turn_of (negsuc n) = 0

-- r is the element that a counter names of what was fetched
pub record Recalls (b index : List ℕ) (along : Along) (f : ℕ) (counter : ℤ) (r : Answered) : Type 0 where
  pub recalls : (n : ℕ) (cs : List Cell) → Ready b n index (length index) cs → C.meant b r ≡ element (fetched (answers b n) along f) counter
