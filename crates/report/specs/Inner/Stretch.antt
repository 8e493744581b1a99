-- What `run` asks for and hands back: a run goes stretch by stretch, as many lines as the log has places for.
use Rattle.std.specs.Prelude.{◌≡◌, true, false, cond, List, ℕ, zero, suc, ◌+◌, ◌-◌, ◌≤◌, ◌<◌, ltb, length, take, replicate, Result}
use Rattle.meaning.specs.Tree.{done, bind, finished}
use Rattle.meaning.specs.Inner.Place.{Place, at, Does}
use Rattle.meaning.specs.Number.{number_of, line_named, ended_in}
use Rattle.meaning.specs.Meaning.{Meaning}
use Rattle.meaning.specs.declared.question.Question.{Question}
use Rattle.values.specs.Inner.Word.{questions}
use Rattle.report.specs.declared.state.Saved.{Saved}
use Rattle.report.specs.declared.state.Batch.{Batch}
use Rattle.report.specs.declared.state.Stretch.{Stretch}
use Rattle.report.specs.declared.Report.{Report}
use Rattle.control.specs.Inner.Held.{state_of}
use Rattle.control.specs.State.{State}
use Rattle.control.specs.Line.{line_meaning}
use Rattle.control.specs.Inner.Sound.{Sound}
use Rattle.control.specs.Inner.Executing.{source_of, Kept}
use Rattle.control.specs.Inner.Remembering.{Remembered}
use Rattle.report.specs.Report.{run_from}
use Rattle.report.specs.Inner.Begun.{held_in}
use Rattle.meaning.specs.declared.end.Stop.{Stop}

-- at most k lines
unfoldable pub stretch : ℕ → List ℕ → ℕ → State → Meaning State
stretch zero t end s = done s
stretch (suc k) t end s = cond (ltb s.position.at end) (bind (line_meaning t s) (stretch k t end)) (done s)

-- the part of the store buffer that is the store
abbrev pub store_of : Saved → List ℕ → List ℕ
store_of v b = take v.len b

abbrev pub state_in : Saved → List (List ℕ) → List ℕ → State
state_in v rows b = state_of (source_of (store_of v b)) (held_in v rows) v.flow

-- between two stretches, where `left` lines may still be executed: a line raises PAGENUM by at most one
pub record Standing (t : List ℕ) (left : ℕ) (s : State) : Type 0 where
  pub most : left ≤ 50000
  pub sound : Sound t (50001 - left) s

pub record RunReady (t b index T : List ℕ) (rows : List (List ℕ)) (v : Saved) : Type 0 where
  pub stored : v.len ≤ length b
  pub short : v.len ≤ 65536
  pub kept : Kept (store_of v b) (take v.count index)
  pub counted : v.count ≤ length index
  pub inside : v.end ≤ length t
  pub standing : Standing t v.left (state_in v rows b)
  pub room : v.printed ≤ length T
  pub asked : v.asked ≤ v.places
  pub rows_held : length rows ≡ 99
  pub remembered : Remembered t v.words
  pub indexed : length index ≡ 5461

-- a log that is empty, with the places that are left
abbrev pub fresh : List ℕ → Saved → Place Question
fresh T v = at T v.printed (questions (replicate 512 0)) 0 (v.places - v.asked) v.flow.page.number

-- what stood before, that the run left where it is over: how it ended, and in which state
pub record Over (t b T : List ℕ) (rows : List (List ℕ)) (v : Saved) (T' : List ℕ) (log : Batch) (r : Report) : Type 0 where
  pub ended : Result (Unit {0}) Stop
  pub last : State
  pub does : Does (source_of (store_of v b)) (run_from v.left t v.end (state_in v rows b)) (fresh T v) (at T' r.bytes (questions log.words) log.n (v.places - v.asked) r.pages) (ended_in (λ _. last) ended)
  pub number : r.number ≡ number_of (ended_in (λ x. x) ended)
  pub line : r.line ≡ line_named (ended_in (λ x. x) ended)
  pub questions : r.questions ≡ v.asked + log.n

-- a stretch from s on led to r
pub record Ran (t b index T : List ℕ) (rows : List (List ℕ)) (s : Stretch) (T' : List ℕ) (rows' : List (List ℕ)) (r : Stretch) : Type 0 where
  pub few : r.log.n ≤ 512
  pub place : r.log.at ≡ s.saved.asked
  -- the log is full: so many lines were executed
  pub on : r.more ≡ true → Does (source_of (store_of s.saved b)) (stretch (s.saved.left - r.saved.left) t s.saved.end (state_in s.saved rows b)) (fresh T s.saved) (at T' r.saved.printed (questions r.log.words) r.log.n (s.saved.places - s.saved.asked) r.saved.flow.page.number) (finished (state_in r.saved rows' b))
  pub ready : r.more ≡ true → RunReady t b index T' rows' r.saved
  pub less : r.more ≡ true → r.saved.left < s.saved.left
  pub asked : r.more ≡ true → r.saved.asked ≡ s.saved.asked + r.log.n
  pub same_end : r.more ≡ true → r.saved.end ≡ s.saved.end
  pub same_store : r.more ≡ true → r.saved.len ≡ s.saved.len
  pub same_places : r.more ≡ true → r.saved.places ≡ s.saved.places
  -- the run is over
  pub over : r.more ≡ false → Over t b T rows s.saved T' r.log r.report
