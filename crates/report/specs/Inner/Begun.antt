-- What `begin` hands back: the checks have refused the call, or the run may start.
use Rattle.std.specs.Prelude.{◌≡◌, true, false, List, [], ℕ, ◌≤◌, length, take, Ok}
use Rattle.template.specs.declared.Extent.{Extent}
use Rattle.template.specs.Order.{template_checked}
use Rattle.meaning.specs.Answer.{Answer}
use Rattle.meaning.specs.declared.question.Question.{Question}
use Rattle.report.specs.declared.state.Saved.{Saved}
use Rattle.report.specs.declared.state.Stretch.{Stretch}
use Rattle.report.specs.declared.Report.{Report}
use Rattle.values.specs.Inner.State.{Held, held}
use Rattle.control.specs.Inner.Held.{state_of}
use Rattle.control.specs.Inner.Executing.{Kept}
use Rattle.control.specs.Inner.Remembering.{Remembered}
use Rattle.report.specs.Report.{start_of, Outcome, text_in, report_of, report_in}

-- what is saved between two stretches, beside the rows of SV
abbrev pub held_in : Saved → List (List ℕ) → Held
held_in v rows = held v.numbers rows v.words

-- o is a refusal of the whole call, and r says so: nothing is printed, nothing asked
pub record Untouched (o : Outcome) (r : Report) : Type 0 where
  pub result : r ≡ report_in o
  pub text : text_in o ≡ []
  pub questions : o.questions ≡ []

-- before the first line: the checks have refused the call, or the run may start, whatever the rows of SV hold
pub record Begun (t name b : List ℕ) (n places : ℕ) (index : List ℕ) (r : Stretch) : Type 0 where
  pub refused : r.more ≡ false → (room : ℕ) → Untouched (report_of t name b n places room) r.report
  pub run : r.more ≡ true → Extent
  pub accepted : (m : r.more ≡ true) → template_checked t name ≡ Ok (run m)
  pub start : (m : r.more ≡ true) (rows : List (List ℕ)) (source : Question → Answer) → state_of source (held_in r.saved rows) r.saved.flow ≡ start_of (run m)
  pub remembered : r.more ≡ true → Remembered t r.saved.words
  pub end : (m : r.more ≡ true) → r.saved.end ≡ (run m).until
  pub left : r.more ≡ true → r.saved.left ≡ 50000
  pub page : r.more ≡ true → r.saved.flow.page.number ≡ 1
  pub printed : r.more ≡ true → r.saved.printed ≡ 0
  pub asked : r.more ≡ true → r.saved.asked ≡ 0
  pub lent : r.more ≡ true → r.saved.places ≡ places
  pub len : r.more ≡ true → r.saved.len ≡ n
  pub stored : r.more ≡ true → n ≤ length b
  pub short : r.more ≡ true → n ≤ 65536
  pub kept : r.more ≡ true → Kept (take n b) (take r.saved.count index)
  pub counted : r.more ≡ true → r.saved.count ≤ length index
