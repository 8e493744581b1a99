-- A run, and a report: number, line, pages, text and questions.
use Rattle.std.specs.Prelude.{cond, List, [], ℕ, zero, suc, ◌+◌, ltb, length, Result, Ok, Err}
use Rattle.template.specs.declared.Extent.{Extent}
use Rattle.template.specs.Order.{template_checked}
use Rattle.cells.specs.Store.{cells_held, holds_cells}
use Rattle.meaning.specs.Answer.{Answer}
use Rattle.meaning.specs.Event.{Event, joined, breaks}
use Rattle.meaning.specs.Tree as tree
use Rattle.meaning.specs.Tree.{done, stop, bind, run}
use Rattle.meaning.specs.Number.{refusal_number, number_of, line_named}
use Rattle.meaning.specs.Meaning.{Meaning}
use Rattle.meaning.specs.declared.question.Question.{Question}
use Rattle.meaning.specs.declared.refusal.Refusal.{Refusal}
use Rattle.meaning.specs.declared.refusal.Refusal.TheVariants.{TooManyLines, BadStore}
use Rattle.values.specs.Source.{answers}
use Rattle.pages.specs.Page.{new_page}
use Rattle.report.specs.declared.Report.{Report}
use Rattle.control.specs.State.{State, no_variables, no_layout}
use Rattle.control.specs.Line.{line_meaning}

-- the lines up to a place of the template, where n may still be executed. 7: "50,000 lines were executed and another is due,
-- which is named."
unfoldable pub run_from : ℕ → List ℕ → ℕ → State → Meaning State
run_from zero t end s = cond (ltb s.position.at end) (stop TooManyLines s.position.line) (done s)
run_from (suc n) t end s = cond (ltb s.position.at end) (bind (line_meaning t s) (run_from n t end)) (done s)

-- where a run starts: "Cells ask in the selected datasource, 1 at the start."; "PAGENUM starts at 1"
abbrev pub start_of : Extent → State
start_of r =
    record {
      position = record { at = r.start; line = r.line };
      variables = no_variables;
      datasource = 1;
      tables = [];
      layout = no_layout;
      page = new_page;
    }

-- "A run goes from the selected (or first) $SEC line to the line before the next $SEC (or to the end)"
abbrev pub run_meaning : List ℕ → Extent → Meaning State
run_meaning t r = run_from 50000 t r.until (start_of r)

-- what a report is: its number, the line that is named, its pages, what it printed and asked
pub record Outcome : Type 0 where
  pub number : ℕ
  pub line : ℕ
  pub pages : ℕ
  pub events : List Event
  pub questions : List Question

-- "text printed"
abbrev pub text_in : Outcome → List ℕ
text_in o = joined o.events

-- "A report ending in 1–6 gives pages, text bytes and questions 0"
abbrev pub refused_report : Refusal → ℕ → Outcome
refused_report e l = record { number = refusal_number e; line = l; pages = 0; events = []; questions = [] }

-- "Otherwise text printed, questions asked and pages (PAGENUM at the end) stand": PAGENUM starts at 1, and a break adds 1
-- (demands/proofs/Ending:pages_at_the_end)
abbrev pub ran_to : {A : Type 0} → tree.Run Question Refusal ℕ A → Outcome
ran_to x = record { number = number_of x.end; line = line_named x.end; pages = 1 + breaks x.events; events = x.events; questions = x.asked }

-- checks 2 to 6, then the run
unfoldable pub checked_outcome : List ℕ → (Question → Answer) → ℕ → ℕ → Result Extent (Refusal × ℕ) → Outcome
checked_outcome t source places room (Ok r) = ran_to (run source places room (run_meaning t r))
checked_outcome t source places room (Err (e, l)) = refused_report e l

-- the report of template t and the caller's section name on the first n bytes of b, with so many places on the read list and
-- so many bytes of text; check 1 comes first
unfoldable pub report_of : List ℕ → List ℕ → List ℕ → ℕ → ℕ → ℕ → Outcome
report_of t name b n places room =
    cond (holds_cells (cells_held b n)) (checked_outcome t (answers b n) places room (template_checked t name)) (refused_report BadStore 0)

-- what the code hands back
abbrev pub report_in : Outcome → Report
report_in o = record { number = o.number; line = o.line; pages = o.pages; bytes = length (text_in o); questions = length o.questions }
