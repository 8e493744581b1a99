-- What demand 3 promises of two reports, and of the sheet that each of them printed.
use Rattle.std.specs.Prelude.{◌≡◌, List, [], ℕ, ◌≤◌, length}
use Rattle.meaning.specs.Each.{Each}
use Rattle.meaning.specs.Event.{Event, joined, pages_of}
use Rattle.history.specs.LentStore.{LentStore}
use Rattle.report.specs.Report.{report_of}
use Rattle.output.specs.Printable.{Proper}
use Rattle.demands.specs.Calls.{ReportCall, text_printed, questions_asked}

-- the text that a call printed: the lines and breaks of its report, lines of 0x20–0x7E, each with its line end; "A page holds 60
-- lines."; as many pages as it returned
pub record PrintedSheet (t name : List ℕ) (m : LentStore) (x : ReportCall t name m) : Type 0 where
  pub events : List Event
  pub ran : events ≡ (report_of t name m.buffer m.length (length x.reads) (length x.text)).events
  pub joins : text_printed x.text_after x.returned ≡ joined events
  pub proper : Each Proper events
  pub sixty : Each (λ page. length page ≤ 60) (pages_of events)
  pub page_count : (1 ≤ x.returned.number → x.returned.number ≤ 6 → ⊥) → x.returned.pages ≡ length (pages_of events)
  -- "A report ending in 1–6" has no page and no text
  pub none : 1 ≤ x.returned.number → x.returned.number ≤ 6 → (x.returned.pages ≡ 0) × (events ≡ [])

-- "A report ending in 1–6 gives pages, text bytes and questions 0 and touches no buffer."
pub record TouchesNothing (t name : List ℕ) (m : LentStore) (x : ReportCall t name m) : Type 0 where
  pub pages : x.returned.pages ≡ 0
  pub bytes : x.returned.bytes ≡ 0
  pub questions : x.returned.questions ≡ 0
  pub text : x.text_after ≡ x.text
  pub reads : x.reads_after ≡ x.reads

-- two calls: "The texts agree in every byte and in their count, the read lists in every question asked, its place and their count."
pub record Reprinted (t name : List ℕ) (m m' : LentStore) (first : ReportCall t name m) (second : ReportCall t name m') : Type 0 where
  -- number, line, pages and both counts
  pub returned : second.returned ≡ first.returned
  pub text : text_printed second.text_after second.returned ≡ text_printed first.text_after first.returned
  pub reads : questions_asked second.reads_after second.returned ≡ questions_asked first.reads_after first.returned
  pub first_sheet : PrintedSheet t name m first
  pub second_sheet : PrintedSheet t name m' second
