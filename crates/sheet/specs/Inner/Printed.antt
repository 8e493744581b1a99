-- What the report hands back to the program, whatever the length of its text buffer.
use Rattle.std.specs.Prelude.{◌≡◌, List, ℕ, ◌≤◌, length, take}
use Rattle.std.proofs.lemmas.List.Edits.{sets}
use Rattle.report.specs.declared.Report.{Report}
use Rattle.report.specs.Report.{text_in, report_of, report_in}

-- the text fits the buffer, so that a part of it can be written out
pub record Fits (T' : List ℕ) (r : Report) : Type 0 where
  pub fits : r.bytes ≤ length T'
  pub taken : r.bytes ≡ length (take r.bytes T')

-- a report with a read list of its own: what it hands back, and the text buffer whole
pub record Printed (t name b : List ℕ) (n : ℕ) (T T' : List ℕ) (r : Report) : Type 0 where
  pub result : r ≡ report_in (report_of t name b n 4096 (length T))
  pub text : T' ≡ sets T 0 (text_in (report_of t name b n 4096 (length T)))
  pub within : Fits T' r
