-- What the program `sheet` prints.
use Rattle.std.specs.Prelude.{◌≡◌, List, ℕ}
use Rattle.std.proofs.lemmas.List.Edits.{sets}
use Rattle.report.specs.declared.Report.{Report}
use Rattle.report.specs.Report.{Outcome, text_in, report_of, report_in}

-- "Its text buffer has 65,536 bytes, its read list 4,096 places."
abbrev pub sheet_of : List ℕ → List ℕ → List ℕ → ℕ → Outcome
sheet_of t name b n = report_of t name b n 4096 65536

-- "It prints the text, then a line": the text stands at the start of the buffer, and r has the numbers of the line
pub record Sheet (t name b : List ℕ) (n : ℕ) (T T' : List ℕ) (r : Report) : Type 0 where
  pub numbers : r ≡ report_in (sheet_of t name b n)
  pub text : T' ≡ sets T 0 (text_in (sheet_of t name b n))
