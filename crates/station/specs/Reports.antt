-- What the call for C hands back of a report.
use Rattle.std.specs.Prelude.{ℕ}
use Rattle.report.specs.declared.Report.{Report}

-- a report by its number, its line, its pages, its text bytes and its questions
abbrev pub report_from : ℕ → ℕ → ℕ → ℕ → ℕ → Report
report_from r l p n q = record { number = r; line = l; pages = p; bytes = n; questions = q }
