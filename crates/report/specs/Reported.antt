-- What the call of a report hands back.
use Rattle.std.specs.Prelude.{◌≡◌, List, ℕ, length}
use Rattle.std.proofs.lemmas.List.Edits.{sets}
use Rattle.meaning.specs.declared.question.Question.{Question}
use Rattle.report.specs.declared.Report.{Report}
use Rattle.report.specs.Report.{Outcome, text_in, report_of, report_in}

-- a report hands back what o says, and both buffers whole: "the rest of each buffer is untouched"
pub record HandsBack (o : Outcome) (T : List ℕ) (R : List Question) (T' : List ℕ) (R' : List Question) (r : Report) : Type 0 where
  pub result : r ≡ report_in o
  pub text : T' ≡ sets T 0 (text_in o)
  pub reads : R' ≡ sets R 0 o.questions

abbrev pub Reported : List ℕ → List ℕ → List ℕ → ℕ → List ℕ → List Question → List ℕ → List Question → Report → Type 0
Reported t name b n T R T' R' r = HandsBack (report_of t name b n (length R) (length T)) T R T' R' r
