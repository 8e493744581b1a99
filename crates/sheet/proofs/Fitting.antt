-- What `printed` and `sheet` say of a report follows from what `report` says.
use Rattle.std.proofs.Common.{◌≡◌, sym, ◌∙◌, ap, List, ℕ, ◌≤◌, length, arith}
use Rattle.std.proofs.lemmas.List.{length-take-le}
use Rattle.std.proofs.Math.Seq.{sets, length-sets}
use Rattle.meaning.specs.declared.question.Question.{Question}
use Rattle.report.specs.declared.Report.{Report}
use Rattle.report.specs.Report.{Outcome, text_in, report_of, report_in}
use Rattle.report.specs.Reported.{Reported}
use Rattle.report.proofs.Reprint.{report_fits}
use Rattle.sheet.specs.Sheet.{sheet_of, Sheet}
use Rattle.sheet.specs.Inner.Printed.{Fits, Printed}

pub printed_of : (t name b : List ℕ) (n : ℕ) (T : List ℕ) (R : List Question) (T' : List ℕ) (R' : List Question) (r : Report) → length R ≡ 4096 → Reported t name b n T R T' R' r → Printed t name b n T T' r
printed_of t name b n T R T' R' r e said =
    let o : Outcome = report_of t name b n 4096 (length T) in
    let same : report_of t name b n (length R) (length T) ≡ o = ap (λ (m : ℕ). report_of t name b n m (length T)) e in
    let text : T' ≡ sets T 0 (text_in o) = said.text ∙ ap (λ (x : Outcome). sets T 0 (text_in x)) same in
    let bytes : r.bytes ≡ length (text_in o) = ap (λ (x : Report). x.bytes) said.result ∙ ap (λ (x : Outcome). length (text_in x)) same in
    let long : length T' ≡ length T = ap length text ∙ length-sets T 0 (text_in o) in
    let fits : r.bytes ≤ length T' = omega (arith, bytes, long, (report_fits t name b n 4096 (length T)).printed) in
    record {
      result = said.result ∙ ap (λ (x : Outcome). report_in x) same;
      text = text;
      within = record { fits = fits; taken = sym (length-take-le r.bytes T' fits) };
    }

-- With the program's own buffer that is its sheet.
pub sheet_of_law : {t name b : List ℕ} {n : ℕ} {T T' : List ℕ} {r : Report} → length T ≡ 65536 → Printed t name b n T T' r → Sheet t name b n T T' r × Fits T' r
sheet_of_law {t} {name} {b} {n} {T} e p =
    let same : report_of t name b n 4096 (length T) ≡ sheet_of t name b n = ap (λ (m : ℕ). report_of t name b n 4096 m) e in (
      record {
        numbers = p.result ∙ ap (λ (x : Outcome). report_in x) same;
        text = p.text ∙ ap (λ (x : Outcome). sets T 0 (text_in x)) same;
      },
      p.within,
    )
