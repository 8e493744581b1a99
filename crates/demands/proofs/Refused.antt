-- "A report ending in 1–6 gives pages, text bytes and questions 0 and touches no buffer.": the checks refused it, since a run ends
-- with 0 or with 7 or more.
use Rattle.std.specs.Prelude.{Result, Ok, Err}
use Rattle.meaning.specs.declared.refusal.Refusal.{Refusal}
use Rattle.template.specs.declared.Extent.{Extent}
use mathlib.Core.Path.{◌≡◌, refl, ap, ◌∙◌, subst}
use mathlib.Core.Bool.{Bool, true, false, cond}
use mathlib.Core.List.{List, []}
use Prim.Native.Nat.{ℕ, ◌≤◌}
use native.Mathlib.Omega.{arith}
use lib.ListN.{length}
use lib.Seq.{sets}
use Rattle.template.specs.Order.{template_checked}
use Rattle.cells.specs.Store.{cells_held, holds_cells}
use Rattle.meaning.specs.Event.{Event, joined}
use Rattle.meaning.specs.declared.question.Question.{Question}
use Rattle.meaning.specs.declared.refusal.Refusal.TheVariants.{BadStore}
use Rattle.values.specs.Source.{answers}
use Rattle.history.specs.LentStore.{LentStore}
use Rattle.report.specs.declared.Report.{Report}
use Rattle.report.specs.Report.{start_of, Outcome, refused_report, checked_outcome, report_of}
use Rattle.demands.specs.Calls.{ReportCall}
use Rattle.demands.specs.Sheet.{TouchesNothing}
use Rattle.demands.proofs.Numbers.{late}

-- nothing was printed and nothing asked
pub record Nothing (o : Outcome) : Type 0 where
  pub pages : o.pages ≡ 0
  pub events : o.events ≡ []
  pub questions : o.questions ≡ []

abbrev Early : Outcome → Type 0
Early o = 1 ≤ o.number → o.number ≤ 6 → Nothing o

pub early_is_nothing : (t name b : List ℕ) (n places room : ℕ) → Early (report_of t name b n places room)
unfolding report_of checked_outcome
early_is_nothing t name b n places room = by (holds_cells (cells_held b n))
  where
    checked : (k : Result Extent (Refusal × ℕ)) → Early (checked_outcome t (answers b n) places room k)
    checked (Ok r) least most = absurd (omega (arith, most, late (answers b n) places room 50000 t r.until (start_of r) least))
    checked (Err (e, l)) least most = record { pages = refl; events = refl; questions = refl }

    by : (f : Bool) → Early (cond f (checked_outcome t (answers b n) places room (template_checked t name)) (refused_report BadStore 0))
    by true least most = checked (template_checked t name) least most
    by false least most = record { pages = refl; events = refl; questions = refl }

-- of every call
pub refused_touches_nothing : (t name : List ℕ) (m : LentStore) (x : ReportCall t name m) → 1 ≤ x.returned.number → x.returned.number ≤ 6 → TouchesNothing t name m x
unfolding joined
refused_touches_nothing t name m x least most = record {
  pages = ap (λ (r : Report). r.pages) x.contract.result ∙ none.pages;
  bytes = ap (λ (r : Report). r.bytes) x.contract.result ∙ ap (λ (vs : List Event). length (joined vs)) none.events;
  questions = ap (λ (r : Report). r.questions) x.contract.result ∙ ap (λ (qs : List Question). length qs) none.questions;
  text = x.contract.text ∙ ap (λ (vs : List Event). sets x.text 0 (joined vs)) none.events;
  reads = x.contract.reads ∙ ap (λ (qs : List Question). sets x.reads 0 qs) none.questions;
}
  where
    o : Outcome
    o = report_of t name m.buffer m.length (length x.reads) (length x.text)

    number_is : x.returned.number ≡ o.number
    number_is = ap (λ (r : Report). r.number) x.contract.result

    none : Nothing o
    none = early_is_nothing t name m.buffer m.length (length x.reads) (length x.text) (subst (λ (n : ℕ). 1 ≤ n) number_is least) (subst (λ (n : ℕ). n ≤ 6) number_is most)
