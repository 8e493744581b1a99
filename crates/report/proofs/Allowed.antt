-- A report asks only questions within their limits: `ask` would refuse none of its read list with 15.
use Rattle.meaning.specs.declared.refusal.Refusal.{Refusal}
use Rattle.template.specs.declared.Extent.{Extent}
use Rattle.std.specs.Prelude.{Result, Ok, Err}
use mathlib.Core.Path.{◌≡◌, refl}
use mathlib.Core.Bool.{Bool, true, false, cond}
use mathlib.Core.List.{List}
use Prim.Native.Nat.{ℕ, zero, suc, ◌+◌, ◌≤◌}
use native.Mathlib.Omega.{arith}
use borrow.Author.Tests.{ltb-true}
use lib.Dec.{ltb}
use lib.ListN.{length}
use Rattle.template.specs.Order.{template_checked}
use Rattle.template.proofs.Accepted.{accepted_runs}
use Rattle.cells.specs.Store.{cells_held, holds_cells}
use Rattle.cells.proofs.Limits.{AnswerWithin}
use Rattle.meaning.specs.Each.{Each}
use Rattle.meaning.specs.Tree.{done, stop, bind}
use Rattle.meaning.specs.Rule.{page_limit}
use Rattle.meaning.specs.Meaning.{Meaning}
use Rattle.meaning.specs.declared.refusal.Refusal.TheVariants.{TooManyLines, BadStore}
use Rattle.meaning.proofs.Yielding.{yields_kept}
use Rattle.meaning.proofs.Questions.{asks_bind, asks_run}
use Rattle.numbers.specs.Range.{integer_limit}
use Rattle.values.specs.Source.{answers}
use Rattle.values.proofs.Ranges.{answers_within}
use Rattle.values.proofs.Allowed.{Allowed, AsksAllowed}
use Rattle.control.specs.State.{State}
use Rattle.control.specs.Line.{line_meaning}
use Rattle.executed_line.proofs.Sounds.{On, line_keeps}
use Rattle.executed_line.proofs.Ranges.{InRange, line_in_range}
use Rattle.executed_line.proofs.Allowed.{line_asks}
use Rattle.report.specs.Report.{run_from, start_of, run_meaning, Outcome, refused_report, checked_outcome, report_of}
use Rattle.report.proofs.Sounding.{start_on}
use Rattle.report.proofs.Ranges.{start_in_range}

run_asks : (n : ℕ) (t : List ℕ) (end g : ℕ) (s : State) (c : ℕ) → end ≤ length t → g + n ≤ integer_limit → On t g s c → InRange s → AsksAllowed (run_from n t end s)
unfolding run_from
run_asks zero t end g s c h b i r = by (ltb s.position.at end)
  where
    by : (x : Bool) → AsksAllowed (cond {A = Meaning State} x (stop TooManyLines s.position.line) (done s))
    by true = tt
    by false = tt
run_asks (suc n) t end g s c h b i r = by (ltb s.position.at end) refl (λ s' c' j r'. run_asks n t end (g + 1) s' c' h (omega arith) j r')
  where
    by : (x : Bool) → ltb s.position.at end ≡ x → ((s' : State) (c' : ℕ) → On t (g + 1) s' c' → InRange s' → AsksAllowed (run_from n t end s')) → AsksAllowed (cond {A = Meaning State} x (bind (line_meaning t s) (run_from n t end)) (done s))
    by true e next =
        asks_bind AnswerWithin Allowed (line_meaning t s) (run_from n t end) (λ s'. InRange s' × (c' : ℕ) × On t (g + 1) s' c') (line_asks t s r.datasource)
        (yields_kept AnswerWithin (page_limit 60) (line_meaning t s) c (On t (g + 1)) InRange (line_keeps i (omega (arith, h, ltb-true s.position.at end e))) (line_in_range t g s (omega arith) i.sound r))
        (λ s' q. next s' q.1 q.2 q.0)
    by false e next = tt

abbrev EachAllowed : Outcome → Type 0
EachAllowed o = Each Allowed o.questions

-- Whatever the template, the section, the store, the read list and the output are.
pub questions_allowed : (t name b : List ℕ) (n places room : ℕ) → EachAllowed (report_of t name b n places room)
unfolding report_of checked_outcome
questions_allowed t name b n places room = by (holds_cells (cells_held b n))
  where
    checked : (k : Result Extent (Refusal × ℕ)) → template_checked t name ≡ k → EachAllowed (checked_outcome t (answers b n) places room k)
    checked (Ok r) e = asks_run AnswerWithin Allowed (answers b n) (answers_within b n) places room (run_meaning t r) (run_asks 50000 t r.until 1 (start_of r) 0 (accepted_runs t name r e).inside (omega arith) (start_on t name r e) (start_in_range r))
    checked (Err (e, l)) i = tt

    by : (f : Bool) → EachAllowed (cond f (checked_outcome t (answers b n) places room (template_checked t name)) (refused_report BadStore 0))
    by true = checked (template_checked t name) refl
    by false = tt
