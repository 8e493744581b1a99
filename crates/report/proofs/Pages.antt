-- No page of a report holds more than 60 lines, and the pages that it reports are those of its events, and PAGENUM at the end.
use Rattle.meaning.specs.declared.refusal.Refusal.{Refusal}
use Rattle.std.specs.Prelude.{Result, Ok, Err}
use mathlib.Core.Path.{◌≡◌, refl, sym, subst}
use mathlib.Core.Bool.{Bool, true, false, cond}
use mathlib.Core.List.{List}
use Prim.Native.Nat.{ℕ, zero, suc, ◌+◌, ◌≤◌}
use native.Mathlib.Omega.{arith}
use borrow.Author.Tests.{ltb-true}
use lib.Dec.{ltb}
use lib.ListN.{length}
use Rattle.template.specs.declared.Extent.{Extent}
use Rattle.template.specs.Order.{template_checked}
use Rattle.template.proofs.Accepted.{accepted_runs, Early, refused_early}
use Rattle.cells.specs.Store.{cells_held, holds_cells}
use Rattle.meaning.specs.Answer.{Answer}
use Rattle.meaning.specs.Each.{Each}
use Rattle.meaning.specs.Event.{breaks, page_from, later_pages, pages_of}
use Rattle.meaning.specs.Tree.{done, stop, bind, finished, run}
use Rattle.meaning.specs.Rule.{state_after, Keeps, AtEnd, page_limit}
use Rattle.meaning.specs.Meaning.{Meaning}
use Rattle.meaning.specs.declared.question.Question.{Question}
use Rattle.meaning.specs.declared.refusal.Refusal.TheVariants.{TooManyLines, BadStore}
use Rattle.meaning.proofs.Keeping.{keeps_bind, keeps_end, keeps_pages}
use Rattle.meaning.proofs.Events.{page_count}
use Rattle.values.specs.Source.{answers}
use Rattle.control.specs.State.{State}
use Rattle.control.specs.Line.{line_meaning}
use Rattle.pages.proofs.Counting.{counting, counted}
use Rattle.executed_line.proofs.Sounds.{On, line_keeps}
use Rattle.executed_line.proofs.Counting.{Counted, line_counts}
use Rattle.report.specs.Report.{run_from, start_of, run_meaning, Outcome, ran_to, refused_report, checked_outcome, report_of}
use Rattle.report.specs.Inner.Stretch.{stretch}
use Rattle.report.proofs.Sounding.{start_on}

-- whatever is known at a run's end
abbrev Any : State → ℕ → Type 0
Any s c = Unit {0}

run_keeps : (n : ℕ) (t : List ℕ) (end g : ℕ) (s : State) (c : ℕ) → end ≤ length t → On t g s c → Keeps (page_limit 60) (run_from n t end s) c Any
unfolding run_from
run_keeps zero t end g s c h i = by (ltb s.position.at end)
  where
    by : (b : Bool) → Keeps (page_limit 60) (cond {A = Meaning State} b (stop TooManyLines s.position.line) (done s)) c Any
    by true = tt
    by false = tt
run_keeps (suc n) t end g s c h i = by (ltb s.position.at end) refl (λ s' c' j. run_keeps n t end (g + 1) s' c' h j)
  where
    by : (b : Bool) → ltb s.position.at end ≡ b → ((s' : State) (c' : ℕ) → On t (g + 1) s' c' → Keeps (page_limit 60) (run_from n t end s') c' Any) → Keeps (page_limit 60) (cond {A = Meaning State} b (bind (line_meaning t s) (run_from n t end)) (done s)) c Any
    by true e k = keeps_bind (page_limit 60) (line_meaning t s) (run_from n t end) c (On t (g + 1)) Any (line_keeps i (omega (arith, h, ltb-true s.position.at end e))) k
    by false e k = tt

abbrev Sixty : Outcome → Type 0
Sixty o = Each (λ page. length page ≤ 60) (pages_of o.events)

-- "A page holds 60 lines.": so for any template, section, store, read list and output
pub pages_hold_60 : (t name b : List ℕ) (n places room : ℕ) → Sixty (report_of t name b n places room)
unfolding report_of checked_outcome pages_of page_from later_pages
pages_hold_60 t name b n places room = by (holds_cells (cells_held b n))
  where
    checked : (k : Result Extent (Refusal × ℕ)) → template_checked t name ≡ k → Sixty (checked_outcome t (answers b n) places room k)
    checked (Ok r) e = keeps_pages 60 (answers b n) places room (run_meaning t r) Any (run_keeps 50000 t r.until 1 (start_of r) 0 (accepted_runs t name r e).inside (start_on t name r e))
    checked (Err (e, l)) i = (omega arith, tt)

    by : (f : Bool) → Sixty (cond f (checked_outcome t (answers b n) places room (template_checked t name)) (refused_report BadStore 0))
    by true = checked (template_checked t name) refl
    by false = (omega arith, tt)

abbrev Paged : Outcome → Type 0
Paged o = (1 ≤ o.number → o.number ≤ 6 → ⊥) → o.pages ≡ length (pages_of o.events)

-- where a report doesn't end in 1–6, the pages that it reports are those of its events
pub pages_reported : (t name b : List ℕ) (n places room : ℕ) → Paged (report_of t name b n places room)
unfolding report_of checked_outcome
pages_reported t name b n places room = by (holds_cells (cells_held b n))
  where
    checked : (k : Result Extent (Refusal × ℕ)) → Early k → Paged (checked_outcome t (answers b n) places room k)
    checked (Ok r) e h = sym (page_count (run (answers b n) places room (run_meaning t r)).events)
    checked (Err (e, l)) i h = absurd (h (omega (arith, i.0)) i.1)

    by : (f : Bool) → Paged (cond f (checked_outcome t (answers b n) places room (template_checked t name)) (refused_report BadStore 0))
    by true h = checked (template_checked t name) (refused_early t name) h
    by false h = absurd (h (omega arith) (omega arith))

-- ---- "pages (PAGENUM at the end)"

run_counts : (n : ℕ) (t : List ℕ) (end : ℕ) (s : State) (c : ℕ) → Counted s c → Keeps counting (run_from n t end s) c Counted
unfolding run_from
run_counts zero t end s c h = by (ltb s.position.at end)
  where
    by : (b : Bool) → Keeps counting (cond {A = Meaning State} b (stop TooManyLines s.position.line) (done s)) c Counted
    by true = tt
    by false = h
run_counts (suc n) t end s c h = by (ltb s.position.at end) (λ s' c' j. run_counts n t end s' c' j)
  where
    by : (b : Bool) → ((s' : State) (c' : ℕ) → Counted s' c' → Keeps counting (run_from n t end s') c' Counted) → Keeps counting (cond {A = Meaning State} b (bind (line_meaning t s) (run_from n t end)) (done s)) c Counted
    by true k = keeps_bind counting (line_meaning t s) (run_from n t end) c Counted Counted (line_counts t s c h) k
    by false k = h

stretch_counts : (n : ℕ) (t : List ℕ) (end : ℕ) (s : State) (c : ℕ) → Counted s c → Keeps counting (stretch n t end s) c Counted
unfolding stretch
stretch_counts zero t end s c h = h
stretch_counts (suc n) t end s c h = by (ltb s.position.at end) (λ s' c' j. stretch_counts n t end s' c' j)
  where
    by : (b : Bool) → ((s' : State) (c' : ℕ) → Counted s' c' → Keeps counting (stretch n t end s') c' Counted) → Keeps counting (cond {A = Meaning State} b (bind (line_meaning t s) (stretch n t end)) (done s)) c Counted
    by true k = keeps_bind counting (line_meaning t s) (stretch n t end) c Counted Counted (line_counts t s c h) k
    by false k = h

module _ (source : Question → Answer) (places room : ℕ) (t : List ℕ) (r : Extent) where
  ends_counted : (m : Meaning State) → Keeps counting m 0 Counted → (s : State) → (run source places room m).end ≡ finished s → s.page.number ≡ 1 + breaks (run source places room m).events
  ends_counted m k s e =
      let h : s.page.number ≡ suc (state_after counting 0 (run source places room m).events) = subst (λ x. AtEnd Counted x (state_after counting 0 (run source places room m).events)) e (keeps_end counting source places room m 0 Counted k) in
      omega (arith, h, counted 0 (run source places room m).events)

  -- A run that ends with success reports PAGENUM.
  pub pages_are_pagenum : (s : State) → (run source places room (run_meaning t r)).end ≡ finished s → (ran_to (run source places room (run_meaning t r))).pages ≡ s.page.number
  pages_are_pagenum s e = sym (ends_counted (run_meaning t r) (run_counts 50000 t r.until (start_of r) 0 refl) s e)

  -- After any number of lines PAGENUM is what a report that ended there would report: one more than the breaks printed.
  pub pagenum_counts : (k : ℕ) (s : State) → (run source places room (stretch k t r.until (start_of r))).end ≡ finished s → s.page.number ≡ 1 + breaks (run source places room (stretch k t r.until (start_of r))).events
  pagenum_counts k = ends_counted (stretch k t r.until (start_of r)) (stretch_counts k t r.until (start_of r) 0 refl)
