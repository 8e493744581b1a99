-- Every state that a run reaches is in range, with any source whose answers lie within their limits, so with any store.
use Rattle.std.specs.Prelude.{Ok}
use mathlib.Core.Path.{◌≡◌, refl}
use mathlib.Core.Bool.{Bool, true, false, cond}
use mathlib.Core.List.{List}
use Prim.Native.Nat.{ℕ, zero, suc, ◌+◌, ◌≤◌}
use native.Mathlib.Omega.{arith}
use borrow.Author.Tests.{ltb-true}
use lib.Dec.{ltb}
use lib.ListN.{length}
use Rattle.template.specs.declared.Extent.{Extent}
use Rattle.template.specs.Order.{template_checked}
use Rattle.template.proofs.Accepted.{accepted_runs}
use Rattle.meaning.specs.Answer.{Answer}
use Rattle.meaning.specs.Tree.{done, bind, finished, run}
use Rattle.meaning.specs.Rule.{page_limit}
use Rattle.meaning.specs.Meaning.{Meaning}
use Rattle.meaning.specs.declared.question.Question.{Question}
use Rattle.meaning.proofs.Yielding.{Yields, yields_bind, yields_kept, yields_end}
use Rattle.numbers.specs.Range.{integer_limit}
use Rattle.cells.proofs.Limits.{AnswerWithin}
use Rattle.values.specs.Source.{answers}
use Rattle.values.proofs.Ranges.{MachineWithin, answers_within}
use Rattle.control.specs.State.{State, seen}
use Rattle.control.specs.Line.{line_meaning}
use Rattle.control.specs.Inner.Sound.{Sound}
use Rattle.executed_line.proofs.Sounds.{On, line_keeps}
use Rattle.executed_line.proofs.Ranges.{InRange, seen_within, range_cleared, line_in_range}
use Rattle.report.specs.Report.{start_of}
use Rattle.report.specs.Inner.Stretch.{stretch}
use Rattle.report.proofs.Sounding.{start_on}
use Rattle.pages.specs.Inner.Listing.{turned_page, lines_due}
use Rattle.report.proofs.Moments.{Moments, step_moments}

-- a state whose variables, answers and tables are in range, and so is all that an argument sees, here and on the pages to come
pub record Ranged (s : State) : Type 0 where
  pub state : InRange s
  pub machine : MachineWithin (seen s)
  -- where a text line is due: at the moment of each heading, of the blank line and of the text line
  pub moments : (t : List ℕ) (due : ℕ) (l : List ℕ) → Moments (seen s) (lines_due t due s.layout.headings l (turned_page s.page)) (turned_page s.page)

ranged : (t : List ℕ) (g : ℕ) (s : State) → g + 1 ≤ integer_limit → Sound t g s → InRange s → Ranged s
ranged t g s h i r =
    let m = seen_within t g s (omega arith) i r in
    record { state = r; machine = m; moments = λ t' due l. step_moments (seen s) m t' due s.layout.headings l s.page (omega (arith, i.number)) i.first_row }

stretch_in_range : (k : ℕ) (t : List ℕ) (end g : ℕ) (s : State) (c : ℕ) → end ≤ length t → g + k + 1 ≤ integer_limit → On t g s c → InRange s → Yields AnswerWithin (stretch k t end s) Ranged
unfolding stretch
stretch_in_range zero t end g s c h b i r = ranged t g s (omega arith) i.sound r
stretch_in_range (suc k) t end g s c h b i r = by (ltb s.position.at end) refl (λ s' c' j r'. stretch_in_range k t end (g + 1) s' c' h (omega arith) j r')
  where
    by : (x : Bool) → ltb s.position.at end ≡ x → ((s' : State) (c' : ℕ) → On t (g + 1) s' c' → InRange s' → Yields AnswerWithin (stretch k t end s') Ranged) → Yields AnswerWithin (cond {A = Meaning State} x (bind (line_meaning t s) (stretch k t end)) (done s)) Ranged
    by true e next =
        yields_bind AnswerWithin (line_meaning t s) (stretch k t end) (λ s'. InRange s' × (c' : ℕ) × On t (g + 1) s' c') Ranged
        (yields_kept AnswerWithin (page_limit 60) (line_meaning t s) c (On t (g + 1)) InRange (line_keeps i (omega (arith, h, ltb-true s.position.at end e))) (line_in_range t g s (omega arith) i.sound r))
        (λ s' q. next s' q.1 q.2 q.0)
    by false e next = ranged t g s (omega arith) i.sound r

pub start_in_range : (r : Extent) → InRange (start_of r)
start_in_range r = range_cleared (start_of r) tt (record { least = omega arith; most = omega arith })

module _ (t name : List ℕ) (r : Extent) (e : template_checked t name ≡ Ok r) where
  -- The state after any number of lines of an accepted template's run, whatever source answers it.
  pub run_in_range : (source : Question → Answer) → ((q : Question) → AnswerWithin (source q)) → (places room k : ℕ) → k ≤ 50000 → (s : State) → (run source places room (stretch k t r.until (start_of r))).end ≡ finished s → Ranged s
  run_in_range source every places room k h s f =
      yields_end AnswerWithin source every Ranged places room (stretch k t r.until (start_of r)) s
      (stretch_in_range k t r.until 1 (start_of r) 0 (accepted_runs t name r e).inside (omega arith) (start_on t name r e) (start_in_range r)) f

  -- On any store.
  pub store_in_range : (b : List ℕ) (n places room k : ℕ) → k ≤ 50000 → (s : State) → (run (answers b n) places room (stretch k t r.until (start_of r))).end ≡ finished s → Ranged s
  store_in_range b n = run_in_range (answers b n) (answers_within b n)
