-- Every state that a run reaches is sound, whatever source answers it.
use Rattle.std.specs.Prelude.{Ok}
use mathlib.Core.Path.{◌≡◌, refl, subst}
use mathlib.Core.Bool.{Bool, true, false, cond}
use mathlib.Core.List.{List}
use Prim.Native.Nat.{ℕ, zero, suc, ◌+◌, ◌≤◌}
use native.Mathlib.Omega.{arith}
use borrow.Author.Tests.{ltb-true}
use lib.Dec.{ltb}
use lib.ListN.{length}
use Rattle.template.specs.declared.Extent.{Extent}
use Rattle.template.specs.Order.{template_checked}
use Rattle.template.proofs.Accepted.{accepted_runs}
use Rattle.meaning.specs.Answer.{Answer}
use Rattle.meaning.specs.Tree.{done, bind, finished, run}
use Rattle.meaning.specs.Rule.{state_after, Keeps, AtEnd, page_limit}
use Rattle.meaning.specs.Meaning.{Meaning}
use Rattle.meaning.specs.declared.question.Question.{Question}
use Rattle.meaning.proofs.Keeping.{keeps_bind, keeps_end}
use Rattle.control.specs.State.{State}
use Rattle.control.specs.Line.{line_meaning}
use Rattle.control.specs.Inner.Sound.{Sound}
use Rattle.executed_line.proofs.Sounds.{On, line_keeps}
use Rattle.report.specs.Report.{start_of}
use Rattle.report.specs.Inner.Stretch.{stretch}
use Rattle.report.proofs.Sounding.{start_on}

-- PAGENUM is at most some g
abbrev SomeOn : List ℕ → State → ℕ → Type 0
SomeOn t s c = (g : ℕ) × On t g s c

stretch_on : (k : ℕ) (t : List ℕ) (end g : ℕ) (s : State) (c : ℕ) → end ≤ length t → On t g s c → Keeps (page_limit 60) (stretch k t end s) c (SomeOn t)
unfolding stretch
stretch_on zero t end g s c h i = (g, i)
stretch_on (suc k) t end g s c h i = by (ltb s.position.at end) refl (λ s' c' j. stretch_on k t end (g + 1) s' c' h j)
  where
    by : (x : Bool) → ltb s.position.at end ≡ x → ((s' : State) (c' : ℕ) → On t (g + 1) s' c' → Keeps (page_limit 60) (stretch k t end s') c' (SomeOn t)) → Keeps (page_limit 60) (cond {A = Meaning State} x (bind (line_meaning t s) (stretch k t end)) (done s)) c (SomeOn t)
    by true e next = keeps_bind (page_limit 60) (line_meaning t s) (stretch k t end) c (On t (g + 1)) (SomeOn t) (line_keeps i (omega (arith, h, ltb-true s.position.at end e))) next
    by false e next = (g, i)

-- After any number of lines of an accepted template's run.
pub reached_sound : (t name : List ℕ) (r : Extent) → template_checked t name ≡ Ok r → (source : Question → Answer) (places room k : ℕ) (s : State) → (run source places room (stretch k t r.until (start_of r))).end ≡ finished s → (g : ℕ) × Sound t g s
reached_sound t name r e source places room k s f =
    let m = stretch k t r.until (start_of r) in
    let (g, i) = subst (λ x. AtEnd (SomeOn t) x (state_after (page_limit 60) 0 (run source places room m).events)) f (keeps_end (page_limit 60) source places room m 0 (SomeOn t) (stretch_on k t r.until 1 (start_of r) 0 (accepted_runs t name r e).inside (start_on t name r e))) in
    (g, i.sound)
