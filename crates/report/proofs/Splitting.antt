-- A run is a stretch of it and the run from there on.
use mathlib.Core.Path.{◌≡◌, refl, sym, ap, ◌∙◌}
use mathlib.Core.Bool.{Bool, true, false, cond}
use mathlib.Core.List.{List}
use Prim.Native.Nat.{ℕ, zero, suc, ◌+◌}
use native.Mathlib.Omega.{arith}
use lib.Dec.{ltb}
use Rattle.meaning.specs.Tree.{done, bind}
use Rattle.meaning.proofs.Binding.{bind_assoc, bind_same}
use Rattle.control.specs.State.{State}
use Rattle.control.specs.Line.{line_meaning}
use Rattle.report.specs.Report.{run_from}
use Rattle.report.specs.Inner.Stretch.{stretch}

module _ (t : List ℕ) (end : ℕ) where
  -- no line is due
  run_done : (f : ℕ) (s : State) → ltb s.position.at end ≡ false → run_from f t end s ≡ done s
  unfolding run_from
  run_done zero s h = rw h
  run_done (suc f) s h = rw h

  pub run_split : (k f : ℕ) (s : State) → run_from (k + f) t end s ≡ bind (stretch k t end s) (run_from f t end)
  unfolding run_from stretch
  run_split zero f s = let z : 0 + f ≡ f = omega arith in ap (λ (n : ℕ). run_from n t end s) z
  run_split (suc k) f s = ap (λ (n : ℕ). run_from n t end s) z ∙ by (ltb s.position.at end) refl (λ s'. run_split k f s')
    where
      z : suc k + f ≡ suc (k + f)
      z = omega arith

      by : (b : Bool) → ltb s.position.at end ≡ b → ((s' : State) → run_from (k + f) t end s' ≡ bind (stretch k t end s') (run_from f t end))
          → cond b (bind (line_meaning t s) (run_from (k + f) t end)) (done s) ≡ bind (cond b (bind (line_meaning t s) (stretch k t end)) (done s)) (run_from f t end)
      by true e i =
          bind_same (line_meaning t s) (run_from (k + f) t end) (λ s'. bind (stretch k t end s') (run_from f t end)) i
          ∙ sym (bind_assoc (line_meaning t s) (stretch k t end) (run_from f t end))
      by false e i = sym (run_done f s e)
