-- Questions asked one after another: to the log go all of them, or as many as there are places for.
use mathlib.Core.Path.{◌≡◌}
use mathlib.Core.List.{List, [], ◌∷◌, map}
use Prim.Native.Nat.{ℕ, zero, suc, ◌+◌, ◌-◌, ◌≤◌, ◌<◌}
use native.Mathlib.Nat.{add-zero}
use native.Mathlib.Numerals.{add-one}
use native.Mathlib.Omega.{arith}
use lib.ListN.{length, take, set}
use lib.Seq.{sets}
use Rattle.meaning.specs.Answer.{Answer}
use Rattle.meaning.specs.Tree.{done, bind, finished, halted, cut}
use Rattle.meaning.specs.Meaning.{asks_each}
use Rattle.meaning.specs.Inner.Place.{at, Does}
use Rattle.meaning.specs.declared.question.Question.{Question}
use Rattle.meaning.specs.declared.refusal.Overflow.TheVariants.{ReadList}
use Rattle.meaning.proofs.Doing.{then_does, then_over, does_done, does_ask, does_ask_full}

module _ (source : Question → Answer) (line : ℕ) (text : List ℕ) (m p g : ℕ) where
  -- There is a place for each.
  pub asks_all : (qs log : List Question) (a : ℕ) → length qs ≤ p - a → Does source (asks_each line qs) (at text m log a p g) (at text m (sets log a qs) (a + length qs) p g) (finished (map source qs))
  unfolding asks_each
  asks_all [] log a h = rw (add-zero a) (does_done source (at text m log a p g) [])
  asks_all (q ∷ qs) log a h =
      let count : a + 1 + length qs ≡ a + suc (length qs) = omega arith in
      let there : at text m (sets (set log a q) (a + 1) qs) (a + 1 + length qs) p g ≡ at text m (sets log a (q ∷ qs)) (a + suc (length qs)) p g =
      λ i. at text m (sets (set log a q) (add-one a i) qs) (count i) p g in
      rw (← there)
      (then_does (λ x. bind (asks_each line qs) (λ rest. done (x ∷ rest))) (does_ask source (at text m log a p g) q line (λ x. x) (omega arith))
      (then_does (λ rest. done (source q ∷ rest)) (asks_all qs (set log a q) (a + 1) (omega arith)) (does_done source (at text m (sets (set log a q) (a + 1) qs) (a + 1 + length qs) p g) (source q ∷ map source qs))))

  -- There are places for the first k only.
  pub asks_cut : (qs log : List Question) (a k : ℕ) → k ≡ p - a → k < length qs → Does source (asks_each line qs) (at text m log a p g) (at text m (sets log a (take k qs)) (a + k) p g) (halted (cut ReadList) line)
  unfolding asks_each
  asks_cut [] log a k e h = absurd (omega arith)
  asks_cut (q ∷ qs) log a zero e h = rw (add-zero a) (does_ask_full source (at text m log a p g) q line (λ x. bind (asks_each line qs) (λ rest. done (x ∷ rest))) (omega arith))
  asks_cut (q ∷ qs) log a (suc k) e h =
      let count : a + 1 + k ≡ a + suc k = omega arith in
      let there : at text m (sets (set log a q) (a + 1) (take k qs)) (a + 1 + k) p g ≡ at text m (sets log a (q ∷ take k qs)) (a + suc k) p g =
      λ i. at text m (sets (set log a q) (add-one a i) (take k qs)) (count i) p g in
      rw (← there)
      (then_does (λ x. bind (asks_each line qs) (λ rest. done (x ∷ rest))) (does_ask source (at text m log a p g) q line (λ x. x) (omega arith))
      (then_over (λ rest. done (source q ∷ rest)) (asks_cut qs (set log a q) (a + 1) k (omega arith) (omega arith))))
