-- Trees that print only what is proper, where the answers are clean.
use Prim.Native.Nat.{ℕ}
use Rattle.meaning.specs.Each.{Each}
use Rattle.meaning.specs.Answer.{Answer}
use Rattle.meaning.specs.Tree.{done, stop, ask, print, bind, Run, run}
use Rattle.meaning.specs.Meaning.{Meaning}
use Rattle.meaning.specs.declared.question.Question.{Question}
use Rattle.meaning.specs.declared.refusal.Refusal.{Refusal}
use Rattle.meaning.proofs.Yielding.{Yields}
use Rattle.meaning.proofs.Runs.{Runs, finishes, stops, asks, asks_full, prints, prints_full, runs}
use Rattle.values.proofs.Giving.{Gives}
use Rattle.output.specs.Printable.{Proper}
use Rattle.output.proofs.Values.{AnswerClean}

-- Every event is proper, and where the tree is done with a, Φ a holds.
abbrev pub Says : {A : Type 0} → Meaning A → (A → Type 0) → Type 0
Says (done a) Φ = Φ a
Says (stop e l) Φ = Unit {0}
Says (ask q l k) Φ = (r : Answer) → AnswerClean r → Says (k r) Φ
Says (print v l t) Φ = Proper v × Says t Φ

module _ {A : Type 0} where
  pub says_bind : {B : Type 0} (t : Meaning A) (f : A → Meaning B) (Φ : A → Type 0) (Ψ : B → Type 0) → Says t Φ → ((a : A) → Φ a → Says (f a) Ψ) → Says (bind t f) Ψ
  says_bind (done a) f Φ Ψ h g = g a h
  says_bind (stop e l) f Φ Ψ h g = tt
  says_bind (ask q l k) f Φ Ψ h g = λ r p. says_bind (k r) f Φ Ψ (h r p) g
  says_bind (print v l t) f Φ Ψ h g = (h.0, says_bind t f Φ Ψ h.1 g)

  -- a tree that only asks
  pub asks_say : (t : Meaning A) (Θ Φ : A → Type 0) → Gives t Θ → Yields AnswerClean t Φ → Says t Φ
  asks_say (done a) Θ Φ g h = h
  asks_say (stop e l) Θ Φ g h = tt
  asks_say (ask q l k) Θ Φ g h = λ r p. asks_say (k r) Θ Φ (g r) (h r p)
  asks_say (print v l t) Θ Φ g h = absurd g

  module _ (source : Question → Answer) (every : (q : Question) → AnswerClean (source q)) (Φ : A → Type 0) where
    says_runs : {p r : ℕ} {t : Meaning A} {x : Run Question Refusal ℕ A} → Runs source p r t x → Says t Φ → Each Proper x.events
    says_runs finishes h = tt
    says_runs stops h = tt
    says_runs (asks {q = q} d) h = says_runs d (h (source q) (every q))
    says_runs asks_full h = tt
    says_runs (prints fits d) h = (h.0, says_runs d h.1)
    says_runs (prints_full full) h = tt

    -- What such a tree's run prints is proper.
    pub says_events : (p r : ℕ) (t : Meaning A) → Says t Φ → Each Proper (run source p r t).events
    says_events p r t h = says_runs (runs source p r t) h
