-- What trees yield where every answer has a property, whatever they print.
use mathlib.Core.Path.{◌≡◌, subst}
use Prim.Native.Nat.{ℕ}
use Rattle.meaning.specs.Tree.{Tree, done, stop, ask, print, bind, End, finished, halted, Run, run}
use Rattle.meaning.specs.Rule.{Rule, Keeps}
use Rattle.meaning.proofs.Runs.{Runs, finishes, stops, asks, asks_full, prints, prints_full, runs}

-- Where each answer r is such that P r, and the tree is done with a, Φ a holds.
abbrev pub Yields : {Q R E L A : Type 0} → (R → Type 0) → Tree Q R E L A → (A → Type 0) → Type 0
Yields P (done a) Φ = Φ a
Yields P (stop e l) Φ = Unit {0}
Yields {R = R} P (ask q l k) Φ = (r : R) → P r → Yields P (k r) Φ
Yields P (print v l t) Φ = Yields P t Φ

abbrev AtFinish : {E L A : Type 0} → (A → Type 0) → End E L A → Type 0
AtFinish Φ (finished a) = Φ a
AtFinish Φ (halted c l) = Unit {0}

module _ {Q R E L A : Type 0} (P : R → Type 0) where
  pub yields_bind : {B : Type 0} (t : Tree Q R E L A) (f : A → Tree Q R E L B) (Φ : A → Type 0) (Ψ : B → Type 0) → Yields P t Φ → ((a : A) → Φ a → Yields P (f a) Ψ) → Yields P (bind t f) Ψ
  yields_bind (done a) f Φ Ψ h g = g a h
  yields_bind (stop e l) f Φ Ψ h g = tt
  yields_bind (ask q l k) f Φ Ψ h g = λ r p. yields_bind (k r) f Φ Ψ (h r p) g
  yields_bind (print v l t) f Φ Ψ h g = yields_bind t f Φ Ψ h g

  pub yields_more : (t : Tree Q R E L A) (Φ Ψ : A → Type 0) → Yields P t Φ → ((a : A) → Φ a → Ψ a) → Yields P t Ψ
  yields_more (done a) Φ Ψ h g = g a h
  yields_more (stop e l) Φ Ψ h g = tt
  yields_more (ask q l k) Φ Ψ h g = λ r p. yields_more (k r) Φ Ψ (h r p) g
  yields_more (print v l t) Φ Ψ h g = yields_more t Φ Ψ h g

  pub yields_any : (t : Tree Q R E L A) → Yields P t (λ _. Unit {0})
  yields_any (done a) = tt
  yields_any (stop e l) = tt
  yields_any (ask q l k) = λ r p. yields_any (k r)
  yields_any (print v l t) = yields_any t

  -- What a tree keeps whatever the answers are, it keeps beside what it yields for these.
  pub yields_kept : {S : Type 0} (rule : Rule S) (t : Tree Q R E L A) (s : S) (Ψ : A → S → Type 0) (Φ : A → Type 0) → Keeps rule t s Ψ → Yields P t Φ → Yields P t (λ a. Φ a × (s' : S) × Ψ a s')
  yields_kept rule (done a) s Ψ Φ k h = (h, s, k)
  yields_kept rule (stop e l) s Ψ Φ k h = tt
  yields_kept rule (ask q l f) s Ψ Φ k h = λ r p. yields_kept rule (f r) s Ψ Φ (k r) (h r p)
  yields_kept rule (print v l t) s Ψ Φ k h = yields_kept rule t (rule.next s v) Ψ Φ k.1 h

  module _ (source : Q → R) (every : (q : Q) → P (source q)) (Φ : A → Type 0) where
    yields_runs : {p r : ℕ} {t : Tree Q R E L A} {x : Run Q E L A} → Runs source p r t x → Yields P t Φ → AtFinish Φ x.end
    yields_runs finishes h = h
    yields_runs stops h = tt
    yields_runs (asks {q = q} d) h = yields_runs d (h (source q) (every q))
    yields_runs asks_full h = tt
    yields_runs (prints fits d) h = yields_runs d h
    yields_runs (prints_full full) h = tt

    -- A run that finished, with a source of such answers, yields so.
    pub yields_end : (p r : ℕ) (t : Tree Q R E L A) (a : A) → Yields P t Φ → (run source p r t).end ≡ finished a → Φ a
    yields_end p r t a h e = subst (AtFinish Φ) e (yields_runs (runs source p r t) h)
