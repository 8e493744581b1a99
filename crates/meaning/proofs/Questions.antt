-- What trees ask, where every answer has a property.
use Prim.Native.Nat.{ℕ}
use Rattle.meaning.specs.Each.{Each}
use Rattle.meaning.specs.Tree.{Tree, done, stop, ask, print, bind, Run, run}
use Rattle.meaning.proofs.Runs.{Runs, finishes, stops, asks, asks_full, prints, prints_full, runs}
use Rattle.meaning.proofs.Yielding.{Yields, yields_any}

-- Where each answer r is such that P r, each question q that is asked is such that B q.
abbrev pub Asks : {Q R E L A : Type 0} → (R → Type 0) → (Q → Type 0) → Tree Q R E L A → Type 0
Asks P B (done a) = Unit {0}
Asks P B (stop e l) = Unit {0}
Asks {R = R} P B (ask q l k) = B q × ((r : R) → P r → Asks P B (k r))
Asks P B (print v l t) = Asks P B t

module _ {Q R E L A : Type 0} (P : R → Type 0) (B : Q → Type 0) where
  pub asks_bind : {C : Type 0} (t : Tree Q R E L A) (f : A → Tree Q R E L C) (Φ : A → Type 0) → Asks P B t → Yields P t Φ → ((a : A) → Φ a → Asks P B (f a)) → Asks P B (bind t f)
  asks_bind (done a) f Φ h y g = g a y
  asks_bind (stop e l) f Φ h y g = tt
  asks_bind (ask q l k) f Φ h y g = (h.0, λ r p. asks_bind (k r) f Φ (h.1 r p) (y r p) g)
  asks_bind (print v l t) f Φ h y g = asks_bind t f Φ h y g

  -- and whatever is yielded
  pub asks_then : {C : Type 0} (t : Tree Q R E L A) (f : A → Tree Q R E L C) → Asks P B t → ((a : A) → Asks P B (f a)) → Asks P B (bind t f)
  asks_then t f h g = asks_bind t f (λ _. Unit {0}) h (yields_any P t) (λ a _. g a)

  module _ (source : Q → R) (every : (q : Q) → P (source q)) where
    asks_runs : {p r : ℕ} {t : Tree Q R E L A} {x : Run Q E L A} → Runs source p r t x → Asks P B t → Each B x.asked
    asks_runs finishes h = tt
    asks_runs stops h = tt
    asks_runs (asks {q = q} d) h = (h.0, asks_runs d (h.1 (source q) (every q)))
    asks_runs asks_full h = tt
    asks_runs (prints fits d) h = asks_runs d h
    asks_runs (prints_full full) h = tt

    -- So is each question on the list of a run.
    pub asks_run : (p r : ℕ) (t : Tree Q R E L A) → Asks P B t → Each B (run source p r t).asked
    asks_run p r t h = asks_runs (runs source p r t) h
