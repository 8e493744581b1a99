-- What a tree keeps, every run of it keeps.
use mathlib.Core.Path.{sym, subst}
use Prim.Native.Nat.{ℕ, ◌≤◌}
use lib.ListN.{length}
use Rattle.meaning.specs.Each.{Each}
use Rattle.meaning.specs.Event.{pages_of}
use Rattle.meaning.specs.Tree.{Tree, done, stop, ask, print, bind, finished, Run, run}
use Rattle.meaning.specs.Inner.Place.{Place, places_left, room_left, from, Does}
use Rattle.meaning.specs.Rule.{Rule, state_after, AllAllowed, Keeps, AtEnd, page_limit}
use Rattle.meaning.proofs.Events.{pages_limited}
use Rattle.meaning.proofs.Runs.{Runs, finishes, stops, asks, asks_full, prints, prints_full, runs}

module _ {S : Type 0} (rule : Rule S) {Q R E L A : Type 0} where
  -- What follows starts in a state that the first tree promises.
  pub keeps_bind : {B : Type 0} (t : Tree Q R E L A) (f : A → Tree Q R E L B) (s : S) (Φ : A → S → Type 0) (Ψ : B → S → Type 0) → Keeps rule t s Φ → ((a : A) (s' : S) → Φ a s' → Keeps rule (f a) s' Ψ) → Keeps rule (bind t f) s Ψ
  keeps_bind (done a) f s Φ Ψ h g = g a s h
  keeps_bind (stop e l) f s Φ Ψ h g = tt
  keeps_bind (ask q l k) f s Φ Ψ h g = λ r. keeps_bind (k r) f s Φ Ψ (h r) g
  keeps_bind (print v l t) f s Φ Ψ h g = (h.0, keeps_bind t f (rule.next s v) Φ Ψ h.1 g)

  -- A tree may promise less.
  pub keeps_more : (t : Tree Q R E L A) (s : S) (Φ Ψ : A → S → Type 0) → Keeps rule t s Φ → ((a : A) (s' : S) → Φ a s' → Ψ a s') → Keeps rule t s Ψ
  keeps_more (done a) s Φ Ψ h g = g a s h
  keeps_more (stop e l) s Φ Ψ h g = tt
  keeps_more (ask q l k) s Φ Ψ h g = λ r. keeps_more (k r) s Φ Ψ (h r) g
  keeps_more (print v l t) s Φ Ψ h g = (h.0, keeps_more t (rule.next s v) Φ Ψ h.1 g)

  module _ {source : Q → R} (Φ : A → S → Type 0) where
    allowed_runs : {p r : ℕ} {t : Tree Q R E L A} {x : Run Q E L A} (s : S) → Runs source p r t x → Keeps rule t s Φ → AllAllowed rule s x.events
    allowed_runs s finishes h = tt
    allowed_runs s stops h = tt
    allowed_runs s (asks {q = q} d) h = allowed_runs s d (h (source q))
    allowed_runs s asks_full h = tt
    allowed_runs s (prints {v = v} fits d) h = (h.0, allowed_runs (rule.next s v) d h.1)
    allowed_runs s (prints_full full) h = tt

    end_runs : {p r : ℕ} {t : Tree Q R E L A} {x : Run Q E L A} (s : S) → Runs source p r t x → Keeps rule t s Φ → AtEnd Φ x.end (state_after rule s x.events)
    end_runs s finishes h = h
    end_runs s stops h = tt
    end_runs s (asks {q = q} d) h = end_runs s d (h (source q))
    end_runs s asks_full h = tt
    end_runs s (prints {v = v} fits d) h = end_runs (rule.next s v) d h.1
    end_runs s (prints_full full) h = tt

  module _ (source : Q → R) (p r : ℕ) (t : Tree Q R E L A) (s : S) (Φ : A → S → Type 0) (h : Keeps rule t s Φ) where
    -- A run of a tree that keeps a rule prints only what is allowed.
    pub keeps_run : AllAllowed rule s (run source p r t).events
    keeps_run = allowed_runs Φ s (runs source p r t) h

    -- A finished run of a tree that keeps a rule ends as the tree promises.
    pub keeps_end : AtEnd Φ (run source p r t).end (state_after rule s (run source p r t).events)
    keeps_end = end_runs Φ s (runs source p r t) h

-- Where a tree prints no line on a page that has m lines, each page of each run has at most m.
pub keeps_pages : (m : ℕ) {Q R E L A : Type 0} (source : Q → R) (p r : ℕ) (t : Tree Q R E L A) (Φ : A → ℕ → Type 0) → Keeps (page_limit m) t 0 Φ → Each (λ page. length page ≤ m) (pages_of (run source p r t).events)
keeps_pages m source p r t Φ h = pages_limited m (run source p r t).events (keeps_run (page_limit m) source p r t 0 Φ h)

-- What a tree keeps, the value that a call yielded has.
pub yields : {S : Type 0} (rule : Rule S) {Q R E L A : Type 0} {source : Q → R} {t : Tree Q R E L A} {P P' : Place Q} {a : A} (s : S) (Φ : A → S → Type 0) → Does source t P P' (finished a) → Keeps rule t s Φ → (s' : S) × Φ a s'
yields rule {source = source} {t = t} {P = P} s Φ d k =
    (state_after rule s (from source P t).events, subst (λ e. AtEnd Φ e (state_after rule s (from source P t).events)) (sym d.did.end) (keeps_end rule source (places_left P) (room_left P) t s Φ k))
