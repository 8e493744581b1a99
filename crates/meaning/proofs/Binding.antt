-- Laws of `bind`: a bind of binds, and the run of a bind.
use mathlib.Core.Path.{◌≡◌, refl, ◌∙◌, ap}
use mathlib.Core.List.{List, [], ◌∷◌, ◌++◌, append_assoc}
use Prim.Native.Nat.{ℕ, suc, ◌-◌}
use native.Mathlib.Omega.{arith}
use native.Mathlib.Nat.{sub-zero}
use lib.ListN.{length, length-append}
use Rattle.meaning.specs.Event.{Event, event_bytes, joined}
use Rattle.meaning.specs.Tree.{Tree, done, stop, ask, print, bind, End, finished, halted, Run, text_of, asking, printing, run}
use Rattle.meaning.proofs.Runs.{Runs, finishes, stops, asks, asks_full, prints, prints_full, runs, run_print, run_print_full}

-- Binds may be grouped either way.
pub bind_assoc : {Q R E L A B C : Type 0} (t : Tree Q R E L A) (f : A → Tree Q R E L B) (g : B → Tree Q R E L C) → bind (bind t f) g ≡ bind t (λ a. bind (f a) g)
bind_assoc (done a) f g = refl
bind_assoc (stop e l) f g = refl
bind_assoc (ask q l k) f g = λ i. ask q l (λ r. bind_assoc (k r) f g i)
bind_assoc (print v l t) f g = ap (print v l) (bind_assoc t f g)

-- What follows may be replaced by its equal.
pub bind_same : {Q R E L A B : Type 0} (t : Tree Q R E L A) (f g : A → Tree Q R E L B) → ((a : A) → f a ≡ g a) → bind t f ≡ bind t g
bind_same t f g h = λ i. bind t (λ a. h a i)

-- A run with questions and events before it.
abbrev pub behind : {Q E L A : Type 0} → List Q → List Event → Run Q E L A → Run Q E L A
behind qs vs x = record { end = x.end; asked = qs ++ x.asked; events = vs ++ x.events }

-- What qs and vs are followed by, where they ended in e: the run of what e yields, or nothing.
abbrev pub and_then : {Q E L A B : Type 0} → End E L A → List Q → List Event → (A → Run Q E L B) → Run Q E L B
and_then (finished a) qs vs g = behind qs vs (g a)
and_then (halted c l) qs vs g = record { end = halted c l; asked = qs; events = vs }

-- A run, and where it finished, the next one, in the places and the room that are left of p and r.
abbrev pub chain : {Q E L A B : Type 0} → Run Q E L A → (ℕ → ℕ → A → Run Q E L B) → ℕ → ℕ → Run Q E L B
chain x g p r = and_then x.end x.asked x.events (g (p - length x.asked) (r - length (text_of x)))

behind_then : {Q E L A B : Type 0} (ps : List Q) (ws : List Event) (e : End E L A) (qs : List Q) (vs : List Event) (g : A → Run Q E L B) → behind ps ws (and_then e qs vs g) ≡ and_then e (ps ++ qs) (ws ++ vs) g
behind_then ps ws (finished a) qs vs g = simp append_assoc
behind_then ps ws (halted c l) qs vs g = refl

-- The run of what follows.
abbrev pub onward : {Q R E L A B : Type 0} → (Q → R) → (A → Tree Q R E L B) → ℕ → ℕ → A → Run Q E L B
onward source f p r a = run source p r (f a)

module _ {Q R E L A B : Type 0} (source : Q → R) (f : A → Tree Q R E L B) where
  bind_runs : {p r : ℕ} {t : Tree Q R E L A} {x : Run Q E L A} → Runs source p r t x → run source p r (bind t f) ≡ chain x (onward source f) p r
  unfolding run joined
  bind_runs finishes = simp sub-zero
  bind_runs stops = refl
  bind_runs (asks {p} {r} {q} {x = x} h) =
      let less : suc p - suc (length x.asked) ≡ p - length x.asked = omega arith in
      rw less (ap (asking q) (bind_runs h) ∙ behind_then (q ∷ []) [] x.end x.asked x.events (onward source f (p - length x.asked) (r - length (text_of x))))
  bind_runs asks_full = refl
  bind_runs (prints {p} {r} {v} {l} {t} {x} fits h) =
      let less : r - length (event_bytes v ++ text_of x) ≡ r - length (event_bytes v) - length (text_of x) = omega (arith, length-append (event_bytes v) (text_of x)) in
      rw less (run_print source p r v l (bind t f) fits ∙ ap (printing v) (bind_runs h) ∙ behind_then [] (v ∷ []) x.end x.asked x.events (onward source f (p - length x.asked) (r - length (event_bytes v) - length (text_of x))))
  bind_runs (prints_full {p} {r} {v} {l} {t} full) = run_print_full source p r v l (bind t f) full

  -- The run of a bind is the first run and, where it finished, the next, in the places and the room that are left.
  pub run_bind : (p r : ℕ) (t : Tree Q R E L A) → run source p r (bind t f) ≡ chain (run source p r t) (onward source f) p r
  run_bind p r t = bind_runs (runs source p r t)
