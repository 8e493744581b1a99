-- The clauses of `run` as laws and as rules, and that a run stays within its places and its room.
use mathlib.Core.Path.{◌≡◌, refl}
use mathlib.Core.Bool.{Bool, true, false}
use Prim.Native.Nat.{ℕ, zero, suc, ◌-◌, ◌≤◌, ◌<◌}
use native.Mathlib.Omega.{arith}
use native.Mathlib.Nat.{not-suc-le-zero}
use borrow.Author.Tests.{le-leb, lt-leb, leb-true, leb-false}
use lib.Dec.{leb}
use lib.ListN.{length, length-append}
use Rattle.meaning.specs.Event.{Event, event_bytes, joined}
use Rattle.meaning.specs.Tree.{Tree, done, stop, ask, print, refused, cut, finished, halted, Run, text_of, ended, asking, printing, run}
use Rattle.meaning.specs.declared.refusal.Overflow.TheVariants.{ReadList, Output}

module _ {Q R E L A : Type 0} (source : Q → R) where
  module _ (p r : ℕ) (v : Event) (l : L) (t : Tree Q R E L A) where
    -- An event that fits.
    pub run_print : length (event_bytes v) ≤ r → run source p r (print v l t) ≡ printing v (run source p (r - length (event_bytes v)) t)
    unfolding run
    run_print h = rw (le-leb (length (event_bytes v)) r h, run)

    -- An event that doesn't fit.
    pub run_print_full : r < length (event_bytes v) → run source p r (print v l t) ≡ ended (halted (cut Output) l)
    unfolding run
    run_print_full h = rw (lt-leb (length (event_bytes v)) r h, run)

  -- A question with a place.
  pub run_ask : (p r : ℕ) (q : Q) (l : L) (k : R → Tree Q R E L A) → 0 < p → run source p r (ask q l k) ≡ asking q (run source (p - 1) r (k (source q)))
  unfolding run
  run_ask zero r q l k h = absurd (not-suc-le-zero h)
  run_ask (suc p) r q l k h = let one : suc p - 1 ≡ p = omega arith in rw one

  -- A question without a place.
  pub run_ask_full : (p r : ℕ) (q : Q) (l : L) (k : R → Tree Q R E L A) → p ≡ 0 → run source p r (ask q l k) ≡ ended (halted (cut ReadList) l)
  unfolding run
  run_ask_full p r q l k h = rw h

  -- The clauses of `run` as rules: what holds of every run is shown by cases of these.
  pub data Runs : ℕ → ℕ → Tree Q R E L A → Run Q E L A → Type 0 where
    finishes : {p r : ℕ} {a : A} → Runs p r (done a) (ended (finished a))
    stops : {p r : ℕ} {e : E} {l : L} → Runs p r (stop e l) (ended (halted (refused e) l))
    asks : {p r : ℕ} {q : Q} {l : L} {k : R → Tree Q R E L A} {x : Run Q E L A} → Runs p r (k (source q)) x → Runs (suc p) r (ask q l k) (asking q x)
    asks_full : {r : ℕ} {q : Q} {l : L} {k : R → Tree Q R E L A} → Runs 0 r (ask q l k) (ended (halted (cut ReadList) l))
    prints : {p r : ℕ} {v : Event} {l : L} {t : Tree Q R E L A} {x : Run Q E L A} → length (event_bytes v) ≤ r → Runs p (r - length (event_bytes v)) t x → Runs p r (print v l t) (printing v x)
    prints_full : {p r : ℕ} {v : Event} {l : L} {t : Tree Q R E L A} → r < length (event_bytes v) → Runs p r (print v l t) (ended (halted (cut Output) l))

  prints_or_not : (p r : ℕ) (v : Event) (l : L) (t : Tree Q R E L A) → Runs p (r - length (event_bytes v)) t (run source p (r - length (event_bytes v)) t) → (b : Bool) → leb (length (event_bytes v)) r ≡ b → Runs p r (print v l t) (run source p r (print v l t))
  prints_or_not p r v l t h true e = let fits = leb-true (length (event_bytes v)) r e in rw (run_print p r v l t fits) (prints fits h)
  prints_or_not p r v l t h false e = let full = leb-false (length (event_bytes v)) r e in rw (run_print_full p r v l t full) (prints_full full)

  -- `run` follows the rules.
  pub runs : (p r : ℕ) (t : Tree Q R E L A) → Runs p r t (run source p r t)
  unfolding run
  runs p r (done a) = finishes
  runs p r (stop e l) = stops
  runs zero r (ask q l k) = asks_full
  runs (suc p) r (ask q l k) = asks (runs p r (k (source q)))
  runs p r (print v l t) = prints_or_not p r v l t (runs p (r - length (event_bytes v)) t) (leb (length (event_bytes v)) r) refl

  text_within : {p r : ℕ} {t : Tree Q R E L A} {x : Run Q E L A} → Runs p r t x → length (text_of x) ≤ r
  unfolding joined
  text_within finishes = omega arith
  text_within stops = omega arith
  text_within (asks h) = text_within h
  text_within asks_full = omega arith
  text_within (prints {v = v} {x = x} fits h) = omega (arith, text_within h, length-append (event_bytes v) (text_of x))
  text_within (prints_full full) = omega arith

  asked_within : {p r : ℕ} {t : Tree Q R E L A} {x : Run Q E L A} → Runs p r t x → length x.asked ≤ p
  asked_within finishes = omega arith
  asked_within stops = omega arith
  asked_within (asks h) = omega (arith, asked_within h)
  asked_within asks_full = omega arith
  asked_within (prints fits h) = asked_within h
  asked_within (prints_full full) = omega arith

  -- What a run prints fits its room.
  pub text_fits_law : (p r : ℕ) (t : Tree Q R E L A) → length (text_of (run source p r t)) ≤ r
  text_fits_law p r t = text_within (runs p r t)

  -- What a run asks fits its places.
  pub asked_fits : (p r : ℕ) (t : Tree Q R E L A) → length (run source p r t).asked ≤ p
  asked_fits p r t = asked_within (runs p r t)
