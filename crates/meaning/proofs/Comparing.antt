-- Two runs of one tree: with the same answers, in longer buffers, behind one filter.
use mathlib.Core.Path.{◌≡◌, refl, sym, ◌∙◌, ap, subst}
use mathlib.Core.Bool.{Bool, true, false}
use mathlib.Core.List.{List, [], ◌∷◌, ◌++◌, append_assoc, Memᴰ}
use Prim.Native.Nat.{ℕ, ◌-◌, ◌≤◌, ◌<◌}
use native.Mathlib.Omega.{arith}
use lib.ListN.{length}
use Rattle.meaning.specs.Each.{Each}
use Rattle.meaning.specs.Event.{Event, event_bytes, joined}
use Rattle.meaning.specs.Tree.{Tree, ask, refused, cut, End, finished, halted, Run, text_of, ended, asking, printing, run}
use Rattle.meaning.specs.Compare.{Agree, Prefix, Start, LongerBy, Longer, behind_filter}
use Rattle.meaning.specs.declared.refusal.Overflow.{Overflow}
use Rattle.meaning.proofs.Events.{joined_append}
use Rattle.meaning.proofs.Runs.{Runs, finishes, stops, asks, asks_full, prints, prints_full, runs, run_print, run_print_full, run_ask}
use Rattle.meaning.proofs.Binding.{behind}

-- What holds of every member holds of each element.
pub each_of : {A : Type 0} (P : A → Type 0) (xs : List A) → ((x : A) → Memᴰ x xs → P x) → Each P xs
each_of P [] h = tt
each_of P (x ∷ xs) h = (h x (Memᴰ.head refl), each_of P xs (λ y m. h y (Memᴰ.tail m)))

module _ {Q R E L A : Type 0} (s s' : Q → R) where
  same_runs : {p r : ℕ} {t : Tree Q R E L A} {x : Run Q E L A} → Runs s p r t x → Agree s s' x.asked → x ≡ run s' p r t
  unfolding run
  same_runs finishes h = refl
  same_runs stops h = refl
  same_runs (asks {p} {r} {q} {k = k} d) h = ap (asking q) (same_runs d h.1 ∙ ap (λ a. run s' p r (k a)) h.0)
  same_runs asks_full h = refl
  same_runs (prints {p} {r} {v} {l} {t} fits d) h = ap (printing v) (same_runs d h) ∙ sym (run_print s' p r v l t fits)
  same_runs (prints_full {p} {r} {v} {l} {t} full) h = sym (run_print_full s' p r v l t full)

  -- Sources that agree on the questions asked give the same run.
  pub same : (p r : ℕ) (t : Tree Q R E L A) → Agree s s' (run s p r t).asked → run s p r t ≡ run s' p r t
  same p r t h = same_runs (runs s p r t) h

  -- The same, of every question that stands on the run's read list.
  pub same_listed : (p r : ℕ) (t : Tree Q R E L A) → ((q : Q) → Memᴰ q (run s p r t).asked → s q ≡ s' q) → run s p r t ≡ run s' p r t
  same_listed p r t h = same p r t (each_of (λ q. s q ≡ s' q) (run s p r t).asked h)

prefix_behind : {A : Type 0} (zs xs ys : List A) → Prefix xs ys → Prefix (zs ++ xs) (zs ++ ys)
prefix_behind zs xs ys h = (h.0, ap (λ l. zs ++ l) h.1 ∙ sym (append_assoc zs xs h.0))

longer_behind : {Q E L A : Type 0} (qs : List Q) (vs : List Event) (x y : Run Q E L A) (e : End E L A) → LongerBy e x y → LongerBy e (behind qs vs x) (behind qs vs y)
unfolding LongerBy
longer_behind qs vs x y (finished a) h = ap (behind qs vs) h
longer_behind qs vs x y (halted (refused e) l) h = ap (behind qs vs) h
longer_behind qs vs x y (halted (cut o) l) h = record {
  asked = prefix_behind qs x.asked y.asked h.asked;
  events = prefix_behind vs x.events y.events h.events;
}

cut_at_once : {Q E L A : Type 0} (e : End E L A) (y : Run Q E L A) → Start (ended e) y
cut_at_once e y = record { asked = (y.asked, refl); events = (y.events, refl) }

module _ {Q R E L A : Type 0} (s : Q → R) where
  longer_runs : {p r : ℕ} {t : Tree Q R E L A} {x : Run Q E L A} → Runs s p r t x → (p' r' : ℕ) → p ≤ p' → r ≤ r' → Longer x (run s p' r' t)
  unfolding run LongerBy
  longer_runs finishes p' r' hp hr = refl
  longer_runs stops p' r' hp hr = refl
  longer_runs (asks {p} {r} {q} {l} {k} {x} d) p' r' hp hr =
      rw (run_ask s p' r' q l k (omega arith)) (longer_behind (q ∷ []) [] x (run s (p' - 1) r' (k (s q))) x.end (longer_runs d (p' - 1) r' (omega arith) hr))
  longer_runs asks_full p' r' hp hr = cut_at_once _ _
  longer_runs (prints {p} {r} {v} {l} {t} {x} fits d) p' r' hp hr =
      rw (run_print s p' r' v l t (omega arith)) (longer_behind [] (v ∷ []) x (run s p' (r' - length (event_bytes v)) t) x.end (longer_runs d p' (r' - length (event_bytes v)) hp (omega arith)))
  longer_runs (prints_full full) p' r' hp hr = cut_at_once _ _

  -- With more places and more room the run is the same or, where it was cut off, it goes on from there.
  pub longer : (p p' r r' : ℕ) (t : Tree Q R E L A) → p ≤ p' → r ≤ r' → Longer (run s p r t) (run s p' r' t)
  longer p p' r r' t hp hr = longer_runs (runs s p r t) p' r' hp hr

module _ {Q E L A : Type 0} (x y : Run Q E L A) (h : Longer x y) where
  -- A run that was cut off is the start of the longer one.
  pub longer_cut : (o : Overflow) (l : L) → x.end ≡ halted (cut o) l → Start x y
  unfolding LongerBy
  longer_cut o l e = subst (λ end. LongerBy end x y) e h

  -- A run that wasn't cut off is the longer one.
  pub longer_same : ((o : Overflow) (l : L) → x.end ≡ halted (cut o) l → ⊥) → x ≡ y
  unfolding LongerBy
  longer_same n = uncut x.end h n where
    uncut : (e : End E L A) → LongerBy e x y → ((o : Overflow) (l : L) → e ≡ halted (cut o) l → ⊥) → x ≡ y
    uncut (finished a) h n = h
    uncut (halted (refused e) l) h n = h
    uncut (halted (cut o) l) h n = absurd (n o l refl)

-- The start of a run is the start of its text too.
pub start_text : {Q E L A : Type 0} {x y : Run Q E L A} → Start x y → Prefix (text_of x) (text_of y)
start_text {x = x} h = (joined h.events.0, ap joined h.events.1 ∙ joined_append x.events h.events.0)

module _ {Q R : Type 0} (shown : Q → Bool) (blank : Q → R) where
  filtered_same : (s s' : Q → R) (q : Q) → (shown q ≡ true → s q ≡ s' q) → behind_filter shown blank s q ≡ behind_filter shown blank s' q
  unfolding behind_filter
  filtered_same s s' q h = by (shown q) h where
    by : (b : Bool) → (b ≡ true → s q ≡ s' q) → ◌≡◌ {A = R} (elim b [ true ↦ s q | false ↦ blank q ]) (elim b [ true ↦ s' q | false ↦ blank q ])
    by true h = h refl
    by false h = refl

  -- A run behind a filter sees nothing of what the filter hides.
  pub unseen : {E L A : Type 0} (s s' : Q → R) → ((q : Q) → shown q ≡ true → s q ≡ s' q) → (p r : ℕ) (t : Tree Q R E L A) → run (behind_filter shown blank s) p r t ≡ run (behind_filter shown blank s') p r t
  unseen s s' h p r t = same_listed (behind_filter shown blank s) (behind_filter shown blank s') p r t (λ q m. filtered_same s s' q (h q))

  -- A question that is shown gets the source's answer.
  pub filtered_shown : (s : Q → R) (q : Q) → shown q ≡ true → behind_filter shown blank s q ≡ s q
  unfolding behind_filter
  filtered_shown s q h = rw (h, behind_filter)

  -- A question that is hidden gets the blank answer.
  pub filtered_hidden : (s : Q → R) (q : Q) → shown q ≡ false → behind_filter shown blank s q ≡ blank q
  unfolding behind_filter
  filtered_hidden s q h = rw (h, behind_filter)

  -- A hidden question is answered blank, and still listed.
  pub hidden_listed : {E L A : Type 0} (s : Q → R) (p r : ℕ) (q : Q) (l : L) (k : R → Tree Q R E L A) → shown q ≡ false → 0 < p → run (behind_filter shown blank s) p r (ask q l k) ≡ asking q (run (behind_filter shown blank s) (p - 1) r (k (blank q)))
  hidden_listed s p r q l k h f = run_ask (behind_filter shown blank s) p r q l k f ∙ ap (λ a. asking q (run (behind_filter shown blank s) (p - 1) r (k a))) (filtered_hidden s q h)
