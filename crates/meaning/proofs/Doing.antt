-- The laws of `Does`: what a call leaves as it was, a call behind another, and the leaves of a tree.
use mathlib.Core.Path.{◌≡◌, refl, sym, ◌∙◌, ap, ap₂}
use mathlib.Core.List.{List, [], ◌∷◌, ◌++◌, append-nil}
use Prim.Native.Nat.{ℕ, ◌+◌, ◌-◌, ◌≤◌, ◌<◌}
use native.Mathlib.Omega.{arith}
use native.Mathlib.Nat.{add-zero}
use lib.ListN.{length, length-append, set, take, drop}
use lib.Seq.{sets, length-sets, sets-eq, take_at, length-take-le}
use Rattle.buffers.proofs.Laws.{sets_append}
use Rattle.meaning.specs.Event.{Event, line, break, event_bytes, joined, breaks, pages_of}
use Rattle.meaning.specs.Tree.{Tree, done, stop, ask, print, bind, Cause, refused, cut, End, finished, halted, Run, text_of, ended, run}
use Rattle.meaning.specs.Inner.Place.{Place, Fits, Did, places_left, room_left, Does, from}
use Rattle.meaning.specs.declared.refusal.Overflow.TheVariants.{ReadList, Output}
use Rattle.meaning.proofs.Events.{joined_append, breaks_append, page_count}
use Rattle.meaning.proofs.Runs.{run_print, run_print_full, run_ask, run_ask_full, text_fits_law, asked_fits}
use Rattle.meaning.proofs.Binding.{behind, chain, onward, run_bind}

-- A buffer filled up to n, after more was put there.
pub filled : {A : Type 0} (l l' ws : List A) (n n' : ℕ) → l' ≡ sets l n ws → n' ≡ n + length ws → n + length ws ≤ length l → take n' l' ≡ take n l ++ ws
filled l l' ws n n' e k f =
    rw (e, k, sets-eq ws l n f) (take_at (take n l ++ ws) (drop (n + length ws) l) (n + length ws) (omega (arith, length-append (take n l) ws, length-take-le n l (omega arith))))

module _ {Q R E L A : Type 0} {source : Q → R} {P P' : Place Q} {t : Tree Q R E L A} {e : End E L A} (d : Does source t P P' e) where
  -- The text stays as long as it was.
  pub text_kept : length P'.text ≡ length P.text
  text_kept = ap length d.did.text ∙ simp length-sets

  -- The log stays as long as it was.
  pub log_kept : length P'.log ≡ length P.log
  log_kept = ap length d.did.log ∙ simp length-sets

  room : length (text_of (from source P t)) ≤ length P.text - P.printed
  room = text_fits_law source (places_left P) (room_left P) t

  left : length (from source P t).asked ≤ P.places - P.asked
  left = asked_fits source (places_left P) (room_left P) t

  -- The text is filled at most to its end.
  pub room_kept : P.printed ≤ length P.text → P'.printed ≤ length P'.text
  room_kept h = omega (arith, d.did.printed, text_kept, room)

  -- No more is asked than there are places for.
  pub left_kept : P.asked ≤ P.places → P'.asked ≤ P'.places
  left_kept h = omega (arith, d.did.asked, d.did.places, left)

  -- A call that starts in a place that fits ends in one.
  pub fits_kept : Fits P → Fits P'
  fits_kept h = record { room = room_kept h.room; left = left_kept h.left }

  -- The filled part of the text has grown by what the run printed.
  pub text_is : P.printed ≤ length P.text → take P'.printed P'.text ≡ take P.printed P.text ++ text_of (from source P t)
  text_is h = filled P.text P'.text (text_of (from source P t)) P.printed P'.printed d.did.text d.did.printed (omega (arith, room))

  -- The filled part of the log has grown by what the run asked.
  pub log_is : P.asked ≤ P.places → P.places ≤ length P.log → take P'.asked P'.log ≡ take P.asked P.log ++ (from source P t).asked
  log_is h f = filled P.log P'.log (from source P t).asked P.asked P'.asked d.did.log d.did.asked (omega (arith, left))

  -- A run that starts on page 1 ends on the page whose number is how many pages it has.
  pub page_is : P.pages ≡ 1 → P'.pages ≡ length (pages_of (from source P t).events)
  page_is h = omega (arith, d.did.pages, page_count (from source P t).events)

-- One run behind another.
module _ {Q E L A B : Type 0} {P P' : Place Q} where
  adds_up : {P'' : Place Q} {e : End E L A} {e' : End E L B} (x : Run Q E L A) (y : Run Q E L B) → Did x P P' e → Did y P' P'' e' → Did (behind x.asked x.events y) P P'' e'
  adds_up x y d d' =
      let text : joined (x.events ++ y.events) ≡ text_of x ++ text_of y = joined_append x.events y.events in
      record {
        end = d'.end;
        text = d'.text ∙ ap₂ (λ l k. sets l k (text_of y)) d.text d.printed ∙ sym (rw text (sets_append (text_of x) P.text P.printed (text_of y)));
        printed = omega (arith, d.printed, d'.printed, length-append (text_of x) (text_of y), ap length text);
        log = d'.log ∙ ap₂ (λ l k. sets l k y.asked) d.log d.asked ∙ sym (sets_append x.asked P.log P.asked y.asked);
        asked = omega (arith, d.asked, d'.asked, length-append x.asked y.asked);
        places = d'.places ∙ d.places;
        pages = omega (arith, d.pages, d'.pages, breaks_append x.events y.events);
      }

  went : {P'' : Place Q} {e' : End E L B} (x : Run Q E L A) (v : A) (g : ℕ → ℕ → A → Run Q E L B) → Did x P P' (finished v) → Did (g (places_left P') (room_left P') v) P' P'' e' → Did (chain x g (places_left P) (room_left P)) P P'' e'
  went x v g d d' =
      let places : P.places - P.asked - length x.asked ≡ P'.places - P'.asked = omega (arith, d.asked, d.places) in
      let room : length P.text - P.printed - length (text_of x) ≡ length P'.text - P'.printed = omega (arith, d.printed, simp length-sets at (ap length d.text)) in
      rw (← d.end, places, room) (adds_up x (g (places_left P') (room_left P') v) d d')

  over : (x : Run Q E L A) (c : Cause E) (l : L) (p r : ℕ) (g : ℕ → ℕ → A → Run Q E L B) → Did x P P' (halted c l) → Did (chain x g p r) P P' (halted c l)
  over x c l p r g d = rw (← d.end) (record { end = refl; text = d.text; printed = d.printed; log = d.log; asked = d.asked; places = d.places; pages = d.pages })

module _ {Q R E L A B : Type 0} {source : Q → R} {P P' : Place Q} {t : Tree Q R E L A} (f : A → Tree Q R E L B) where
  -- A call that finished, and what follows.
  pub then_does : {P'' : Place Q} {a : A} {e : End E L B} → Does source t P P' (finished a) → Does source (f a) P' P'' e → Does source (bind t f) P P'' e
  then_does {a = a} d d' = record { did = rw (run_bind source f (places_left P) (room_left P) t) (went (from source P t) a (onward source f) d.did d'.did) }

  -- A call that ended the run.
  pub then_over : {c : Cause E} {l : L} → Does source t P P' (halted c l) → Does source (bind t f) P P' (halted c l)
  then_over {c} {l} d = record { did = rw (run_bind source f (places_left P) (room_left P) t) (over (from source P t) c l (places_left P) (room_left P) (onward source f) d.did) }

-- A run that neither asked nor printed.
still : {Q E L A : Type 0} (P : Place Q) (e : End E L A) → Did (ended e) P P e
unfolding joined breaks
still P e = record { end = refl; text = refl; printed = sym (add-zero P.printed); log = refl; asked = sym (add-zero P.asked); places = refl; pages = sym (add-zero P.pages) }

-- PAGENUM after an event.
abbrev pub page_after : ℕ → Event → ℕ
page_after g (line b) = g
page_after g (break b) = g + 1

page_after_law : (g : ℕ) (v : Event) → page_after g v ≡ g + breaks (v ∷ [])
unfolding breaks
page_after_law g (line b) = omega arith
page_after_law g (break b) = omega arith

-- The place after an event.
abbrev pub with_event : {Q : Type 0} → Place Q → Event → Place Q
with_event P v = record { text = sets P.text P.printed (event_bytes v); printed = P.printed + length (event_bytes v); log = P.log; asked = P.asked; places = P.places; pages = page_after P.pages v }

-- The place after a question.
abbrev pub with_question : {Q : Type 0} → Place Q → Q → Place Q
with_question P q = record { text = P.text; printed = P.printed; log = set P.log P.asked q; asked = P.asked + 1; places = P.places; pages = P.pages }

module _ {Q R E L A : Type 0} (source : Q → R) (P : Place Q) where
  -- A tree that is done.
  pub does_done : (a : A) → Does {E = E} {L = L} source (done a) P P (finished a)
  unfolding run
  does_done a = record { did = still P (finished a) }

  -- A refusal.
  pub does_stop : (e : E) (l : L) → Does {A = A} source (stop e l) P P (halted (refused e) l)
  unfolding run
  does_stop e l = record { did = still P (halted (refused e) l) }

  -- An event that fits.
  pub does_print : (v : Event) (l : L) (a : A) → P.printed + length (event_bytes v) ≤ length P.text → Does {E = E} source (print v l (done a)) P (with_event P v) (finished a)
  unfolding run joined breaks
  does_print v l a h =
      let room : length (event_bytes v) ≤ length P.text - P.printed = omega arith in
      record {
        did = rw (run_print source (places_left P) (room_left P) v l (done a) room) (record {
          end = refl;
          text = rw append-nil;
          printed = rw append-nil;
          log = refl;
          asked = sym (add-zero P.asked);
          places = refl;
          pages = page_after_law P.pages v;
        });
      }

  -- An event that doesn't fit.
  pub does_print_cut : (v : Event) (l : L) (t : Tree Q R E L A) → P.printed ≤ length P.text → length P.text < P.printed + length (event_bytes v) → Does source (print v l t) P P (halted (cut Output) l)
  does_print_cut v l t f h =
      let full : length P.text - P.printed < length (event_bytes v) = omega arith in
      record { did = rw (run_print_full source (places_left P) (room_left P) v l t full) (still P (halted (cut Output) l)) }

  -- A question with a place.
  pub does_ask : (q : Q) (l : L) (f : R → A) → P.asked < P.places → Does {E = E} source (ask q l (λ r. done (f r))) P (with_question P q) (finished (f (source q)))
  unfolding run joined breaks
  does_ask q l f h =
      let place : 0 < P.places - P.asked = omega arith in
      record {
        did = rw (run_ask source (places_left P) (room_left P) q l (λ r. done (f r)) place) (record {
          end = refl;
          text = refl;
          printed = sym (add-zero P.printed);
          log = refl;
          asked = refl;
          places = refl;
          pages = sym (add-zero P.pages);
        });
      }

  -- A question without a place.
  pub does_ask_full : (q : Q) (l : L) (k : R → Tree Q R E L A) → P.places ≤ P.asked → Does source (ask q l k) P P (halted (cut ReadList) l)
  does_ask_full q l k h =
      let full : P.places - P.asked ≡ 0 = omega arith in
      record { did = rw (run_ask_full source (places_left P) (room_left P) q l k full) (still P (halted (cut ReadList) l)) }
