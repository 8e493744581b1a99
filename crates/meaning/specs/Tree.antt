-- A run as a tree: what it asks, how it goes on with each answer, what it prints, and how it ends.
use Rattle.std.specs.Prelude.{true, false, List, [], ◌∷◌, ℕ, zero, suc, ◌-◌, leb, length}
use Rattle.meaning.specs.Event.{Event, event_bytes, joined}
use Rattle.meaning.specs.declared.refusal.Overflow.{Overflow}
use Rattle.meaning.specs.declared.refusal.Overflow.TheVariants.{ReadList, Output}

-- Q: questions, R: answers, E: refusals, L: the lines that are named, A: what a finished run yields.
-- `ask` and `print` carry the line that is named where the read list has no place or the output no room: `stop` cannot bear these two.
pub data Tree (Q R E L A : Type 0) : Type 0 where
  done : A → Tree Q R E L A
  stop : E → L → Tree Q R E L A
  ask : Q → L → (R → Tree Q R E L A) → Tree Q R E L A
  print : Event → L → Tree Q R E L A → Tree Q R E L A

-- A tree, and where it is done, the tree that follows from what it yields.
abbrev pub bind : {Q R E L A B : Type 0} → Tree Q R E L A → (A → Tree Q R E L B) → Tree Q R E L B
bind (done a) f = f a
bind (stop e l) f = stop e l
bind (ask q l k) f = ask q l (λ r. bind (k r) f)
bind (print v l t) f = print v l (bind t f)

-- Why a run ended early: refused, or cut off because a buffer was full.
pub data Cause (E : Type 0) : Type 0 where
  refused : E → Cause E
  cut : Overflow → Cause E

-- How a run ended: finished with what it yields, or early, with the line that is named.
pub data End (E L A : Type 0) : Type 0 where
  finished : A → End E L A
  halted : Cause E → L → End E L A

-- How a run ended, the questions that it asked, in order, and the events that it printed.
pub record Run (Q E L A : Type 0) : Type 0 where
  pub end : End E L A
  pub asked : List Q
  pub events : List Event

abbrev pub text_of : {Q E L A : Type 0} → Run Q E L A → List ℕ
text_of x = joined x.events

-- A run that does nothing but end; one with a question before it; one with an event before it.
abbrev pub ended : {Q E L A : Type 0} → End E L A → Run Q E L A
ended e = record { end = e; asked = []; events = [] }

abbrev pub asking : {Q E L A : Type 0} → Q → Run Q E L A → Run Q E L A
asking q x = record { end = x.end; asked = q ∷ x.asked; events = x.events }

abbrev pub printing : {Q E L A : Type 0} → Event → Run Q E L A → Run Q E L A
printing v x = record { end = x.end; asked = x.asked; events = v ∷ x.events }

-- The run of a tree, with a source of answers, places left on the read list and bytes of room left in the output.
-- 9 "The read list has no place for the next question": `cut ReadList`. 14 "The next line, or a form feed alone, doesn't fit the
-- output": `cut Output`; an event is printed whole, or the run is cut off before it.
unfoldable pub run : {Q R E L A : Type 0} → (Q → R) → ℕ → ℕ → Tree Q R E L A → Run Q E L A
run source places room (done a) = ended (finished a)
run source places room (stop e l) = ended (halted (refused e) l)
run source zero room (ask q l k) = ended (halted (cut ReadList) l)
run source (suc places) room (ask q l k) = asking q (run source places room (k (source q)))
run source places room (print v l t) =
    elim (leb (length (event_bytes v)) room) [
      | true ↦ printing v (run source places (room - length (event_bytes v)) t)
      | false ↦ ended (halted (cut Output) l)
    ]
