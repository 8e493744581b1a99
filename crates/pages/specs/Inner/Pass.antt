-- A text line as the code makes it, in one pass, and what its contracts say.
use Rattle.std.specs.Prelude.{◌≡◌, Bool, true, false, ◌||◌, List, [], ◌∷◌, ◌++◌, ℕ, ◌+◌, ◌≤◌, ℤ, length, take, Option, Some, None, Result, Ok, Err}
use Rattle.meaning.specs.Answer.{Answer}
use Rattle.meaning.specs.Tree.{done, bind}
use Rattle.meaning.specs.Meaning.{Meaning}
use Rattle.meaning.specs.declared.question.Question.{Question}
use Rattle.cells.specs.Cell.{Cell}
use Rattle.cells.specs.Inner.Index.{Ready}
use Rattle.arguments.specs.declared.argument.Argument.{Argument}
use Rattle.arguments.specs.Inner.Parameter.{parameter_of}
use Rattle.texts.specs.declared.text.Field.{Field}
use Rattle.texts.specs.Inner.CellField.{field_with}
use Rattle.texts.specs.declared.text.Piece.{Piece}
use Rattle.texts.specs.declared.text.Piece.TheVariants.{Byte, Placed}
use Rattle.texts.specs.Readers.Text.{field_at, text_fits}
use Rattle.values.specs.declared.scene.Scene.{Scene}
use Rattle.values.specs.Machine.{Machine}
use Rattle.values.specs.Source.{answers}
use Rattle.values.specs.Inner.State.{Held, held, machine}
use Rattle.values.specs.Inner.Texts.{Sized}
use Rattle.values.specs.Inner.Hearing.{Askable}
use Rattle.values.specs.Inner.Yielding.{ArgumentValue}
use Rattle.values.specs.declared.worth.Worth as C
use Rattle.values.specs.declared.worth.Worth.TheVariants as W
use Rattle.values.specs.Meanings.{argument_meaning}
use Rattle.pages.specs.declared.text.Made.{Made}
use Rattle.pages.specs.Shown.{field_bytes}
use Rattle.texts.specs.Pieces.{pieces_of, field_count}
use Rattle.pages.specs.Text.{is_wrong, text_meaning}
use Rattle.meaning.specs.Number.{ended_in}
use Rattle.meaning.specs.Inner.Place.{Does}
use Rattle.meaning.specs.declared.end.Stop.{Stop}
use Rattle.values.specs.declared.log.Log.{Log}
use Rattle.values.specs.Inner.Logged.{filled_to}
use Rattle.pages.specs.declared.text.FieldValue.{FieldValue}

-- the bytes made so far, and whether a kind was wrong
pub record Worked : Type 0 where
  pub bytes : List ℕ
  pub wrong : Bool

abbrev pub worked : List ℕ → Bool → Worked
worked s w = record { bytes = s; wrong = w }

abbrev pub pass : Machine → List ℕ → ℕ → List Piece → List ℕ → Bool → Meaning Worked
pass m l line [] made w = done (worked made w)
pass m l line (Byte b ∷ ps) made w = pass m l line ps (made ++ b ∷ []) w
pass m l line (Placed f ∷ ps) made w =
    bind (argument_meaning m l line f.argument) (λ v. pass m l line ps (made ++ field_bytes f.width f.places v) (w || is_wrong v))

-- whether a kind was wrong, with one more value as the code holds it
unfoldable pub or_wrong : Bool → C.Worth → Bool
or_wrong w W.Missing = w
or_wrong w W.Wrong = true
or_wrong w (W.Number q) = w
or_wrong w (W.Text t) = w

-- all that a line reads: the store and its index, the registers
pub record Lent : Type 0 where
  pub store : List ℕ
  pub index : List ℕ
  pub vars : Held

abbrev pub lent : List ℕ → List ℕ → List ℤ → List (List ℕ) → List ℕ → Lent
lent store index numbers rows words = record { store = store; index = index; vars = held numbers rows words }

-- the machine that it stands for, with a source of answers
abbrev pub machine_of : Lent → Scene → (Question → Answer) → Machine
machine_of x s source = machine source x.vars s

-- something said of the answers that the store gives, where the index is that of its cells
abbrev pub Sourced : Lent → ((Question → Answer) → Type 0) → Type 0
Sourced x P = (n : ℕ) (cs : List Cell) → Ready x.store n x.index (length x.index) cs → P (answers x.store n)

-- What a field requires: a place in the log for what it asks, and limits that the checks of the template and of the store give.
pub record FieldReady (d : ℕ) (l : List ℕ) (at : ℕ) (store : List ℕ) (a : ℕ) : Type 0 where
  pub asks : (f : Field) (next : ℕ) → field_at l at ≡ Some (f, next) → Askable d 1 (parameter_of f.argument.operand) a
  pub sized : Sized l store

-- the field at a place of the line, and what its argument came to
pub record FieldIs (x : Lent) (s : Scene) (l : List ℕ) (at : ℕ) (log log' : Log) (v : Result C.Worth Stop) (w : ℕ) (shown : Option ℕ) (next : ℕ) : Type 0 where
  pub argument : Argument
  pub field : field_at l at ≡ Some (field_with argument w shown, next)
  pub value : ArgumentValue l x.store x.index x.vars s argument log log' v

-- a field is there, and its argument stopped the run
pub record FieldStops (x : Lent) (s : Scene) (l : List ℕ) (at : ℕ) (log log' : Log) (e : Stop) : Type 0 where
  pub width : ℕ
  pub shown : Option ℕ
  pub next : ℕ
  pub is : FieldIs x s l at log log' (Err e) width shown next

pub record FieldValued (x : Lent) (s : Scene) (l : List ℕ) (at : ℕ) (log log' : Log) (r : Result (Option FieldValue) Stop) : Type 0 where
  pub some : (v : FieldValue) → r ≡ Ok (Some v) → FieldIs x s l at log log' (Ok v.worth) v.width v.places v.next
  pub none : r ≡ Ok None → field_at l at ≡ None
  pub stops : (e : Stop) → r ≡ Err e → FieldStops x s l at log log' e

-- What a line requires: its text has a form and fits, there are places in the log for all its fields, and limits that the
-- checks of the template and of the store give.
pub record Sayable (x : Lent) (d : ℕ) (l : List ℕ) (from a : ℕ) : Type 0 where
  pub fits : text_fits l from ≡ true
  pub short_line : length l ≤ 65536
  pub short_store : length x.store ≤ 65536
  pub datasource : d ≤ 35
  pub logged : a + field_count (pieces_of l from) ≤ 512

-- what a pass made of a buffer
abbrev pub made_in : List ℕ → Made → Worked
made_in b m = worked (take m.filled b) m.wrong

-- the log and the buffer are what one pass over the text made; where it ends, r says how much of the buffer
pub record Makes (x : Lent) (s : Scene) (l : List ℕ) (from : ℕ) (log log' : Log) (b' : List ℕ) (r : Result Made Stop) : Type 0 where
  pub does : Sourced x (λ source. (text : List ℕ) (m g : ℕ) → Does source (pass (machine_of x s source) l s.number (pieces_of l from) [] false) (filled_to text m log g) (filled_to text m log' g) (ended_in (made_in b') r))
  pub few : log'.asked ≤ log.asked + field_count (pieces_of l from)
  pub filled : (m : Made) → r ≡ Ok m → m.filled ≤ 132
  pub whole : length b' ≡ 133

-- the line of the scene s was printed, or refused
pub record Tells (x : Lent) (s : Scene) (l : List ℕ) (from : ℕ) (text : List ℕ) (m : ℕ) (log : Log) (text' : List ℕ) (m' : ℕ) (log' : Log) (r : Result (Unit {0}) Stop) : Type 0 where
  pub does : Sourced x (λ source. (g : ℕ) → Does source (text_meaning (machine_of x s source) l from s.number) (filled_to text m log g) (filled_to text' m' log' g) (ended_in (λ x. x) r))
  pub few : log'.asked ≤ log.asked + field_count (pieces_of l from)
  pub kept : length text' ≡ length text
  pub room : m' ≤ length text
