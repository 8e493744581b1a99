-- In a machine in range every field of a text has the bytes that document 01 defines: the asterisks of `or_stars` are not met.
use Rattle.std.specs.Prelude.{Some}
use mathlib.Core.Path.{◌≡◌}
use mathlib.Core.List.{List, [], ◌∷◌}
use Prim.Native.Nat.{ℕ, ◌≤◌}
use borrow.Author.Tests.{le-leb}
use Rattle.meaning.specs.Tree.{done, bind}
use Rattle.meaning.proofs.Yielding.{Yields, yields_bind}
use Rattle.numbers.specs.Range.{integer_limit, decimal_limit, millionths}
use Rattle.numbers.proofs.Laws.{within_in}
use Rattle.cells.proofs.Limits.{AnswerWithin}
use Rattle.texts.specs.declared.text.Field.{Field}
use Rattle.texts.specs.declared.text.Piece.{Piece}
use Rattle.texts.specs.declared.text.Piece.TheVariants.{Byte, Placed}
use Rattle.texts.specs.Pieces.{pieces_of}
use Rattle.texts.proofs.FieldLaws.{Limited, EachLimited, fields_limited}
use Rattle.fields.specs.Field.{width_allowed, shown, field_of}
use Rattle.values.specs.Machine.{Machine}
use Rattle.values.specs.Worth.{Worth, missing, wrong, number, string}
use Rattle.values.specs.Meanings.{argument_meaning}
use Rattle.values.proofs.Ranges.{WorthWithin, MachineWithin, millionths_within, argument_within}
use Rattle.pages.specs.declared.page.Page.{Page}
use Rattle.pages.specs.Shown.{shown_value, or_stars, field_bytes}
use Rattle.pages.specs.Text.{field_values}
use Rattle.pages.specs.Page.{on}
use Rattle.pages.proofs.InRange.{number_shown}

-- a field with this value has its bytes
abbrev pub FieldShown : Field → Worth → Type 0
FieldShown f w = field_of f.width f.places (shown_value w) ≡ Some (field_bytes f.width f.places w)

bytes_are : (f : Field) (w : Worth) (s : List ℕ) → field_of f.width f.places (shown_value w) ≡ Some s → FieldShown f w
unfolding field_bytes or_stars
bytes_are f w s e = rw e

pub field_shown : (l : List ℕ) (f : Field) (w : Worth) → Limited l f → WorthWithin w → FieldShown f w
unfolding shown_value field_bytes or_stars field_of shown width_allowed
field_shown l f missing h k = rw (le-leb 1 f.width h.least, le-leb f.width 32 h.most)
field_shown l f wrong h k = rw (le-leb 1 f.width h.least, le-leb f.width 32 h.most)
field_shown l f (number q) h k = let e = number_shown l f q h (within_in decimal_limit (millionths q) (millionths_within q k)) in bytes_are f (number q) e.0 e.1
field_shown l f (string s) h k = rw (le-leb 1 f.width h.least, le-leb f.width 32 h.most)

-- so has each field of the pieces, with these values
abbrev pub AllShown : List Piece → List Worth → Type 0
AllShown [] ws = Unit {0}
AllShown (Byte b ∷ ps) ws = AllShown ps ws
AllShown (Placed f ∷ ps) [] = Unit {0}
AllShown (Placed f ∷ ps) (w ∷ ws) = FieldShown f w × AllShown ps ws

module _ (m : Machine) (h : MachineWithin m) (l : List ℕ) (line : ℕ) where
  pieces_shown : (ps : List Piece) → EachLimited l ps → Yields AnswerWithin (field_values m l line ps) (AllShown ps)
  pieces_shown [] k = tt
  pieces_shown (Byte b ∷ ps) k = pieces_shown ps k
  pieces_shown (Placed f ∷ ps) k =
      yields_bind AnswerWithin (argument_meaning m l line f.argument) (λ w. bind (field_values m l line ps) (λ ws. done (w ∷ ws))) WorthWithin (AllShown (Placed f ∷ ps)) (argument_within m line h l f.argument k.0.argument) (λ w i.
      yields_bind AnswerWithin (field_values m l line ps) (λ ws. done (w ∷ ws)) (AllShown ps) (AllShown (Placed f ∷ ps)) (pieces_shown ps k.1) (λ ws j. (field_shown l f w k.0 i, j)))

  -- Every field of a text or a heading has its bytes.
  pub text_shown : (from : ℕ) → Yields AnswerWithin (field_values m l line (pieces_of l from)) (AllShown (pieces_of l from))
  text_shown from = pieces_shown (pieces_of l from) (fields_limited l from)

-- "Heading fields are worked out at that moment": the machine on a page in range is in range.
pub on_within : (m : Machine) (p : Page) → MachineWithin m → p.number ≤ integer_limit → p.row ≤ integer_limit → MachineWithin (on m p)
on_within m p h a b = record { variables = h.variables; counter = h.counter; page = a; row = b }
