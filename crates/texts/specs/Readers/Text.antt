-- The fields of texts and headings.
use Rattle.std.specs.Prelude.{Bool, false, cond, List, [], ◌∷◌, ℕ, zero, suc, ◌+◌, ltb, leb, eqb, length, Some, None, Option}
use Rattle.texts.specs.declared.text.Field.{Field}
use Rattle.scan.specs.Line.{byte_at, byte_is}
use Rattle.scan.specs.Readers.Digits.{digits_at, number_at}
use Rattle.arguments.specs.declared.argument.Argument.{Argument}
use Rattle.arguments.specs.Readers.Argument.{argument_at}
use Rattle.texts.specs.Width.{total_width}
use Rattle.texts.specs.declared.text.Piece.{Piece}
use Rattle.texts.specs.declared.text.Piece.TheVariants.{Byte, Placed}

-- `}`, or `.d}` with "d 0–6"
unfoldable pub places_at : List ℕ → ℕ → Option (Option ℕ × ℕ)
places_at l at =
    cond (byte_is l at "}") (Some (None, at + 1))
    (cond (byte_is l at ".")
    (cond (eqb (digits_at l (at + 1) 1).count 0) None
    (cond (ltb 6 (digits_at l (at + 1) 1).value) None
    (cond (byte_is l (at + 2) "}") (Some (Some (digits_at l (at + 1) 1).value, at + 3)) None)))
    None)

unfoldable pub places_of : Argument → ℕ → Option (Option ℕ × ℕ) → Option (Field × ℕ)
places_of a w (Some (p, next)) = Some (record { argument = a; width = w; places = p }, next)
places_of a w None = None

-- "w 1–32"
unfoldable pub width_next : List ℕ → Argument → Option (ℕ × ℕ) → Option (Field × ℕ)
width_next l a (Some (w, next)) = places_of a w (places_at l next)
width_next l a None = None

unfoldable pub field_of : List ℕ → Option (Argument × ℕ) → Option (Field × ℕ)
field_of l (Some (a, next)) = cond (byte_is l next ",") (width_next l a (number_at l (next + 1) 32)) None
field_of l None = None

-- "A field is `{argument,w}` or `{argument,w.d}`", behind its opening brace
unfoldable pub field_at : List ℕ → ℕ → Option (Field × ℕ)
field_at l at = field_of l (argument_at l at)

unfoldable pub placed : Option (Field × ℕ) → Option (Piece × ℕ)
placed (Some (f, next)) = Some (Placed f, next)
placed None = None

-- a byte, or a field: "other braces in text and headings, outside a field's string, are refused"
unfoldable pub piece_at : List ℕ → ℕ → Option (Piece × ℕ)
piece_at l at =
    cond (leb (length l) at) None
    (cond (byte_is l at "{") (placed (field_at l (at + 1)))
    (cond (byte_is l at "}") None
    (Some (Byte (byte_at l at), at + 1))))

unfoldable pub before : Piece → Option (List Piece) → Option (List Piece)
before p (Some ps) = Some (p ∷ ps)
before p None = None

-- at most n pieces of a line from a place on, or none where something is neither a byte nor a field
unfoldable pub pieces_within : ℕ → List ℕ → ℕ → Option (List Piece)
pieces_within zero l at = Some []
pieces_within (suc n) l at =
    cond (leb (length l) at) (Some [])
    (elim (piece_at l at) [
      | Some (p, next) ↦ before p (pieces_within n l next)
      | None ↦ None
    ])

-- a text has no more pieces than its line has bytes
unfoldable pub text_pieces : List ℕ → ℕ → Option (List Piece)
text_pieces l from = pieces_within (length l) l from

-- behind `width` bytes: "at most 132 bytes"
unfoldable pub fits_behind : ℕ → Option (List Piece) → Bool
fits_behind width (Some ps) = leb (width + total_width ps) 132
fits_behind width None = false

-- "With fields at width w a line, command word included, has at most 132 bytes": the text starts at `from`
unfoldable pub text_fits : List ℕ → ℕ → Bool
text_fits l from = fits_behind from (text_pieces l from)
