-- Pieces of texts as rows, their number being the place behind them.
use Rattle.std.specs.Prelude.{List, ℕ, Option, Some, None}
use Rattle.texts.specs.declared.text.Field.{Field}
use Rattle.texts.specs.declared.text.Piece.{Piece}
use Rattle.texts.specs.declared.text.Piece.TheVariants.{Byte, Placed}
use Rattle.texts.specs.Readers.Text.{piece_at}
use Rattle.form_codes.specs.declared.row.Pair.{Pair}
use Rattle.form_codes.specs.declared.row.Seven.{Seven}
use Rattle.form_codes.specs.declared.row.CodeRow.{CodeRow}
use Rattle.form_codes.specs.Row.{row_numbers, bare_row, row_with}
use Rattle.form_codes.specs.Argument.{argument_codes}

-- whether places are said, and how many
abbrev pub places_codes : Option ℕ → Pair
places_codes None = (0, 0)
places_codes (Some d) = (1, d)

abbrev pub layout_codes : ℕ → Pair → Seven
layout_codes w d = (w, d.0, d.1, 0, 0, 0, 0)

abbrev pub field_row : Field → ℕ → CodeRow
field_row f next = (2, next, argument_codes f.argument, layout_codes f.width (places_codes f.places))

abbrev pub piece_row : Piece → ℕ → CodeRow
piece_row (Byte b) next = row_with 1 next (b, 0, 0, 0, 0, 0, 0)
piece_row (Placed f) next = field_row f next

abbrev pub read_row : Option (Piece × ℕ) → CodeRow
read_row None = bare_row 0 0
read_row (Some (p, next)) = piece_row p next

-- the numbers of the piece at a place of a line's bytes
abbrev pub piece_numbers : List ℕ → ℕ → List ℕ
piece_numbers l at = row_numbers (read_row (piece_at l at))
