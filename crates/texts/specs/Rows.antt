-- Rows at the limits of fields and texts, each shown by the definitions.
use Rattle.std.specs.Prelude.{◌≡◌, refl, true, false, pos, Some, None}
use Rattle.numbers.specs.declared.Quantity.TheVariants.{Integer}
use Rattle.scan.specs.Ascii.{ascii}
use Rattle.scan.specs.Run.{belongs, span}
use Rattle.scan.specs.Line.{byte_at}
use Rattle.scan.specs.Value.{value_from}
use Rattle.scan.specs.Readers.Digits.{digits_at, number_at}
use Rattle.arguments.specs.declared.operand.Operand.TheVariants as operand
use Rattle.arguments.specs.declared.argument.Argument.{Argument}
use Rattle.arguments.specs.declared.argument.Filter.TheVariants.{Unfiltered}
use Rattle.arguments.specs.Readers.Literal.{unsigned_at, literal_at}
use Rattle.arguments.specs.Readers.Operand.{string_at, number_or, operand_at}
use Rattle.arguments.specs.Readers.Argument.{argument_of, argument_at}
use Rattle.texts.specs.declared.text.Piece.TheVariants.{Placed}
use Rattle.texts.specs.Width.{width_of, total_width}
use Rattle.texts.specs.Readers.Text.{places_at, places_of, width_next, field_of, field_at, placed, piece_at, before, pieces_within, text_pieces, fits_behind, text_fits}

-- the integer 1
abbrev one : Argument
one = record { operand = operand.NumberLiteral (Integer (pos 1)); filter = Unfiltered }

abbrev Rows : Type 0
Rows =
    -- w 1–32
    (field_at (ascii "1,0}") 0 ≡ None)
    × (field_at (ascii "1,1}") 0 ≡ Some (record { argument = one; width = 1; places = None }, 4))
    × (field_at (ascii "1,32}") 0 ≡ Some (record { argument = one; width = 32; places = None }, 5))
    × (field_at (ascii "1,33}") 0 ≡ None)
    × (field_at (ascii "1,01}") 0 ≡ None)
    -- d 0–6
    × (field_at (ascii "1,9.6}") 0 ≡ Some (record { argument = one; width = 9; places = Some 6 }, 6))
    × (field_at (ascii "1,9.7}") 0 ≡ None)
    -- a field ends where its form ends, whatever its string holds
    × (piece_at (ascii "{\"}{\",2}") 0 ≡ Some (Placed (record { argument = record { operand = operand.StringLiteral 2 4; filter = Unfiltered }; width = 2; places = None }), 8))
    -- a closing brace in plain text
    × (text_fits (ascii "a}") 0 ≡ false)
    -- four fields of 32 with 4 and with 5 bytes more
    × (text_fits (ascii "{1,32}{1,32}{1,32}{1,32}abcd") 0 ≡ true)
    × (text_fits (ascii "{1,32}{1,32}{1,32}{1,32}abcde") 0 ≡ false)

-- The rows hold.
pub rows : Rows
unfolding belongs span byte_at value_from digits_at number_at unsigned_at literal_at string_at number_or operand_at argument_of argument_at places_at places_of width_next field_of field_at placed piece_at width_of total_width before pieces_within text_pieces fits_behind text_fits
rows = (refl, refl, refl, refl, refl, refl, refl, refl, refl, refl, refl)
