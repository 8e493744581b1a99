-- Rows at the limits of arguments, each shown by the definitions.
use Rattle.std.specs.Prelude.{◌≡◌, refl, pos, negsuc, Some, None}
use Rattle.numbers.specs.declared.Quantity.TheVariants.{Integer, Decimal}
use Rattle.scan.specs.Ascii.{ascii}
use Rattle.scan.specs.Run.{belongs, span}
use Rattle.scan.specs.Line.{byte_at}
use Rattle.scan.specs.Value.{value_from}
use Rattle.scan.specs.Readers.Digits.{digits_at, number_at}
use Rattle.scan.specs.Words.{begins, stands_at, first_of}
use Rattle.arguments.specs.declared.index.Index.TheVariants.{Fixed, Loop}
use Rattle.arguments.specs.declared.operand.Operand.TheVariants.{StringLiteral, IntegerVariable, RecordElement, Parameter, Entry}
use Rattle.arguments.specs.Readers.Literal.{in_millionths, fraction_at, unsigned_at, literal_at}
use Rattle.arguments.specs.Readers.Index.{variable_index, index_at}
use Rattle.arguments.specs.Readers.Operand.{string_at, entry_of, record_read_of, cell_of, cell_at, whole_at, numbered_of, numbered_at, names, named_at, number_or, operand_at}

abbrev Rows : Type 0
Rows =
    -- ±2,000,000,000, and one more
    (literal_at (ascii "2000000000") 0 ≡ Some (Integer (pos 2000000000), 10))
    × (literal_at (ascii "-2000000000") 0 ≡ Some (Integer (negsuc 1999999999), 11))
    × (literal_at (ascii "2000000001") 0 ≡ None)
    × (literal_at (ascii "2000000000.000000") 0 ≡ Some (Decimal (pos 2000000000000000), 17))
    × (literal_at (ascii "2000000000.000001") 0 ≡ None)
    -- ten digits, and eleven: the last is left over
    × (literal_at (ascii "0000000007") 0 ≡ Some (Integer (pos 7), 10))
    × (literal_at (ascii "00000000007") 0 ≡ Some (Integer (pos 0), 10))
    × (literal_at (ascii "-0.5") 0 ≡ Some (Decimal (negsuc 499999), 4))
    -- 16 bytes, and 17
    × (operand_at (ascii "\"1234567890123456\"") 0 ≡ Some (StringLiteral 1 17, 18))
    × (operand_at (ascii "\"12345678901234567\"") 0 ≡ None)
    -- IV1–IV99, R1–R10, P1–P65535
    × (operand_at (ascii "IV0") 0 ≡ None)
    × (operand_at (ascii "IV99") 0 ≡ Some (IntegerVariable 99, 4))
    × (operand_at (ascii "IV100") 0 ≡ None)
    × (operand_at (ascii "R10") 0 ≡ Some (RecordElement 10, 3))
    × (operand_at (ascii "R11") 0 ≡ None)
    × (operand_at (ascii "P65535") 0 ≡ Some (Parameter 65535, 6))
    × (operand_at (ascii "P65536") 0 ≡ None)
    -- leading zeros in an index
    × (operand_at (ascii "P1.007.LOOP") 0 ≡ Some (Entry 1 (Fixed 7) Loop, 11))

-- The rows hold.
pub rows : Rows
unfolding belongs span byte_at value_from digits_at number_at begins stands_at first_of in_millionths fraction_at unsigned_at literal_at variable_index index_at string_at entry_of record_read_of cell_of cell_at whole_at numbered_of numbered_at names named_at number_or operand_at
rows = (refl, refl, refl, refl, refl, refl, refl, refl, refl, refl, refl, refl, refl, refl, refl, refl, refl, refl)
