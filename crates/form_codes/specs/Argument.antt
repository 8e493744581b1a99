-- Arguments as seven numbers: what the operand is, five numbers of it, its filter.
use Rattle.std.specs.Prelude.{cond, ℕ, ℤ, pos, nat_abs}
use Rattle.std.specs.Int.Signed.{lt_z}
use Rattle.numbers.specs.declared.Quantity.{Quantity}
use Rattle.numbers.specs.declared.Quantity.TheVariants.{Integer, Decimal}
use Rattle.arguments.specs.declared.index.Index.{Index}
use Rattle.arguments.specs.declared.index.Index.TheVariants.{Fixed, Variable, Loop}
use Rattle.arguments.specs.declared.operand.Operand.{Operand}
use Rattle.arguments.specs.declared.operand.Operand.TheVariants.{NumberLiteral, StringLiteral, IntegerVariable, DecimalVariable, StringVariable, PageNumber, LineNumber, LoopCounter, RecordElement, EntryElement, Parameter, Record, Entry}
use Rattle.arguments.specs.declared.argument.Filter.{Filter}
use Rattle.arguments.specs.declared.argument.Filter.TheVariants.{Unfiltered, Absolute, Truncated, UpperCase, Length, RecordCount, EntryCount}
use Rattle.arguments.specs.declared.argument.Argument.{Argument}
use Rattle.form_codes.specs.declared.row.Pair.{Pair}
use Rattle.form_codes.specs.declared.row.Seven.{Seven}

abbrev pub index_codes : Index → Pair
index_codes (Fixed n) = (1, n)
index_codes (Variable n) = (2, n)
index_codes Loop = (3, 0)

abbrev pub filter_code : Filter → ℕ
filter_code Unfiltered = 0
filter_code Absolute = 1
filter_code Truncated = 2
filter_code UpperCase = 3
filter_code Length = 4
filter_code RecordCount = 5
filter_code EntryCount = 6

abbrev pub below_zero : ℤ → ℕ
below_zero z = cond (lt_z z (pos 0)) 1 0

-- a number by its sign and its magnitude
abbrev pub signed_codes : ℕ → ℕ → ℤ → Seven
signed_codes k f z = (k, below_zero z, nat_abs z, 0, 0, 0, f)

-- a decimal in millionths
abbrev pub literal_codes : Quantity → ℕ → Seven
literal_codes (Integer z) f = signed_codes 1 f z
literal_codes (Decimal z) f = signed_codes 2 f z

abbrev pub cell_codes : ℕ → ℕ → Pair → Pair → ℕ → Seven
cell_codes k n r e f = (k, n, r.0, r.1, e.0, e.1, f)

-- a string by its place in the line and the place behind it
unfoldable pub operand_codes : Operand → ℕ → Seven
operand_codes (NumberLiteral q) f = literal_codes q f
operand_codes (StringLiteral a e) f = (3, a, e, 0, 0, 0, f)
operand_codes (IntegerVariable n) f = (4, n, 0, 0, 0, 0, f)
operand_codes (DecimalVariable n) f = (5, n, 0, 0, 0, 0, f)
operand_codes (StringVariable n) f = (6, n, 0, 0, 0, 0, f)
operand_codes PageNumber f = (7, 0, 0, 0, 0, 0, f)
operand_codes LineNumber f = (8, 0, 0, 0, 0, 0, f)
operand_codes LoopCounter f = (9, 0, 0, 0, 0, 0, f)
operand_codes (RecordElement n) f = (10, n, 0, 0, 0, 0, f)
operand_codes (EntryElement n) f = (11, n, 0, 0, 0, 0, f)
operand_codes (Parameter n) f = (12, n, 0, 0, 0, 0, f)
operand_codes (Record n r) f = cell_codes 13 n (index_codes r) (0, 0) f
operand_codes (Entry n r e) f = cell_codes 14 n (index_codes r) (index_codes e) f

abbrev pub argument_codes : Argument → Seven
argument_codes a = operand_codes a.operand (filter_code a.filter)
