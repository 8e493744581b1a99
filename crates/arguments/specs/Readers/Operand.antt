-- What stands before a filter.
use Rattle.std.specs.Prelude.{cond, List, [], ◌∷◌, ℕ, ◌+◌, length, Option, Some, None}
use Rattle.numbers.specs.declared.Quantity.{Quantity}
use Rattle.scan.specs.declared.run.Class.TheVariants.{InString}
use Rattle.scan.specs.Run.{span}
use Rattle.scan.specs.Line.{byte_is, window}
use Rattle.scan.specs.Readers.Digits.{number_at}
use Rattle.scan.specs.Words.{Spelled, ◌takes◌, first_of}
use Rattle.arguments.specs.declared.index.Index.{Index}
use Rattle.arguments.specs.declared.operand.Operand.{Operand}
use Rattle.arguments.specs.declared.operand.Operand.TheVariants.{NumberLiteral, StringLiteral, IntegerVariable, DecimalVariable, StringVariable, PageNumber, LineNumber, LoopCounter, RecordElement, EntryElement, Parameter, Record, Entry}
use Rattle.arguments.specs.Readers.Literal.{literal_at}
use Rattle.arguments.specs.Readers.Index.{index_at}

-- where the string that starts at a place ends: "0–16 bytes without a quote"
abbrev pub string_end : List ℕ → ℕ → ℕ
string_end l at = at + length (span InString (window l at 16))

-- "a string in double quotes", behind the first
unfoldable pub string_at : List ℕ → ℕ → Option (Operand × ℕ)
string_at l at = cond (byte_is l (string_end l at) "\"") (Some (StringLiteral at (string_end l at), string_end l at + 1)) None

-- "a cell Pn, Pn.r or Pn.r.e, n 1–65,535", behind the P
unfoldable pub entry_of : ℕ → Index → Option (Index × ℕ) → Option (Operand × ℕ)
entry_of n r (Some (e, next)) = Some (Entry n r e, next)
entry_of n r None = None

unfoldable pub record_read_of : List ℕ → ℕ → Option (Index × ℕ) → Option (Operand × ℕ)
record_read_of l n (Some (r, next)) = cond (byte_is l next ".") (entry_of n r (index_at l (next + 1))) (Some (Record n r, next))
record_read_of l n None = None

unfoldable pub cell_of : List ℕ → Option (ℕ × ℕ) → Option (Operand × ℕ)
cell_of l (Some (n, next)) = cond (byte_is l next ".") (record_read_of l n (index_at l (next + 1))) (Some (Parameter n, next))
cell_of l None = None

unfoldable pub cell_at : List ℕ → ℕ → Option (Operand × ℕ)
cell_at l at = cell_of l (number_at l at 65535)

unfoldable pub whole_at : Operand → List ℕ → ℕ → Option (Operand × ℕ)
whole_at o l at = Some (o, at)

unfoldable pub numbered_of : (ℕ → Operand) → Option (ℕ × ℕ) → Option (Operand × ℕ)
numbered_of form (Some (n, next)) = Some (form n, next)
numbered_of form None = None

-- a name with a number from 1 to a limit
unfoldable pub numbered_at : (ℕ → Operand) → ℕ → List ℕ → ℕ → Option (Operand × ℕ)
numbered_at form limit l at = numbered_of form (number_at l at limit)

-- "IVn, FVn, SVn (n 1–99); PAGENUM; LINENUM; LOOP; Rn, Tn (n 1–10); a cell"
unfoldable pub names : List (Spelled (Option (Operand × ℕ)))
names =
    "PAGENUM" takes whole_at PageNumber
    ∷ "LINENUM" takes whole_at LineNumber
    ∷ "LOOP" takes whole_at LoopCounter
    ∷ "IV" takes numbered_at IntegerVariable 99
    ∷ "FV" takes numbered_at DecimalVariable 99
    ∷ "SV" takes numbered_at StringVariable 99
    ∷ "R" takes numbered_at RecordElement 10
    ∷ "T" takes numbered_at EntryElement 10
    ∷ "P" takes cell_at
    ∷ []

unfoldable pub named_at : List ℕ → ℕ → Option (Operand × ℕ)
named_at l at = first_of None names l at

-- a number, or what a name begins: no name begins with a digit or `-`
unfoldable pub number_or : Option (Operand × ℕ) → Option (Quantity × ℕ) → Option (Operand × ℕ)
number_or other (Some (q, next)) = Some (NumberLiteral q, next)
number_or other None = other

-- "Arguments: an integer ..; a decimal ..; a string ..; IVn, FVn, SVn ..; PAGENUM; LINENUM; LOOP; Rn, Tn ..; a cell"
unfoldable pub operand_at : List ℕ → ℕ → Option (Operand × ℕ)
operand_at l at = cond (byte_is l at "\"") (string_at l (at + 1)) (number_or (named_at l at) (literal_at l at))
