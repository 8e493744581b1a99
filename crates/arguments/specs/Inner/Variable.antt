-- How the code reads the variable that a command sets: by its bytes, and no other operand.
use Rattle.std.specs.Prelude.{Bool, true, cond, List, ℕ, ◌+◌, eqb, Option, Some, None}
use Rattle.scan.specs.Line.{byte_at, byte_is}
use Rattle.arguments.specs.declared.operand.Operand.{Operand}
use Rattle.arguments.specs.declared.operand.Operand.TheVariants.{NumberLiteral, StringLiteral, IntegerVariable, DecimalVariable, StringVariable, PageNumber, LineNumber, LoopCounter, RecordElement, EntryElement, Parameter, Record, Entry}
use Rattle.arguments.specs.Readers.Operand.{numbered_at}

-- I, F or S
unfoldable pub begins_variable : ℕ → Bool
begins_variable b = cond (eqb b 73) true (cond (eqb b 70) true (eqb b 83))

-- the variable of a first letter
unfoldable pub lettered : ℕ → ℕ → Operand
lettered b n = cond (eqb b 73) (IntegerVariable n) (cond (eqb b 70) (DecimalVariable n) (StringVariable n))

-- "IVn, FVn, SVn (n 1–99)"
unfoldable pub variable_at : List ℕ → ℕ → Option (Operand × ℕ)
variable_at l at =
    cond (begins_variable (byte_at l at))
    (cond (byte_is l (at + 1) "V") (numbered_at (lettered (byte_at l at)) 99 l (at + 2)) None)
    None

-- an operand that is a variable, and none where it is another
unfoldable pub variable_of : Option (Operand × ℕ) → Option (Operand × ℕ)
variable_of (Some (IntegerVariable n, next)) = Some (IntegerVariable n, next)
variable_of (Some (DecimalVariable n, next)) = Some (DecimalVariable n, next)
variable_of (Some (StringVariable n, next)) = Some (StringVariable n, next)
variable_of (Some (NumberLiteral q, next)) = None
variable_of (Some (StringLiteral a e, next)) = None
variable_of (Some (PageNumber, next)) = None
variable_of (Some (LineNumber, next)) = None
variable_of (Some (LoopCounter, next)) = None
variable_of (Some (RecordElement n, next)) = None
variable_of (Some (EntryElement n, next)) = None
variable_of (Some (Parameter n, next)) = None
variable_of (Some (Record n r, next)) = None
variable_of (Some (Entry n r e, next)) = None
variable_of None = None
