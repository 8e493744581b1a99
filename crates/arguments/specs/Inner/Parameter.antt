-- Which parameter an operand asks for.
use Rattle.std.specs.Prelude.{ℕ}
use Rattle.arguments.specs.declared.operand.Operand.{Operand}
use Rattle.arguments.specs.declared.operand.Operand.TheVariants.{NumberLiteral, StringLiteral, IntegerVariable, DecimalVariable, StringVariable, PageNumber, LineNumber, LoopCounter, RecordElement, EntryElement, Parameter, Record, Entry}

-- the parameter of a cell, 1 where there is none: "n 1–65,535"
unfoldable pub parameter_of : Operand → ℕ
parameter_of (NumberLiteral q) = 1
parameter_of (StringLiteral a e) = 1
parameter_of (IntegerVariable n) = 1
parameter_of (DecimalVariable n) = 1
parameter_of (StringVariable n) = 1
parameter_of PageNumber = 1
parameter_of LineNumber = 1
parameter_of LoopCounter = 1
parameter_of (RecordElement n) = 1
parameter_of (EntryElement n) = 1
parameter_of (Parameter p) = p
parameter_of (Record p r) = p
parameter_of (Entry p r e) = p
