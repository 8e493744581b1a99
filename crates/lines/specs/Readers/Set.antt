-- "`$SETE`, `$SETA`, `$SETS`, `$SETM`, `$SETD` variable argument", and "`$SETDS n`".
use Rattle.std.specs.Prelude.{List, ℕ, Option, Some, None}
use Rattle.arguments.specs.declared.operand.Operand.{Operand}
use Rattle.arguments.specs.declared.operand.Operand.TheVariants.{NumberLiteral, StringLiteral, IntegerVariable, DecimalVariable, StringVariable, PageNumber, LineNumber, LoopCounter, RecordElement, EntryElement, Parameter, Record, Entry}
use Rattle.arguments.specs.Readers.Index.{index_at}
use Rattle.arguments.specs.Readers.Operand.{operand_at}
use Rattle.arguments.specs.Readers.Argument.{argument_at}
use Rattle.lines.specs.declared.command.Operation.{Operation}
use Rattle.lines.specs.declared.command.Operation.TheVariants.{Assign, Add, Subtract, Multiply, Divide}
use Rattle.lines.specs.declared.command.Target.{Target}
use Rattle.lines.specs.declared.command.Target.TheVariants.{IntegerTarget, DecimalTarget, StringTarget}
use Rattle.lines.specs.declared.command.Line.{Line}
use Rattle.lines.specs.declared.command.Line.TheVariants.{Set, Datasource}
use Rattle.lines.specs.Readers.Reading.{argument_or, index_or}
use Rattle.lines.specs.Readers.Behind.{behind_space, ending}

-- "SV takes a string; after another word than $SETE it is 3"
unfoldable pub string_target : ℕ → Operation → Option Target
string_target n Assign = Some (StringTarget n)
string_target n Add = None
string_target n Subtract = None
string_target n Multiply = None
string_target n Divide = None

-- "variable": IVn, FVn, SVn
unfoldable pub target_of : Operand → Operation → Option Target
target_of (IntegerVariable n) word = Some (IntegerTarget n)
target_of (DecimalVariable n) word = Some (DecimalTarget n)
target_of (StringVariable n) word = string_target n word
target_of (NumberLiteral q) word = None
target_of (StringLiteral a e) word = None
target_of PageNumber word = None
target_of LineNumber word = None
target_of LoopCounter word = None
target_of (RecordElement n) word = None
target_of (EntryElement n) word = None
target_of (Parameter n) word = None
target_of (Record n r) word = None
target_of (Entry n r e) word = None

abbrev pub operand_or : Option (Operand × ℕ) → (Operand → ℕ → Option Line) → Option Line
operand_or (Some (o, next)) found = found o next
operand_or None found = None

abbrev pub target_or : Option Target → (Target → Option Line) → Option Line
target_or (Some t) found = found t
target_or None found = None

-- "variable argument"
unfoldable pub set_at : Operation → List ℕ → ℕ → Option Line
set_at word l at =
    operand_or (operand_at l (behind_space l at)) (λ o next.
    target_or (target_of o word) (λ t.
    argument_or None (argument_at l (behind_space l next)) (λ a end.
    ending l end (Set word t a))))

-- "$SETDS's number", an index
unfoldable pub datasource_at : List ℕ → ℕ → Option Line
datasource_at l at = index_or None (index_at l (behind_space l at)) (λ i end. ending l end (Datasource i))
