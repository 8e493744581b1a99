-- A $SET line whose variable is read alone has the form that the definition finds by any operand.
use Rattle.std.specs.Prelude.{Option, Some, None}
use Rattle.arguments.specs.declared.operand.Operand.{Operand}
use mathlib.Core.Path.{◌≡◌, refl}
use mathlib.Core.List.{List}
use Prim.Native.Nat.{ℕ}
use Rattle.arguments.specs.declared.operand.Operand.TheVariants.{NumberLiteral, StringLiteral, IntegerVariable, DecimalVariable, StringVariable, PageNumber, LineNumber, LoopCounter, RecordElement, EntryElement, Parameter, Record, Entry}
use Rattle.arguments.specs.Readers.Operand.{operand_at}
use Rattle.arguments.specs.Readers.Argument.{argument_at}
use Rattle.arguments.specs.Inner.Variable.{variable_at, variable_of}
use Rattle.arguments.proofs.VariableLaws.{variable_read}
use Rattle.lines.specs.declared.command.Operation.{Operation}
use Rattle.lines.specs.declared.command.Target.{Target}
use Rattle.lines.specs.declared.command.Line.{Line}
use Rattle.lines.specs.declared.command.Line.TheVariants.{Set}
use Rattle.lines.specs.Readers.Reading.{argument_or}
use Rattle.lines.specs.Readers.Behind.{behind_space, ending}
use Rattle.lines.specs.Readers.Set.{target_of, operand_or, target_or, set_at}

-- what a line is by the operand at its variable's place
abbrev set_of : Operation → (ℕ → Target → Option Line) → Option (Operand × ℕ) → Option Line
set_of word found r = operand_or r (λ o next. target_or (target_of o word) (found next))

-- only variables are set
only_variables : (word : Operation) (found : ℕ → Target → Option Line) (r : Option (Operand × ℕ)) → set_of word found r ≡ set_of word found (variable_of r)
unfolding target_of variable_of
only_variables word found (Some (IntegerVariable n, next)) = refl
only_variables word found (Some (DecimalVariable n, next)) = refl
only_variables word found (Some (StringVariable n, next)) = refl
only_variables word found (Some (NumberLiteral q, next)) = refl
only_variables word found (Some (StringLiteral a e, next)) = refl
only_variables word found (Some (PageNumber, next)) = refl
only_variables word found (Some (LineNumber, next)) = refl
only_variables word found (Some (LoopCounter, next)) = refl
only_variables word found (Some (RecordElement n, next)) = refl
only_variables word found (Some (EntryElement n, next)) = refl
only_variables word found (Some (Parameter n, next)) = refl
only_variables word found (Some (Record n r, next)) = refl
only_variables word found (Some (Entry n r e, next)) = refl
only_variables word found None = refl

pub set_by_variable : (word : Operation) (l : List ℕ) (at : ℕ) → set_at word l at ≡ operand_or (variable_at l (behind_space l at)) (λ o next. target_or (target_of o word) (λ t. argument_or None (argument_at l (behind_space l next)) (λ a end. ending l end (Set word t a))))
unfolding set_at
set_by_variable word l at =
    rw (← variable_read l (behind_space l at))
    (only_variables word (λ next t. argument_or None (argument_at l (behind_space l next)) (λ a end. ending l end (Set word t a))) (operand_at l (behind_space l at)))
