-- Operands with filters.
use Rattle.std.specs.Prelude.{cond, List, [], ◌∷◌, ℕ, ◌+◌, Option, Some, None}
use Rattle.arguments.specs.declared.argument.Argument.{Argument}
use Rattle.scan.specs.Line.{byte_is}
use Rattle.scan.specs.Words.{Spelled, ◌takes◌, first_of}
use Rattle.arguments.specs.declared.operand.Operand.{Operand}
use Rattle.arguments.specs.declared.argument.Filter.{Filter}
use Rattle.arguments.specs.declared.argument.Filter.TheVariants.{Unfiltered, Absolute, Truncated, UpperCase, Length, RecordCount, EntryCount}
use Rattle.arguments.specs.Admitted.{count_of, admits}
use Rattle.arguments.specs.Readers.Operand.{operand_at}

unfoldable pub filtered_at : Operand → Filter → List ℕ → ℕ → Option (Argument × ℕ)
filtered_at o f l at = cond (admits f (count_of o)) (Some (record { operand = o; filter = f }, at)) None

unfoldable pub filters : Operand → List (Spelled (Option (Argument × ℕ)))
filters o =
    "ABS" takes filtered_at o Absolute
    ∷ "INT" takes filtered_at o Truncated
    ∷ "UPPER" takes filtered_at o UpperCase
    ∷ "LEN" takes filtered_at o Length
    ∷ "RECCNT" takes filtered_at o RecordCount
    ∷ "ENTCNT" takes filtered_at o EntryCount
    ∷ []

-- "One filter may follow"
unfoldable pub argument_of : List ℕ → Option (Operand × ℕ) → Option (Argument × ℕ)
argument_of l (Some (o, next)) =
    cond (byte_is l next "|") (first_of None (filters o) l (next + 1))
    (Some (record { operand = o; filter = Unfiltered }, next))
argument_of l None = None

unfoldable pub argument_at : List ℕ → ℕ → Option (Argument × ℕ)
argument_at l at = argument_of l (operand_at l at)
