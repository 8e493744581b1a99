-- Commands of one argument, of none, and of one that may be absent.
use Rattle.std.specs.Prelude.{cond, List, ℕ, leb, length, Option, Some, None}
use Rattle.arguments.specs.declared.argument.Argument.{Argument}
use Rattle.arguments.specs.Readers.Argument.{argument_at}
use Rattle.lines.specs.declared.command.Line.{Line}
use Rattle.lines.specs.Readers.Reading.{argument_or}
use Rattle.lines.specs.Readers.Behind.{behind_space, ending}

-- "`$IF`, `$IFNOT` (one number, non-zero or zero)"; "`$BT n`"
unfoldable pub single_at : (Argument → Line) → List ℕ → ℕ → Option Line
single_at form l at = argument_or None (argument_at l (behind_space l at)) (λ a end. ending l end (form a))

-- "`$ELSE`", "`$ENDIF`", "`$NOFF`"
unfoldable pub bare_at : Line → List ℕ → ℕ → Option Line
bare_at form l at = ending l at form

-- "`$ET [k]`", "`$NP [n]`"
unfoldable pub optional_at : (Option Argument → Line) → List ℕ → ℕ → Option Line
optional_at form l at =
    cond (leb (length l) at) (Some (form None))
    (argument_or None (argument_at l (behind_space l at)) (λ a end. ending l end (form (Some a))))
