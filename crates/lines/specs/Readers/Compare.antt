-- "`$IFEQ`, `$IFNE`, `$IFLT`, `$IFLE`, `$IFGT`, `$IFGE` (two numbers, by value); `$IFEQSS`, `$IFEQSI` (two strings ..)".
use Rattle.std.specs.Prelude.{List, ℕ, Option, None}
use Rattle.arguments.specs.Readers.Argument.{argument_at}
use Rattle.lines.specs.declared.command.Comparison.{Comparison}
use Rattle.lines.specs.declared.command.Line.{Line}
use Rattle.lines.specs.declared.command.Line.TheVariants.{Compare}
use Rattle.lines.specs.Readers.Reading.{argument_or}
use Rattle.lines.specs.Readers.Behind.{behind_space, ending}

unfoldable pub compare_at : Comparison → List ℕ → ℕ → Option Line
compare_at word l at =
    argument_or None (argument_at l (behind_space l at)) (λ a next.
    argument_or None (argument_at l (behind_space l next)) (λ b end.
    ending l end (Compare word a b)))
