-- How the code reads a line that check 3 has passed: as parse_line does, by a law (proofs/KnownLaws), but no text is judged again.
use Rattle.std.specs.Prelude.{cond, List, ℕ, ◌+◌, leb, length, Option, Some, None}
use Rattle.scan.specs.Line.{byte_is}
use Rattle.scan.specs.Readers.Digits.{number_at}
use Rattle.scan.specs.Words.{first_of}
use Rattle.lines.specs.declared.command.Line.{Line}
use Rattle.lines.specs.declared.command.Line.TheVariants.{Text, Heading, NoHeading}
use Rattle.lines.specs.Readers.Reading.{numeral_or}
use Rattle.lines.specs.Readers.Command.{commands}

unfoldable pub known_of : List ℕ → ℕ → ℕ → Line
known_of l at n = cond (leb (length l) at) (NoHeading n) (Heading n (at + 1))

unfoldable pub known_heading : List ℕ → ℕ → Line
known_heading l at = numeral_or (known_of l at 1) (number_at l at 9) (λ n next. known_of l next n)

-- only $PH begins with P
unfoldable pub form_of : List ℕ → Option Line
form_of l = cond (byte_is l 0 "$") (cond (byte_is l 1 "P") (Some (known_heading l 3)) (first_of None commands l 1)) (Some Text)
