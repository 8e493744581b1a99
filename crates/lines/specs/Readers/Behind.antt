-- "word, then arguments, one space before each", and nothing behind the last.
use Rattle.std.specs.Prelude.{cond, List, ℕ, ◌+◌, ltb, length, Option, Some, None}
use Rattle.scan.specs.Line.{byte_is}
use Rattle.lines.specs.declared.command.Line.{Line}

-- where an argument starts: behind a space; where there is none, the line's end, at which no argument starts (proofs/EndLaws)
unfoldable pub behind_space : List ℕ → ℕ → ℕ
behind_space l at = cond (byte_is l at " ") (at + 1) (length l)

-- nothing stands behind the last
abbrev pub ending : List ℕ → ℕ → Line → Option Line
ending l at form = cond (ltb at (length l)) None (Some form)
