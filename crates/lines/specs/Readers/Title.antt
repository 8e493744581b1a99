-- "`$SEC name`", "`$PHn text`", "`$REM`".
use Rattle.std.specs.Prelude.{cond, List, ℕ, ◌+◌, leb, eqb, length, Option, Some, None}
use Rattle.scan.specs.declared.run.Class.TheVariants.{InName}
use Rattle.scan.specs.Run.{span}
use Rattle.scan.specs.Line.{byte_is, window}
use Rattle.scan.specs.Readers.Digits.{number_at}
use Rattle.texts.specs.Readers.Text.{text_fits}
use Rattle.lines.specs.declared.command.Line.{Line}
use Rattle.lines.specs.declared.command.Line.TheVariants.{Section, Heading, NoHeading, Remark}
use Rattle.lines.specs.Readers.Reading.{numeral_or}
use Rattle.lines.specs.Readers.Behind.{behind_space, ending}

-- "1–16 of A–Z, 0–9"
abbrev pub name_length : List ℕ → ℕ → ℕ
name_length l start = length (span InName (window l start 16))

unfoldable pub name_at : List ℕ → ℕ → Option Line
name_at l start =
    cond (eqb (name_length l start) 0) None
    (ending l (start + name_length l start) (Section start (start + name_length l start)))

unfoldable pub section_at : List ℕ → ℕ → Option Line
section_at l at = name_at l (behind_space l at)

-- behind the word and its number: "no space after the word undefines it, a space alone defines a blank"
unfoldable pub heading_of : List ℕ → ℕ → ℕ → Option Line
heading_of l at n =
    cond (leb (length l) at) (Some (NoHeading n))
    (cond (byte_is l at " ") (cond (text_fits l (at + 1)) (Some (Heading n (at + 1))) None) None)

-- "`$PHn text` (n 1–9, `$PH` is `$PH1`; ..)"
unfoldable pub heading_at : List ℕ → ℕ → Option Line
heading_at l at = numeral_or (heading_of l at 1) (number_at l at 9) (λ n next. heading_of l next n)

-- "alone or with a space and any text, unread"
unfoldable pub remark_at : List ℕ → ℕ → Option Line
remark_at l at = cond (leb (length l) at) (Some Remark) (cond (byte_is l at " ") (Some Remark) None)
