-- What a line is: "Commands", each by its word and what stands behind it.
use Rattle.std.specs.Prelude.{cond, List, [], ◌∷◌, ℕ, Option, Some, None}
use Rattle.scan.specs.Line.{byte_is}
use Rattle.scan.specs.Words.{Spelled, ◌takes◌, first_of}
use Rattle.texts.specs.Readers.Text.{text_fits}
use Rattle.lines.specs.declared.command.Operation.TheVariants.{Assign, Add, Subtract, Multiply, Divide}
use Rattle.lines.specs.declared.command.Comparison.TheVariants.{SameString, SameLetters, Equal, NotEqual, Less, AtMost, Greater, AtLeast}
use Rattle.lines.specs.declared.command.Line.{Line}
use Rattle.lines.specs.declared.command.Line.TheVariants.{Text, IfNot, If, Else, EndIf, BeginTable, EndTable, Records, Entries, NoFormFeed, NewPage}
use Rattle.lines.specs.Readers.Set.{set_at, datasource_at}
use Rattle.lines.specs.Readers.Compare.{compare_at}
use Rattle.lines.specs.Readers.Simple.{single_at, bare_at, optional_at}
use Rattle.lines.specs.Readers.Fetch.{fetch_at}
use Rattle.lines.specs.Readers.Title.{section_at, heading_at, remark_at}

-- each word with its form; a longer one stands before those it begins with
unfoldable pub commands : List (Spelled (Option Line))
commands =
    "SETDS" takes datasource_at
    ∷ "SETE" takes set_at Assign
    ∷ "SETA" takes set_at Add
    ∷ "SETS" takes set_at Subtract
    ∷ "SETM" takes set_at Multiply
    ∷ "SETD" takes set_at Divide
    ∷ "IFEQSS" takes compare_at SameString
    ∷ "IFEQSI" takes compare_at SameLetters
    ∷ "IFEQ" takes compare_at Equal
    ∷ "IFNE" takes compare_at NotEqual
    ∷ "IFLT" takes compare_at Less
    ∷ "IFLE" takes compare_at AtMost
    ∷ "IFGT" takes compare_at Greater
    ∷ "IFGE" takes compare_at AtLeast
    ∷ "IFNOT" takes single_at IfNot
    ∷ "IF" takes single_at If
    ∷ "BT" takes single_at BeginTable
    ∷ "ELSE" takes bare_at Else
    ∷ "ENDIF" takes bare_at EndIf
    ∷ "NOFF" takes bare_at NoFormFeed
    ∷ "ET" takes optional_at EndTable
    ∷ "NP" takes optional_at NewPage
    ∷ "REC" takes fetch_at Records
    ∷ "TBL" takes fetch_at Entries
    ∷ "SEC" takes section_at
    ∷ "PH" takes heading_at
    ∷ "REM" takes remark_at
    ∷ []

-- "A line beginning with `$` is a command: word, then arguments"; "Other lines are text, blank ones included"
unfoldable pub parse_line : List ℕ → Option Line
parse_line l = cond (byte_is l 0 "$") (first_of None commands l 1) (cond (text_fits l 0) (Some Text) None)
