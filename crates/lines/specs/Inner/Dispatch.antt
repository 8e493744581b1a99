-- How the code finds a command: by what its word begins.
use Rattle.std.specs.Prelude.{List, [], ◌∷◌, ℕ, Option}
use Rattle.scan.specs.Ascii.{ascii}
use Rattle.scan.specs.Inner.Tables.{word_at}
use Rattle.arguments.specs.declared.argument.Argument.{Argument}
use Rattle.lines.specs.declared.command.Operation.TheVariants.{Assign, Add, Subtract, Multiply, Divide}
use Rattle.lines.specs.declared.command.Comparison.TheVariants.{SameString, SameLetters, Equal, NotEqual, Less, AtMost, Greater, AtLeast}
use Rattle.lines.specs.declared.command.Fetch.{Fetch}
use Rattle.lines.specs.declared.command.Line.{Line}
use Rattle.lines.specs.declared.command.Line.TheVariants as L
use Rattle.lines.specs.declared.word.Single.{Single}
use Rattle.lines.specs.declared.word.Single.TheVariants.{IfNot, If, BeginTable}
use Rattle.lines.specs.declared.word.Bare.{Bare}
use Rattle.lines.specs.declared.word.Bare.TheVariants.{Else, EndIf, NoFormFeed}
use Rattle.lines.specs.declared.word.Optional.{Optional}
use Rattle.lines.specs.declared.word.Optional.TheVariants.{EndTable, NewPage}
use Rattle.lines.specs.declared.word.Fetched.{Fetched}
use Rattle.lines.specs.declared.word.Fetched.TheVariants.{Records, Entries}
use Rattle.lines.specs.declared.word.Word.{Word}
use Rattle.lines.specs.declared.word.Word.TheVariants as W
use Rattle.lines.specs.Readers.Set.{set_at, datasource_at}
use Rattle.lines.specs.Readers.Compare.{compare_at}
use Rattle.lines.specs.Readers.Simple.{single_at, bare_at, optional_at}
use Rattle.lines.specs.Readers.Fetch.{fetch_at}
use Rattle.lines.specs.Readers.Title.{section_at, heading_at, remark_at}

-- the words of the commands, each with what it begins
unfoldable pub command_words : List (List ℕ × Word)
command_words =
    (ascii "SETDS", W.Datasource)
    ∷ (ascii "SETE", W.Set Assign)
    ∷ (ascii "SETA", W.Set Add)
    ∷ (ascii "SETS", W.Set Subtract)
    ∷ (ascii "SETM", W.Set Multiply)
    ∷ (ascii "SETD", W.Set Divide)
    ∷ (ascii "IFEQSS", W.Compare SameString)
    ∷ (ascii "IFEQSI", W.Compare SameLetters)
    ∷ (ascii "IFEQ", W.Compare Equal)
    ∷ (ascii "IFNE", W.Compare NotEqual)
    ∷ (ascii "IFLT", W.Compare Less)
    ∷ (ascii "IFLE", W.Compare AtMost)
    ∷ (ascii "IFGT", W.Compare Greater)
    ∷ (ascii "IFGE", W.Compare AtLeast)
    ∷ (ascii "IFNOT", W.Single IfNot)
    ∷ (ascii "IF", W.Single If)
    ∷ (ascii "BT", W.Single BeginTable)
    ∷ (ascii "ELSE", W.Bare Else)
    ∷ (ascii "ENDIF", W.Bare EndIf)
    ∷ (ascii "NOFF", W.Bare NoFormFeed)
    ∷ (ascii "ET", W.Optional EndTable)
    ∷ (ascii "NP", W.Optional NewPage)
    ∷ (ascii "REC", W.Fetched Records)
    ∷ (ascii "TBL", W.Fetched Entries)
    ∷ (ascii "SEC", W.Section)
    ∷ (ascii "PH", W.Heading)
    ∷ (ascii "REM", W.Remark)
    ∷ []

-- the first of them that stands behind the `$`, and the place behind it
unfoldable pub command_word : List ℕ → Option (Word × ℕ)
command_word l = word_at command_words l 1

unfoldable pub single_of : Single → Argument → Line
single_of IfNot a = L.IfNot a
single_of If a = L.If a
single_of BeginTable a = L.BeginTable a

unfoldable pub bare_of : Bare → Line
bare_of Else = L.Else
bare_of EndIf = L.EndIf
bare_of NoFormFeed = L.NoFormFeed

unfoldable pub optional_of : Optional → Option Argument → Line
optional_of EndTable a = L.EndTable a
optional_of NewPage a = L.NewPage a

unfoldable pub fetch_of : Fetched → Fetch → Line
fetch_of Records f = L.Records f
fetch_of Entries f = L.Entries f

unfoldable pub command_at : Word → List ℕ → ℕ → Option Line
command_at W.Datasource l at = datasource_at l at
command_at (W.Set o) l at = set_at o l at
command_at (W.Compare c) l at = compare_at c l at
command_at (W.Single k) l at = single_at (single_of k) l at
command_at (W.Bare k) l at = bare_at (bare_of k) l at
command_at (W.Optional k) l at = optional_at (optional_of k) l at
command_at (W.Fetched k) l at = fetch_at (fetch_of k) l at
command_at W.Section l at = section_at l at
command_at W.Heading l at = heading_at l at
command_at W.Remark l at = remark_at l at
