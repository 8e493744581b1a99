-- Lines as rows.
use Rattle.std.specs.Prelude.{List, ℕ, Option, Some, None}
use Rattle.arguments.specs.declared.argument.Argument.{Argument}
use Rattle.arguments.specs.declared.index.Index.{Index}
use Rattle.lines.specs.declared.command.Operation.{Operation}
use Rattle.lines.specs.declared.command.Operation.TheVariants.{Assign, Add, Subtract, Multiply, Divide}
use Rattle.lines.specs.declared.command.Comparison.{Comparison}
use Rattle.lines.specs.declared.command.Comparison.TheVariants.{SameString, SameLetters, Equal, NotEqual, Less, AtMost, Greater, AtLeast}
use Rattle.lines.specs.declared.command.Target.{Target}
use Rattle.lines.specs.declared.command.Target.TheVariants.{IntegerTarget, DecimalTarget, StringTarget}
use Rattle.lines.specs.declared.command.Fetch.{Fetch}
use Rattle.lines.specs.declared.command.Line.{Line}
use Rattle.lines.specs.declared.command.Line.TheVariants.{Text, Section, Set, IfNot, If, Compare, Else, EndIf, BeginTable, EndTable, Records, Entries, Datasource, NoFormFeed, NewPage, Heading, NoHeading, Remark}
use Rattle.lines.specs.Readers.Command.{parse_line}
use Rattle.form_codes.specs.declared.row.Pair.{Pair}
use Rattle.form_codes.specs.declared.row.Seven.{Seven}
use Rattle.form_codes.specs.declared.row.CodeRow.{CodeRow}
use Rattle.form_codes.specs.Row.{row_numbers, nothing, bare_row, row_with}
use Rattle.form_codes.specs.Argument.{index_codes, argument_codes}

-- "set, add, subtract, multiply, divide"
abbrev pub operation_code : Operation → ℕ
operation_code Assign = 1
operation_code Add = 2
operation_code Subtract = 3
operation_code Multiply = 4
operation_code Divide = 5

abbrev pub comparison_code : Comparison → ℕ
comparison_code SameString = 1
comparison_code SameLetters = 2
comparison_code Equal = 3
comparison_code NotEqual = 4
comparison_code Less = 5
comparison_code AtMost = 6
comparison_code Greater = 7
comparison_code AtLeast = 8

-- the variable as it would be an argument
abbrev pub target_codes : Target → Seven
target_codes (IntegerTarget n) = (4, n, 0, 0, 0, 0, 0)
target_codes (DecimalTarget n) = (5, n, 0, 0, 0, 0, 0)
target_codes (StringTarget n) = (6, n, 0, 0, 0, 0, 0)

abbrev pub optional_codes : Option Argument → Seven
optional_codes (Some a) = argument_codes a
optional_codes None = nothing

-- the parameter and three indexes
abbrev pub fetch_codes : ℕ → Pair → Pair → Pair → Seven
fetch_codes m r e c = (m, r.0, r.1, e.0, e.1, c.0, c.1)

abbrev pub fetch_row : ℕ → Fetch → CodeRow
fetch_row k f =
    row_with k f.number (fetch_codes f.parameter (index_codes f.«record») (index_codes f.entry) (index_codes f.count))

abbrev pub index_seven : Pair → Seven
index_seven i = (i.0, i.1, 0, 0, 0, 0, 0)

abbrev pub datasource_row : Index → CodeRow
datasource_row i = row_with 13 0 (index_seven (index_codes i))

-- a name and a text by their places in the line
unfoldable pub line_row : Line → CodeRow
line_row Text = bare_row 1 0
line_row (Section a e) = row_with 2 0 (a, e, 0, 0, 0, 0, 0)
line_row (Set o t a) = (3, operation_code o, target_codes t, argument_codes a)
line_row (IfNot a) = row_with 4 0 (argument_codes a)
line_row (If a) = row_with 5 0 (argument_codes a)
line_row (Compare c a b) = (6, comparison_code c, argument_codes a, argument_codes b)
line_row Else = bare_row 7 0
line_row EndIf = bare_row 8 0
line_row (BeginTable a) = row_with 9 0 (argument_codes a)
line_row (EndTable k) = row_with 10 0 (optional_codes k)
line_row (Records f) = fetch_row 11 f
line_row (Entries f) = fetch_row 12 f
line_row (Datasource i) = datasource_row i
line_row NoFormFeed = bare_row 14 0
line_row (NewPage n) = row_with 15 0 (optional_codes n)
line_row (Heading n at) = row_with 16 n (at, 0, 0, 0, 0, 0, 0)
line_row (NoHeading n) = bare_row 17 n
line_row Remark = bare_row 18 0

-- a line without a form has 0
abbrev pub parsed_row : Option Line → CodeRow
parsed_row (Some f) = line_row f
parsed_row None = bare_row 0 0

-- the numbers of a line's bytes
abbrev pub line_numbers : List ℕ → List ℕ
line_numbers l = row_numbers (parsed_row (parse_line l))
