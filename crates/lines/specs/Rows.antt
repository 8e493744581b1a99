-- Every form of a line, and lines at the limits, each shown by the definitions.
use Rattle.std.specs.Prelude.{◌≡◌, refl, List, [], ◌∷◌, map, ℕ, pos, negsuc, Some, None, Option}
use Prim.Native.String.{String}
use Rattle.numbers.specs.declared.Quantity.TheVariants.{Integer, Decimal}
use Rattle.scan.specs.Ascii.{ascii}
use Rattle.scan.specs.Run.{belongs, span}
use Rattle.scan.specs.Line.{byte_at}
use Rattle.scan.specs.Value.{value_from}
use Rattle.scan.specs.Readers.Digits.{digits_at, number_at}
use Rattle.scan.specs.Words.{begins, stands_at, first_of}
use Rattle.arguments.specs.declared.index.Index.TheVariants.{Fixed, Variable, Loop}
use Rattle.arguments.specs.declared.operand.Operand.{Operand}
use Rattle.arguments.specs.declared.operand.Operand.TheVariants.{NumberLiteral, IntegerVariable, DecimalVariable, StringVariable, PageNumber, LineNumber, LoopCounter, RecordElement, EntryElement, Parameter, Record, Entry}
use Rattle.arguments.specs.declared.operand.Operand.TheVariants as operand
use Rattle.arguments.specs.declared.argument.Argument.{Argument}
use Rattle.arguments.specs.declared.argument.Filter.{Filter}
use Rattle.arguments.specs.declared.argument.Filter.TheVariants.{Unfiltered, Absolute, Truncated, UpperCase, Length, RecordCount, EntryCount}
use Rattle.arguments.specs.Readers.Literal.{in_millionths, fraction_at, unsigned_at, literal_at}
use Rattle.arguments.specs.Readers.Index.{variable_index, index_at}
use Rattle.arguments.specs.Readers.Operand.{string_at, entry_of, record_read_of, cell_of, cell_at, whole_at, numbered_of, numbered_at, names, named_at, number_or, operand_at}
use Rattle.arguments.specs.Admitted.{count_of, admits}
use Rattle.arguments.specs.Readers.Argument.{filtered_at, filters, argument_of, argument_at}
use Rattle.texts.specs.Width.{width_of, total_width}
use Rattle.texts.specs.Readers.Text.{places_at, places_of, width_next, field_of, field_at, placed, piece_at, before, pieces_within, text_pieces, fits_behind, text_fits}
use Rattle.lines.specs.declared.command.Operation.TheVariants.{Assign, Add, Subtract, Multiply, Divide}
use Rattle.lines.specs.declared.command.Target.TheVariants.{IntegerTarget, DecimalTarget, StringTarget}
use Rattle.lines.specs.declared.command.Comparison.TheVariants.{SameString, SameLetters, Equal, NotEqual, Less, AtMost, Greater, AtLeast}
use Rattle.lines.specs.declared.command.Line.{Line}
use Rattle.lines.specs.declared.command.Line.TheVariants.{Text, Section, Set, IfNot, If, Compare, Else, EndIf, BeginTable, EndTable, Records, Entries, Datasource, NoFormFeed, NewPage, Heading, NoHeading, Remark}
use Rattle.lines.specs.Readers.Behind.{behind_space}
use Rattle.lines.specs.Readers.Set.{string_target, target_of, set_at, datasource_at}
use Rattle.lines.specs.Readers.Compare.{compare_at}
use Rattle.lines.specs.Readers.Simple.{single_at, bare_at, optional_at}
use Rattle.lines.specs.Readers.Fetch.{parameter_at, fetched_at, fetch_at}
use Rattle.lines.specs.Readers.Title.{name_at, section_at, heading_of, heading_at, remark_at}
use Rattle.lines.specs.Readers.Command.{commands, parse_line}

-- what a line is, and what is expected
pub record Row : Type 0 where
  pub computed : Option Line
  pub expected : Option Line

infix 70 ◌is◌
abbrev ◌is◌ : String → Line → Row
l is e = record { computed = parse_line (ascii l); expected = Some e }

-- what has no form
abbrev formless : String → Row
formless l = record { computed = parse_line (ascii l); expected = None }

abbrev plain : Operand → Argument
plain o = record { operand = o; filter = Unfiltered }

infix 80 ◌by◌
abbrev ◌by◌ : Operand → Filter → Argument
o by f = record { operand = o; filter = f }

abbrev int : ℕ → Argument
int n = plain (NumberLiteral (Integer (pos n)))

unfoldable pub rows : List Row
rows =
    -- every form
    "" is Text
    ∷ "count {IV1,6}" is Text
    ∷ "$SEC A" is Section 5 6
    ∷ "$SETE IV1 5" is Set Assign (IntegerTarget 1) (int 5)
    ∷ "$SETA FV99 -0.5" is Set Add (DecimalTarget 99) (plain (NumberLiteral (Decimal (negsuc 499999))))
    ∷ "$SETS IV2 P7|RECCNT" is Set Subtract (IntegerTarget 2) (Parameter 7 by RecordCount)
    ∷ "$SETM IV2 P7.1|ENTCNT" is Set Multiply (IntegerTarget 2) (Record 7 (Fixed 1) by EntryCount)
    ∷ "$SETD FV3 R10|ABS" is Set Divide (DecimalTarget 3) (RecordElement 10 by Absolute)
    ∷ "$SETE SV1 \"ab\"|UPPER" is Set Assign (StringTarget 1) (operand.StringLiteral 11 13 by UpperCase)
    ∷ "$IF IV1" is If (plain (IntegerVariable 1))
    ∷ "$IFNOT FV1|INT" is IfNot (DecimalVariable 1 by Truncated)
    ∷ "$IFEQ LOOP 1" is Compare Equal (plain LoopCounter) (int 1)
    ∷ "$IFNE PAGENUM 1" is Compare NotEqual (plain PageNumber) (int 1)
    ∷ "$IFLT LINENUM 9" is Compare Less (plain LineNumber) (int 9)
    ∷ "$IFLE T1 9" is Compare AtMost (plain (EntryElement 1)) (int 9)
    ∷ "$IFGT SV1|LEN 9" is Compare Greater (StringVariable 1 by Length) (int 9)
    ∷ "$IFGE 1 1" is Compare AtLeast (int 1) (int 1)
    ∷ "$IFEQSS SV1 \"\"" is Compare SameString (plain (StringVariable 1)) (plain (operand.StringLiteral 13 13))
    ∷ "$IFEQSI P1 P1.2.LOOP" is Compare SameLetters (plain (Parameter 1)) (plain (Entry 1 (Fixed 2) Loop))
    ∷ "$ELSE" is Else
    ∷ "$ENDIF" is EndIf
    ∷ "$BT 5" is BeginTable (int 5)
    ∷ "$ET" is EndTable None
    ∷ "$ET 2" is EndTable (Some (int 2))
    ∷ "$REC 10 P65535 0 IV1 064" is Records (record { number = 10; parameter = 65535; «record» = Fixed 0; entry = Variable 1; count = Fixed 64 })
    ∷ "$TBL 1 P1 LOOP 999 1" is Entries (record { number = 1; parameter = 1; «record» = Loop; entry = Fixed 999; count = Fixed 1 })
    ∷ "$SETDS 35" is Datasource (Fixed 35)
    ∷ "$NOFF" is NoFormFeed
    ∷ "$NP" is NewPage None
    ∷ "$NP 3" is NewPage (Some (int 3))
    ∷ "$PH page {PAGENUM,3}" is Heading 1 4
    ∷ "$PH9 x" is Heading 9 5
    ∷ "$REM" is Remark
    ∷ "$REM any } text" is Remark
    -- "no space after the word undefines it, a space alone defines a blank"; two spaces define a heading of one
    ∷ "$PH" is NoHeading 1
    ∷ "$PH2" is NoHeading 2
    ∷ "$PH2 " is Heading 2 5
    ∷ "$PH2  " is Heading 2 5
    -- "1–16 of A–Z, 0–9"
    ∷ "$SEC ABCDEFGHIJKLM012" is Section 5 21
    ∷ formless "$SEC ABCDEFGHIJKLM0123"
    ∷ formless "$SEC "
    ∷ formless "$SEC a"
    -- "at most 132 bytes" with fields at their widths, and one more
    ∷ "{1,32}{1,32}{1,32}{1,32}abcd" is Text
    ∷ formless "{1,32}{1,32}{1,32}{1,32}abcde"
    ∷ "$PH1 {1,32}{1,32}{1,32}{1,31}" is Heading 1 5
    ∷ formless "$PH1 {1,32}{1,32}{1,32}{1,32}"
    -- "other braces in text and headings .. are refused"
    ∷ formless "{1,33}"
    ∷ formless "a}"
    ∷ formless "$PH {"
    -- "word, then arguments, one space before each", and nothing behind the last
    ∷ formless "$SETE  IV1 5"
    ∷ formless "$SETE IV1 5 "
    ∷ formless "$SETE IV1"
    ∷ formless "$ET "
    ∷ formless "$ELSE x"
    ∷ formless "$REMark"
    ∷ formless "$"
    ∷ " $ELSE" is Text
    -- numbers and strings out of their limits, and leading zeros
    ∷ formless "$SETE IV0 1"
    ∷ formless "$SETE IV01 1"
    ∷ formless "$SETE FV100 1"
    ∷ formless "$IF R11"
    ∷ formless "$IF P65536"
    ∷ formless "$IF P1.1000"
    ∷ formless "$IF 2000000001"
    ∷ formless "$REC 11 P1 0 0 1"
    ∷ formless "$SETDS 1234"
    ∷ formless "$IF 00000000001"
    ∷ formless "$IF 0.1234567"
    ∷ formless "$IF 1."
    ∷ formless "$IF \"12345678901234567\""
    ∷ formless "$PH0"
    ∷ formless "$PH10"
    -- "SV takes a string; after another word than $SETE it is 3"
    ∷ formless "$SETA SV1 \"a\""
    -- what takes no filter, and counts elsewhere
    ∷ formless "$SETE IV1|ABS 1"
    ∷ formless "$REC 1 P1|ABS 0 0 1"
    ∷ formless "$SETDS IV1|ABS"
    ∷ formless "$IF P1.0|RECCNT"
    ∷ formless "$IF P1|ENTCNT"
    ∷ formless "$IF P1.1.1|ENTCNT"
    ∷ []

pub rows_hold : map (λ (r : Row). r.computed) rows ≡ map (λ (r : Row). r.expected) rows
unfolding rows belongs span byte_at value_from digits_at number_at begins stands_at first_of in_millionths fraction_at unsigned_at literal_at variable_index index_at string_at entry_of record_read_of cell_of cell_at whole_at numbered_of numbered_at names named_at number_or operand_at count_of admits filtered_at filters argument_of argument_at places_at places_of width_next field_of field_at placed piece_at width_of total_width before pieces_within text_pieces fits_behind text_fits behind_space string_target target_of set_at datasource_at compare_at single_at bare_at optional_at parameter_at fetched_at fetch_at name_at section_at heading_of heading_at remark_at commands parse_line
rows_hold = refl
