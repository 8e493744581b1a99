-- The rows of document 01 that are marked *, and its sample sheet: each is the report of a whole template on an empty store, and
-- antt computes it.
use Rattle.std.specs.Prelude.{◌≡◌, refl, List, [], ◌∷◌, ◌++◌, map, ℕ, length, replicate}
use Prim.Native.String.{String}
use Rattle.scan.specs.Ascii.{ascii}
use Rattle.scan.specs.Run.{belongs, span}
use Rattle.scan.specs.Line.{byte_at, all_allowed}
use Rattle.scan.specs.Words.{begins as scanBegins, stands_at, first_of as scanFirstOf}
use Rattle.scan.specs.Value.{value_from}
use Rattle.scan.specs.Readers.Digits.{digits_at, number_at}
use Rattle.numbers.specs.Range.{within}
use Rattle.numbers.specs.Arithmetic.{checked, absolute_of, in_millionths as numbersInMillionths, operands, decimal_product, divided_by, decimal_quotient, integer_product, integer_quotient}
use Rattle.numbers.specs.Rounding.{rounded}
use Rattle.numbers.specs.Places.{rounded_to}
use Rattle.numbers.specs.Sign.{opposed}
use Rattle.fields.specs.Field.{left_in, negative, places_of as fieldsPlacesOf, minus, right_in, fraction, unsigned as fieldsUnsigned, rounded_field, shown, width_allowed, field_of as fieldsFieldOf}
use Rattle.fields.specs.Digits.{count_within, digit_count, digits}
use Rattle.arguments.specs.Admitted.{admits}
use Rattle.arguments.specs.Readers.Argument.{filtered_at, filters, argument_of, argument_at}
use Rattle.arguments.specs.Readers.Literal.{in_millionths as argumentsInMillionths, fraction_at, unsigned_at, literal_at}
use Rattle.arguments.specs.Readers.Operand.{numbered_of, numbered_at, whole_at, names, named_at, number_or, string_at, operand_at}
use Rattle.texts.specs.Width.{width_of, total_width}
use Rattle.texts.specs.Readers.Text.{before as textsBefore, places_at, places_of as textsPlacesOf, width_next, field_of as textsFieldOf, field_at, placed, piece_at, pieces_within, text_pieces, fits_behind, text_fits}
use Rattle.lines.specs.Readers.Simple.{bare_at, optional_at, single_at}
use Rattle.lines.specs.Readers.Behind.{behind_space}
use Rattle.lines.specs.Readers.Compare.{compare_at}
use Rattle.lines.specs.Readers.Set.{string_target, target_of, set_at}
use Rattle.lines.specs.Readers.Title.{name_at, section_at}
use Rattle.lines.specs.Readers.Command.{commands, parse_line}
use Rattle.nesting.specs.Nest.{all_closed, in_section, section_begun, table_ended, tables_open, test_ended, test_turned, tests_open, behind}
use Rattle.template.specs.Name.{name_of}
use Rattle.cells.specs.Store.{above, rising, ordered, with_first as cellsBefore, cell_run, cells, cells_held, holds_cells}
use Rattle.meaning.specs.Event.{breaks, joined}
use Rattle.meaning.specs.Tree.{run as meaningRun}
use Rattle.template.specs.Seek.{cut_to, or_skip, way_past, among_tables, among_tests, at_else, role_of, skip_from, skipped}
use Rattle.template.specs.Lines.{lines_within, lines_of}
use Rattle.template.specs.Shape.{shape_words, word_shape, has_form, shape_in, shape_of, is_formed}
use Rattle.template.specs.Verdicts.{first_fault, line_allowed, bytes_check}
use Rattle.template.specs.Checks.{form_check, name_end, has_name, came_before, name_step, name_check, nest_end, nest_step, nest_check}
use Rattle.template.specs.Walk.{or_else, walk}
use Rattle.template.specs.Order.{accepted_run, section_checked, unless_fault, names_checked, nesting_checked, forms_checked, template_checked}
use Rattle.template.specs.Sections.{end_at, selects, section_from, section_end, selection_from, selected}
use Rattle.template.specs.Rows.{lines_joined}
use Rattle.values.specs.Letters.{upper, alike}
use Rattle.values.specs.Machine.{numbered, set_numbered}
use Rattle.values.specs.Worth.{ranged, absolute, filtered_number, filtered_string, filtered, question_kind}
use Rattle.values.specs.Meanings.{operand_meaning, argument_meaning}
use Rattle.commands.specs.Looping.{begun, begin_meaning, exceeds, counting, counted, end_meaning, loop}
use Rattle.commands.specs.Settling.{integer_from, integer_meaning, result_of, millionths_of, quantity_from, decimal_from, string_from}
use Rattle.commands.specs.Setting.{decimal_result, new_from, integer_result, as_variable, string_new, set_of, set_meaning}
use Rattle.commands.specs.Testing.{is_missing, of_numbers, of_strings, compared, test_meaning, zero_test, zero_judged, zero_meaning, judged}
use Rattle.texts.specs.Pieces.{or_no_pieces, pieces_of}
use Rattle.pages.specs.Text.{text_meaning}
use Rattle.pages.specs.Shown.{or_stars, shown_value, field_bytes}
use Rattle.pages.specs.Page.{say_meaning, highest_defined, top_meaning, break_meaning, turn_meaning, line_step}
use Rattle.control.specs.Line.{breaking, breaking_for, new_page_meaning, table_begun, table_counted, branched, form_meaning, line_meaning}
use Rattle.report.specs.Report.{run_from, checked_outcome, report_of, Outcome, text_in, report_in}
use Rattle.report.specs.declared.Report.{Report}

-- what a report hands back, and its text
pub record Printout : Type 0 where
  pub report : Report
  pub text : List ℕ

-- section A with these lines, the text buffer and the read list of program `sheet`
abbrev reported : List String → Printout
reported ls = let o : Outcome = report_of (lines_joined ("$SEC A" ∷ ls)) (ascii "A") [] 0 4096 65536 in record { report = report_in o; text = text_in o }

-- lines, and what is expected of them
pub record Row : Type 0 where
  pub computed : Printout
  pub expected : Printout

-- success, with so many pages and this text
abbrev prints : List String → ℕ → List ℕ → Row
prints ls pages text = record { computed = reported ls; expected = record { report = record { number = 0; line = 0; pages = pages; bytes = length text; questions = 0 }; text = text } }

-- nothing is printed: a number and a line
abbrev refuses : List String → ℕ → ℕ → Row
refuses ls number line = record { computed = reported ls; expected = record { report = record { number = number; line = line; pages = 1; bytes = 0; questions = 0 }; text = [] } }

abbrev shows : List String → List String → Row
shows ls text = prints ls 1 (lines_joined text)

abbrev form_feed : List ℕ
form_feed = 12 ∷ []

unfoldable pub rows : List Row
rows =
    -- * "0.000001 × 0.5 = 0.000001"
    shows ("$SETE FV1 0.000001" ∷ "$SETM FV1 0.5" ∷ "{FV1,8}" ∷ []) ("0.000001" ∷ [])
    -- * "−1 ÷ 3 in FV = −0.333333"
    ∷ shows ("$SETE FV1 -1" ∷ "$SETD FV1 3" ∷ "{FV1,9}" ∷ []) ("-0.333333" ∷ [])
    -- * "IV −7 ÷ 2 = −3"
    ∷ shows ("$SETE IV1 -7" ∷ "$SETD IV1 2" ∷ "{IV1,2}" ∷ []) ("-3" ∷ [])
    -- * "2,000,000,000 × 2: 13"
    ∷ refuses ("$SETE IV1 2000000000" ∷ "$SETM IV1 2" ∷ "{IV1,10}" ∷ []) 13 3
    ∷ refuses ("$SETE FV1 2000000000" ∷ "$SETM FV1 2" ∷ "{FV1,18}" ∷ []) 13 3
    -- * "−0.4 in 3.0 is `  0`; 0.5 is `  1`"
    ∷ shows ("{-0.4,3.0}" ∷ "{0.5,3.0}" ∷ []) ("  0" ∷ "  1" ∷ [])
    -- * "1234 in width 3 is `***`"
    ∷ shows ("{1234,3}" ∷ []) ("***" ∷ [])
    -- * "" equals "Cs"
    ∷ shows ("$IFEQSS \"\" \"Cs\"" ∷ "equal" ∷ "$ELSE" ∷ "unequal" ∷ "$ENDIF" ∷ []) ("equal" ∷ [])
    -- * "cs-137", "CS" equal under SI, not SS
    ∷ shows ("$IFEQSI \"cs-137\" \"CS\"" ∷ "equal" ∷ "$ELSE" ∷ "unequal" ∷ "$ENDIF" ∷ []) ("equal" ∷ [])
    ∷ shows ("$IFEQSS \"cs-137\" \"CS\"" ∷ "equal" ∷ "$ELSE" ∷ "unequal" ∷ "$ENDIF" ∷ []) ("unequal" ∷ [])
    -- * "$BT 5, $ET 2: three passes"
    ∷ shows ("$BT 5" ∷ "pass {LOOP,1}" ∷ "$ET 2" ∷ "end" ∷ []) ("pass 1" ∷ "pass 3" ∷ "pass 5" ∷ "end" ∷ [])
    -- * "$BT 0: none"
    ∷ shows ("$BT 0" ∷ "pass {LOOP,1}" ∷ "$ET" ∷ "end" ∷ []) ("end" ∷ [])
    -- * "LINENUM 59: `$NP 2` stays, `$NP 3` breaks"
    ∷ shows (replicate 58 "x" ++ ("$NP 2" ∷ "{LINENUM,2}" ∷ [])) (replicate 58 "x" ++ ("59" ∷ []))
    ∷ prints (replicate 58 "x" ++ ("$NP 3" ∷ "{LINENUM,2}" ∷ [])) 2 (lines_joined (replicate 58 "x") ++ form_feed ++ lines_joined (" 1" ∷ []))
    -- * "60 lines without heading: one page; 61: two"
    ∷ shows (replicate 60 "x") (replicate 60 "x")
    ∷ prints (replicate 61 "x") 2 (lines_joined (replicate 60 "x") ++ form_feed ++ lines_joined ("x" ∷ []))
    -- the sample, which prints `r=  0.67`, and ends with `0 0 1 9 0`
    ∷ shows ("$SETE FV1 2" ∷ "$SETD FV1 3" ∷ "$IF IV1" ∷ "X" ∷ "$ELSE" ∷ "r={FV1,6.2}" ∷ "$ENDIF" ∷ []) ("r=  0.67" ∷ [])
    ∷ []

pub rows_hold : map (λ (r : Row). r.computed) rows ≡ map (λ (r : Row). r.expected) rows
unfolding rows above rising ordered cellsBefore cell_run cells cells_held within breaks meaningRun begun begin_meaning exceeds counting counted end_meaning loop checked absolute_of numbersInMillionths operands decimal_product divided_by decimal_quotient integer_product integer_quotient ranged absolute filtered_number filtered_string filtered question_kind upper alike operand_meaning argument_meaning numbered integer_from integer_meaning result_of millionths_of quantity_from decimal_from string_from set_numbered decimal_result new_from integer_result as_variable string_new set_of set_meaning cut_to or_skip way_past among_tables among_tests at_else role_of skip_from skipped belongs span lines_within lines_of byte_at all_allowed scanBegins stands_at scanFirstOf shape_words word_shape has_form shape_in shape_of is_formed or_no_pieces pieces_of text_meaning textsBefore places_at textsPlacesOf width_next textsFieldOf field_at placed piece_at pieces_within text_pieces width_of total_width fits_behind text_fits admits filtered_at filters argument_of argument_at value_from digits_at number_at argumentsInMillionths fraction_at unsigned_at literal_at numbered_of numbered_at whole_at names named_at number_or string_at operand_at left_in negative fieldsPlacesOf minus right_in fraction fieldsUnsigned rounded_field shown width_allowed fieldsFieldOf count_within digit_count digits rounded rounded_to or_stars shown_value field_bytes say_meaning highest_defined top_meaning break_meaning turn_meaning line_step breaking breaking_for new_page_meaning table_begun table_counted branched form_meaning line_meaning opposed is_missing of_numbers of_strings compared test_meaning zero_test zero_judged zero_meaning bare_at optional_at single_at behind_space compare_at string_target target_of set_at name_at section_at commands parse_line run_from checked_outcome report_of holds_cells first_fault line_allowed bytes_check form_check name_end has_name came_before name_step name_check nest_end nest_step nest_check name_of or_else walk accepted_run section_checked unless_fault names_checked nesting_checked forms_checked template_checked end_at selects section_from section_end selection_from selected all_closed in_section section_begun table_ended tables_open test_ended test_turned tests_open behind joined lines_joined judged
rows_hold = refl
