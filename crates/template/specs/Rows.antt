-- Small templates, each with what the definitions say of it: antt computes each.
use Rattle.std.specs.Prelude.{◌≡◌, refl, List, [], ◌∷◌, ◌++◌, map, ℕ, replicate, Result, Ok, Err}
use Prim.Native.String.{String}
use Rattle.scan.specs.Ascii.{ascii}
use Rattle.scan.specs.Run.{belongs, span}
use Rattle.scan.specs.Line.{all_allowed, byte_at}
use Rattle.scan.specs.Value.{value_from}
use Rattle.scan.specs.Readers.Digits.{digits_at, number_at}
use Rattle.scan.specs.Words.{begins, stands_at, first_of}
use Rattle.arguments.specs.Readers.Literal.{in_millionths, fraction_at, unsigned_at, literal_at}
use Rattle.arguments.specs.Readers.Index.{variable_index, index_at}
use Rattle.arguments.specs.Readers.Operand.{string_at, entry_of, record_read_of, cell_of, cell_at, whole_at, numbered_of, numbered_at, names, named_at, number_or, operand_at}
use Rattle.arguments.specs.Admitted.{count_of, admits}
use Rattle.arguments.specs.Readers.Argument.{filtered_at, filters, argument_of, argument_at}
use Rattle.texts.specs.Width.{width_of, total_width}
use Rattle.texts.specs.Readers.Text.{places_at, places_of, width_next, field_of, field_at, placed, piece_at, before, pieces_within, text_pieces, fits_behind, text_fits}
use Rattle.lines.specs.Readers.Behind.{behind_space}
use Rattle.lines.specs.Readers.Set.{string_target, target_of, set_at, datasource_at}
use Rattle.lines.specs.Readers.Compare.{compare_at}
use Rattle.lines.specs.Readers.Simple.{single_at, bare_at, optional_at}
use Rattle.lines.specs.Readers.Fetch.{parameter_at, fetched_at, fetch_at}
use Rattle.lines.specs.Readers.Title.{name_at, section_at, heading_of, heading_at, remark_at}
use Rattle.lines.specs.Readers.Command.{commands, parse_line}
use Rattle.meaning.specs.declared.refusal.Refusal.{Refusal}
use Rattle.meaning.specs.declared.refusal.Refusal.TheVariants.{BadTemplate, BadLine, BadNesting, RepeatedSection, NoSection}
use Rattle.nesting.specs.Nest.{tests_open, tables_open, section_begun, test_turned, test_ended, table_ended, in_section, behind, all_closed}
use Rattle.template.specs.Name.{name_of}
use Rattle.template.specs.declared.Extent.{Extent}
use Rattle.template.specs.declared.seek.Skip.{Skip}
use Rattle.template.specs.declared.seek.Sought.{Sought}
use Rattle.template.specs.declared.seek.Sought.TheVariants.{Branch, TestEnd, TableEnd}
use Rattle.template.specs.Lines.{lines_within, lines_of}
use Rattle.template.specs.Verdicts.{first_fault, line_allowed, bytes_check}
use Rattle.template.specs.Walk.{or_else, walk}
use Rattle.template.specs.Shape.{shape_in, shape_of, has_form, is_formed, shape_words, word_shape}
use Rattle.template.specs.Checks.{form_check, nest_step, nest_end, nest_check, has_name, came_before, name_step, name_end, name_check}
use Rattle.template.specs.Sections.{selects, section_from, end_at, section_end, selection_from, selected}
use Rattle.template.specs.Order.{unless_fault, accepted_run, section_checked, names_checked, nesting_checked, forms_checked, template_checked}
use Rattle.template.specs.Seek.{among_tests, among_tables, at_else, role_of, way_past, or_skip, skip_from, cut_to, skipped}

-- lines, each with its line end
unfoldable pub lines_joined : List String → List ℕ
lines_joined [] = []
lines_joined (l ∷ ls) = ascii l ++ (10 ∷ lines_joined ls)

-- what the checks say of a template, or where a search goes on
pub data Finding : Type 0 where
  check_is : Result Extent (Refusal × ℕ) → Finding
  skip_is : Skip → Finding

pub record Row : Type 0 where
  pub computed : Finding
  pub expected : Finding

-- a template, the caller's name, and what is expected
abbrev check : List ℕ → String → Result Extent (Refusal × ℕ) → Row
check t name e = record { computed = check_is (template_checked t (ascii name)); expected = check_is e }

abbrev run_is : ℕ → ℕ → ℕ → Result Extent (Refusal × ℕ)
run_is start line until = Ok (record { start = start; line = line; until = until })

-- what stands behind the line that seeks, and how many bytes and lines are passed over
abbrev seek : List ℕ → Sought → ℕ → ℕ → Row
seek t q bytes n = record { computed = skip_is (skipped t q); expected = skip_is (record { bytes = bytes; lines = n }) }

abbrev two : List ℕ
two = lines_joined ("$REM first" ∷ "$SEC A" ∷ "text" ∷ "$SEC B" ∷ "text" ∷ [])

unfoldable pub rows : List Row
rows =
    -- one section, the last, all, none
    check two "A" (run_is 11 2 23)
    ∷ check two "B" (run_is 23 4 35)
    ∷ check two "" (run_is 11 2 35)
    ∷ check two "C" (Err (NoSection, 0))
    ∷ check [] "" (Err (NoSection, 0))
    -- the last line without its end; the caller's name by its first eight bytes
    ∷ check (ascii "$SEC LONGNAME1") "LONGNAME and more" (run_is 0 1 14)
    -- 2: 132 bytes and 133, a byte that isn't allowed
    ∷ check (lines_joined ("$SEC A" ∷ []) ++ replicate 132 120) "A" (run_is 0 1 139)
    ∷ check (lines_joined ("$SEC A" ∷ []) ++ replicate 133 120) "A" (Err (BadTemplate, 2))
    ∷ check (lines_joined ("$SEC A" ∷ "" ∷ []) ++ (127 ∷ [])) "A" (Err (BadTemplate, 3))
    -- 3 comes before 4, 4 before 5, 5 before 6
    ∷ check (lines_joined ("$SEC A" ∷ "$ENDIF" ∷ "$ENDIF 1" ∷ [])) "A" (Err (BadLine, 3))
    ∷ check (lines_joined ("$SEC A" ∷ "$SEC A" ∷ "$ENDIF" ∷ [])) "A" (Err (BadNesting, 3))
    ∷ check (lines_joined ("$SEC A" ∷ "$SEC A" ∷ [])) "C" (Err (RepeatedSection, 2))
    -- 4: repeated, crossed, unmatched, open at the next $SEC, open at the last line, before the first $SEC
    ∷ check (lines_joined ("$SEC A" ∷ "$IF 1" ∷ "$ELSE" ∷ "$ELSE" ∷ "$ENDIF" ∷ [])) "A" (Err (BadNesting, 4))
    ∷ check (lines_joined ("$SEC A" ∷ "$IF 1" ∷ "$BT 2" ∷ "$ENDIF" ∷ "$ET" ∷ [])) "A" (Err (BadNesting, 4))
    ∷ check (lines_joined ("$SEC A" ∷ "$ET" ∷ [])) "A" (Err (BadNesting, 2))
    ∷ check (lines_joined ("$SEC A" ∷ "$IF 1" ∷ "$SEC B" ∷ "$ENDIF" ∷ [])) "A" (Err (BadNesting, 3))
    ∷ check (lines_joined ("$SEC A" ∷ "$BT 2" ∷ "text" ∷ [])) "A" (Err (BadNesting, 3))
    ∷ check (lines_joined ("$REM" ∷ "" ∷ "$SEC A" ∷ [])) "A" (Err (BadNesting, 2))
    -- 4: at most 10 tests and 5 tables
    ∷ check (lines_joined ("$SEC A" ∷ (replicate 10 "$IF 1" ++ replicate 10 "$ENDIF"))) "A" (run_is 0 1 137)
    ∷ check (lines_joined ("$SEC A" ∷ replicate 11 "$IF 1")) "A" (Err (BadNesting, 12))
    ∷ check (lines_joined ("$SEC A" ∷ replicate 6 "$BT 1")) "A" (Err (BadNesting, 7))
    -- 5: by the first eight characters
    ∷ check (lines_joined ("$SEC LONGNAME1" ∷ "$SEC LONGNAM" ∷ "$SEC LONGNAME2" ∷ [])) "" (Err (RepeatedSection, 3))
    -- a failed test goes on behind its own $ELSE, or its $ENDIF
    ∷ seek (lines_joined ("$IF 1" ∷ "$ELSE" ∷ "$ENDIF" ∷ "$ELSE" ∷ "x" ∷ "$ENDIF" ∷ [])) Branch 25 4
    ∷ seek (lines_joined ("x" ∷ "$ENDIF" ∷ "y" ∷ [])) Branch 9 2
    -- an executed $ELSE behind its own $ENDIF, a skipped table behind its own $ET
    ∷ seek (lines_joined ("x" ∷ "$IF 1" ∷ "$ELSE" ∷ "$ENDIF" ∷ "$ENDIF" ∷ "y" ∷ [])) TestEnd 28 5
    ∷ seek (lines_joined ("$BT 1" ∷ "$ET" ∷ "$ET 2" ∷ "x" ∷ [])) TableEnd 16 3
    -- no line that is passed over is read further than its word
    ∷ seek (lines_joined ("$IF what" ∷ "{" ∷ "$ENDIF" ∷ "$ENDIF" ∷ [])) TestEnd 25 4
    -- the matching line is the last and lacks its line end
    ∷ seek (ascii "$ENDIF") Branch 6 1
    ∷ []

pub rows_hold : map (λ (r : Row). r.computed) rows ≡ map (λ (r : Row). r.expected) rows
unfolding rows belongs span byte_at value_from digits_at number_at begins stands_at first_of in_millionths fraction_at unsigned_at literal_at variable_index index_at string_at entry_of record_read_of cell_of cell_at whole_at numbered_of numbered_at names named_at number_or operand_at count_of admits filtered_at filters argument_of argument_at places_at places_of width_next field_of field_at placed piece_at width_of total_width before pieces_within text_pieces fits_behind text_fits behind_space string_target target_of set_at datasource_at compare_at single_at bare_at optional_at parameter_at fetched_at fetch_at name_at section_at heading_of heading_at remark_at commands parse_line lines_joined bytes_check first_fault line_allowed all_allowed lines_within lines_of shape_in shape_of has_form is_formed shape_words word_shape walk or_else nest_step nest_end nest_check form_check name_of has_name came_before name_step name_end name_check selects section_from end_at section_end selection_from selected unless_fault accepted_run section_checked names_checked nesting_checked forms_checked template_checked among_tests among_tables at_else role_of way_past or_skip skip_from cut_to skipped tests_open tables_open section_begun test_turned test_ended table_ended in_section behind all_closed
rows_hold = refl
