-- Rows of document 01, each computed from the meaning of a whole command.
use Rattle.std.specs.Prelude.{◌≡◌, refl, Bool, true, false, List, [], ◌∷◌, ℕ, ℤ, pos, negsuc, length, Option, Some, None, Ok}
use Rattle.meaning.specs.Answer as A
use Rattle.meaning.specs.Answer.{Answer}
use Rattle.meaning.specs.Meaning.{asks_each}
use Rattle.meaning.specs.Tree.{finished, halted, refused, cut, End, Run, run}
use Rattle.meaning.specs.declared.question.Question.{Question}
use Rattle.meaning.specs.declared.refusal.Refusal.{Refusal}
use Rattle.meaning.specs.declared.refusal.Refusal.TheVariants.{BadIndex, MissingArgument, WrongKind, ZeroDivisor, OutOfRange}
use Rattle.meaning.specs.declared.refusal.Overflow.TheVariants.{ReadList}
use Rattle.numbers.specs.declared.Quantity.TheVariants.{Integer, Decimal}
use Rattle.numbers.specs.Sign.{opposed}
use Rattle.numbers.specs.Range.{within}
use Rattle.numbers.specs.Rounding.{rounded}
use Rattle.numbers.specs.Arithmetic.{checked, operands, divided_by, sum_of, difference_of, integer_product, integer_quotient, decimal_product, decimal_quotient, in_millionths}
use Rattle.scan.specs.Ascii.{ascii}
use Rattle.arguments.specs.declared.index.Index.{Index}
use Rattle.arguments.specs.declared.index.Index.TheVariants.{Fixed, Variable, Loop}
use Rattle.arguments.specs.declared.operand.Operand.{Operand}
use Rattle.arguments.specs.declared.operand.Operand.TheVariants.{NumberLiteral, StringLiteral, IntegerVariable, StringVariable, Parameter, Record}
use Rattle.arguments.specs.declared.argument.Argument.{Argument}
use Rattle.arguments.specs.declared.argument.Filter.TheVariants.{Unfiltered, Absolute, UpperCase}
use Rattle.lines.specs.declared.command.Operation.{Operation}
use Rattle.lines.specs.declared.command.Operation.TheVariants.{Assign, Multiply, Divide}
use Rattle.lines.specs.declared.command.Target.{Target}
use Rattle.lines.specs.declared.command.Target.TheVariants.{IntegerTarget, DecimalTarget, StringTarget}
use Rattle.lines.specs.declared.command.Comparison.{Comparison}
use Rattle.lines.specs.declared.command.Comparison.TheVariants.{SameString, SameLetters, Equal, Less}
use Rattle.values.specs.Letters.{upper, alike}
use Rattle.values.specs.Machine.{Machine, numbered, Variables, set_numbered}
use Rattle.values.specs.Indexes.{index_number, limited, index_value}
use Rattle.values.specs.Asking.{asks, cell_meaning}
use Rattle.values.specs.Fetching.{first_along, element_question, element_questions, count_value, asks_elements, fetch_meaning}
use Rattle.values.specs.Worth.{answered, ranged, absolute, filtered_number, filtered_string, filtered, question_kind}
use Rattle.values.specs.Meanings.{worth_of, operand_meaning, argument_meaning}
use Rattle.commands.specs.declared.table.Table.{Table}
use Rattle.commands.specs.Settling.{integer_from, quantity_from, string_from, result_of, millionths_of, decimal_from, integer_meaning}
use Rattle.commands.specs.Setting.{integer_result, decimal_result, as_variable, new_from, string_new, set_of, set_meaning}
use Rattle.commands.specs.Testing.{zero_test, zero_judged, of_numbers, of_strings, is_missing, compared, zero_meaning, test_meaning, judged}
use Rattle.control.specs.Fetching.{records_meaning}
use Rattle.commands.specs.Looping.{loop, Looping, looping, new_table, begun, begin_meaning, exceeds, counted_to, counting, counted, end_meaning}
use Rattle.control.specs.Selecting.{datasource_from, datasource_meaning}

-- IV1 is −7, IV2 is 1000, IV3 is 2,000,000,000; FV1 is 0.000001, FV2 is −1; SV1 is "cs", SV2 is empty; R1 has no elements
abbrev sample : Machine
sample =
    record {
      variables =
          record {
            integers = negsuc 6 ∷ pos 1000 ∷ pos 2000000000 ∷ [];
            decimals = pos 1 ∷ negsuc 999999 ∷ [];
            strings = ascii "cs" ∷ [] ∷ [];
            records = [] ∷ [];
            entries = [];
          };
      counter = pos 0;
      datasource = 1;
      page = 1;
      row = 1;
    }

-- every cell is missing
abbrev source : Question → Answer
source q = A.missing

abbrev plain : Operand → Argument
plain o = record { operand = o; filter = Unfiltered }

abbrev integer_argument : ℤ → Argument
integer_argument z = plain (NumberLiteral (Integer z))

abbrev decimal_argument : ℤ → Argument
decimal_argument z = plain (NumberLiteral (Decimal z))

-- how a command on line 7 ends, with some places on the read list
abbrev assigns : Operation → Target → Argument → End Refusal ℕ Variables
assigns o t a = (run source 5 0 (set_meaning sample (ascii "") 7 o t a)).end

-- the value that a variable has then, 0 where the run is over
abbrev value_in : (Variables → List ℤ) → ℕ → End Refusal ℕ Variables → ℤ
value_in f n (finished m) = numbered (pos 0) (f m) n
value_in f n (halted c l) = pos 0

abbrev integers_of : Variables → List ℤ
integers_of m = m.integers

abbrev decimals_of : Variables → List ℤ
decimals_of m = m.decimals

-- SVn then, of the line `"cs-137" "0123456789abcdefg"`
abbrev assigns_string : Argument → ℕ → End Refusal ℕ Variables
assigns_string a n = (run source 5 0 (set_meaning sample (ascii "\"cs-137\" \"0123456789abcdefg\"") 7 Assign (StringTarget n) a)).end

abbrev string_in : ℕ → End Refusal ℕ Variables → List ℕ
string_in n (finished m) = numbered [] m.strings n
string_in n (halted c l) = []

-- the run of a test of the line `"cs-137" "CS" "" "Cs"`
abbrev compares : ℕ → Comparison → Argument → Argument → Run Question Refusal ℕ Bool
compares places c a b = run source places 0 (test_meaning sample (ascii "\"cs-137\" \"CS\" \"\" \"Cs\"") 7 c a b)

abbrev long_string : Argument
long_string = plain (StringLiteral 1 7)

abbrev short_string : Argument
short_string = plain (StringLiteral 10 12)

abbrev empty_string : Argument
empty_string = plain (StringLiteral 15 15)

-- a table whose first line is line 2, at byte 10
abbrev table_of : ℕ → ℕ → Table
table_of n c = counted_to (new_table n 10 2) c

-- how $BT ends where no table is open, and $ET in a table of 5 whose counter is 3
abbrev begins_table : Argument → End Refusal ℕ Looping
begins_table a = (run source 5 0 (begin_meaning sample (ascii "") 7 [] 10 2 a)).end

abbrev ends_table : Option Argument → End Refusal ℕ Looping
ends_table k = (run source 5 0 (end_meaning sample (ascii "") 7 (table_of 5 3 ∷ []) k)).end

-- the run of `$REC 1 P9 record 0 count`, with two places on the read list
abbrev fetches_records : Index → Index → Run Question Refusal ℕ Variables
fetches_records r n = run source 2 0 (records_meaning sample 7 (record { number = 1; parameter = 9; «record» = r; entry = Fixed 0; count = n }))

-- how $SETDS ends
abbrev selects_datasource : Index → End Refusal ℕ ℕ
selects_datasource i = (run source 0 0 (datasource_meaning sample 7 i)).end

abbrev Rows : Type 0
Rows =
    -- document 01: 0.000001 × 0.5 = 0.000001; −1 ÷ 3 in FV = −0.333333; IV −7 ÷ 2 = −3; 2,000,000,000 × 2: 13
    (value_in decimals_of 1 (assigns Multiply (DecimalTarget 1) (decimal_argument (pos 500000))) ≡ pos 1)
    × (value_in decimals_of 2 (assigns Divide (DecimalTarget 2) (integer_argument (pos 3))) ≡ negsuc 333332)
    × (value_in integers_of 1 (assigns Divide (IntegerTarget 1) (integer_argument (pos 2))) ≡ negsuc 2)
    × (assigns Multiply (IntegerTarget 3) (integer_argument (pos 2)) ≡ halted (refused OutOfRange) 7)
    -- document 01: "" equals "Cs"; "cs-137", "CS" equal under SI, not SS
    × ((compares 0 SameString empty_string (plain (StringLiteral 18 20))).end ≡ finished true)
    × ((compares 0 SameLetters long_string short_string).end ≡ finished true)
    × ((compares 0 SameString long_string short_string).end ≡ finished false)
    -- `$SETE IV1 2.0` is 11, `$SETE FV1 2` is 2; `$SETD IV1 0` is 12; a missing cell is 10
    × (assigns Assign (IntegerTarget 1) (decimal_argument (pos 2000000)) ≡ halted (refused WrongKind) 7)
    × (value_in decimals_of 1 (assigns Assign (DecimalTarget 1) (integer_argument (pos 2))) ≡ pos 2000000)
    × (assigns Divide (IntegerTarget 1) (integer_argument (pos 0)) ≡ halted (refused ZeroDivisor) 7)
    × (assigns Assign (IntegerTarget 1) (plain (Parameter 9)) ≡ halted (refused MissingArgument) 7)
    -- `$IFEQSS "cs-137"|ABS P9` with P9 missing is 10; with no place, 9; `$IFEQ P9 P9.IV2` is 8 with one question asked
    × ((compares 5 SameString (record { operand = StringLiteral 1 7; filter = Absolute }) (plain (Parameter 9))).end ≡ halted (refused MissingArgument) 7)
    × ((compares 0 SameString (record { operand = StringLiteral 1 7; filter = Absolute }) (plain (Parameter 9))).end ≡ halted (cut ReadList) 7)
    × ((compares 5 Equal (plain (Parameter 9)) (plain (Record 9 (Variable 2)))).end ≡ halted (refused BadIndex) 7)
    -- 2 and 2.0 are equal; a string is no number
    × ((compares 0 Equal (integer_argument (pos 2)) (decimal_argument (pos 2000000))).end ≡ finished true)
    × ((compares 0 Less (integer_argument (pos 2)) short_string).end ≡ halted (refused WrongKind) 7)
    -- SV takes a string, from itself too; a number is 11. A literal of 17 bytes, which no accepted line has, would be cut.
    × (string_in 2 (assigns_string (plain (StringLiteral 1 7)) 2) ≡ ascii "cs-137")
    × (string_in 1 (assigns_string (plain (StringLiteral 10 27)) 1) ≡ ascii "0123456789abcdef")
    × (string_in 1 (assigns_string (record { operand = StringVariable 1; filter = UpperCase }) 1) ≡ ascii "CS")
    × (assigns_string (integer_argument (pos 5)) 1 ≡ halted (refused WrongKind) 7)
    × (assigns_string (plain (Parameter 9)) 1 ≡ halted (refused MissingArgument) 7)
    -- document 01: $BT 5, $ET 2: three passes; $BT 0: none
    × (begins_table (integer_argument (pos 5)) ≡ finished (looping (table_of 5 1 ∷ []) false))
    × (counted (table_of 5 1 ∷ []) (pos 2) ≡ Ok (looping (table_of 5 3 ∷ []) true))
    × (ends_table (Some (integer_argument (pos 2))) ≡ finished (looping (table_of 5 5 ∷ []) true))
    × (counted (table_of 5 5 ∷ []) (pos 2) ≡ Ok (looping [] false))
    × (begins_table (integer_argument (pos 0)) ≡ finished (looping [] true))
    -- `$BT IV1` with −7: none; `$BT 1` opens; `$BT 1.0` is 11; `$ET` adds 1; `$ET 0` is 13; `$ET P9` with P9 missing is 10
    × (begins_table (plain (IntegerVariable 1)) ≡ finished (looping [] true))
    × (begins_table (integer_argument (pos 1)) ≡ finished (looping (table_of 1 1 ∷ []) false))
    × (begins_table (decimal_argument (pos 1000000)) ≡ halted (refused WrongKind) 7)
    × (ends_table None ≡ finished (looping (table_of 5 4 ∷ []) true))
    × (ends_table (Some (integer_argument (pos 0))) ≡ halted (refused OutOfRange) 7)
    × (ends_table (Some (plain (Parameter 9))) ≡ halted (refused MissingArgument) 7)
    -- a counter past 2,000,000,000 ends its table, one of 2,000,000,000 doesn't; LOOP outside is 0
    × (counted (table_of 2000000000 1999999999 ∷ []) (pos 1) ≡ Ok (looping (table_of 2000000000 2000000000 ∷ []) true))
    × (counted (table_of 2000000000 2000000000 ∷ []) (pos 1) ≡ Ok (looping [] false))
    × (loop [] ≡ 0)
    × (loop (table_of 5 3 ∷ table_of 9 1 ∷ []) ≡ 3)
    -- $REC: record 999 is the last; past it, and a count of 65, are 8 before any question; a third place is missing: 9, two asked
    × (length (fetches_records (Fixed 999) (Fixed 1)).asked ≡ 1)
    × (fetches_records (Fixed 999) (Fixed 2) ≡ record { end = halted (refused BadIndex) 7; asked = []; events = [] })
    × (fetches_records (Fixed 0) (Fixed 65) ≡ record { end = halted (refused BadIndex) 7; asked = []; events = [] })
    × (length (fetches_records (Fixed 1) (Fixed 3)).asked ≡ 2)
    × ((fetches_records (Fixed 1) (Fixed 3)).end ≡ halted (cut ReadList) 7)
    -- `$SETDS` takes 1 to 35
    × (selects_datasource (Fixed 0) ≡ halted (refused BadIndex) 7)
    × (selects_datasource (Fixed 1) ≡ finished 1)
    × (selects_datasource (Fixed 35) ≡ finished 35)
    × (selects_datasource (Fixed 36) ≡ halted (refused BadIndex) 7)
    × (selects_datasource (Variable 1) ≡ halted (refused BadIndex) 7)
    × (selects_datasource Loop ≡ halted (refused BadIndex) 7)

pub rows : Rows
unfolding run opposed within rounded checked operands divided_by sum_of difference_of integer_product integer_quotient decimal_product decimal_quotient in_millionths upper alike numbered answered ranged absolute filtered_number filtered_string filtered question_kind index_number limited index_value asks cell_meaning worth_of operand_meaning argument_meaning first_along element_question element_questions asks_each count_value asks_elements fetch_meaning integer_from quantity_from string_from result_of millionths_of decimal_from integer_meaning integer_result decimal_result set_numbered as_variable new_from string_new set_of set_meaning zero_test zero_judged of_numbers of_strings is_missing compared zero_meaning test_meaning records_meaning loop begun begin_meaning exceeds counting counted end_meaning datasource_from datasource_meaning judged
rows =
    (refl, refl, refl, refl, refl, refl, refl, refl, refl, refl, refl, refl, refl, refl, refl, refl, refl, refl, refl, refl, refl, refl, refl, refl, refl, refl, refl, refl, refl, refl, refl, refl, refl, refl, refl, refl, refl, refl, refl, refl, refl, refl, refl, refl, refl, refl, refl)
