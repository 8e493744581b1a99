-- "Nesting is crossed, unmatched, repeated ($ELSE), too deep, or open at the next $SEC or the last line, which is named;
-- or a line other than $REM has no $SEC before it."
use Rattle.std.specs.Prelude.{Bool, true, false, cond, List, [], ◌∷◌, ℕ, suc, ltb, Option, Some, None}
use Rattle.nesting.specs.declared.Shape.{Shape}
use Rattle.nesting.specs.declared.Shape.TheVariants.{Section, Remark, Test, Else, EndTest, Table, EndTable, Plain, NoForm}

-- what is open: a section, a test, a test in its $ELSE part, a table
pub data Mark : Type 0 where
  section : Mark
  test : Mark
  else_part : Mark
  table : Mark

-- "At most 10 are open": a test in its $ELSE part is open too
unfoldable pub tests_open : List Mark → ℕ
tests_open [] = 0
tests_open (section ∷ s) = tests_open s
tests_open (test ∷ s) = suc (tests_open s)
tests_open (else_part ∷ s) = suc (tests_open s)
tests_open (table ∷ s) = tests_open s

-- "At most 5 are open."
unfoldable pub tables_open : List Mark → ℕ
tables_open [] = 0
tables_open (section ∷ s) = tables_open s
tables_open (test ∷ s) = tables_open s
tables_open (else_part ∷ s) = tables_open s
tables_open (table ∷ s) = suc (tables_open s)

-- $SEC: "open at the next $SEC"
unfoldable pub section_begun : List Mark → Option (List Mark)
section_begun [] = Some (section ∷ [])
section_begun (section ∷ s) = Some (section ∷ [])
section_begun (test ∷ s) = None
section_begun (else_part ∷ s) = None
section_begun (table ∷ s) = None

-- $ELSE: "repeated" in a test's $ELSE part, "crossed" in a table, else "unmatched"
unfoldable pub test_turned : List Mark → Option (List Mark)
test_turned [] = None
test_turned (section ∷ s) = None
test_turned (test ∷ s) = Some (else_part ∷ s)
test_turned (else_part ∷ s) = None
test_turned (table ∷ s) = None

-- $ENDIF: "crossed" in a table, "unmatched"
unfoldable pub test_ended : List Mark → Option (List Mark)
test_ended [] = None
test_ended (section ∷ s) = None
test_ended (test ∷ s) = Some s
test_ended (else_part ∷ s) = Some s
test_ended (table ∷ s) = None

-- $ET: "crossed" in a test, "unmatched"
unfoldable pub table_ended : List Mark → Option (List Mark)
table_ended [] = None
table_ended (section ∷ s) = None
table_ended (test ∷ s) = None
table_ended (else_part ∷ s) = None
table_ended (table ∷ s) = Some s

-- "a line other than $REM has no $SEC before it"
unfoldable pub in_section : List Mark → Option (List Mark) → Option (List Mark)
in_section [] o = None
in_section (m ∷ s) o = o

-- what is open behind a line, the innermost first, or none where the line is at fault
unfoldable pub behind : Shape → List Mark → Option (List Mark)
behind Section s = section_begun s
behind Remark s = Some s
behind Test s = in_section s (cond (ltb (tests_open s) 10) (Some (test ∷ s)) None)
behind Else s = test_turned s
behind EndTest s = test_ended s
behind Table s = in_section s (cond (ltb (tables_open s) 5) (Some (table ∷ s)) None)
behind EndTable s = table_ended s
behind Plain s = in_section s (Some s)
-- no line of the templates that check 4 sees: check 3 comes first (template/specs/Order)
behind NoForm s = in_section s (Some s)

-- "open at .. the last line": nothing but a section is open
unfoldable pub all_closed : List Mark → Bool
all_closed [] = true
all_closed (section ∷ s) = true
all_closed (test ∷ s) = false
all_closed (else_part ∷ s) = false
all_closed (table ∷ s) = false
