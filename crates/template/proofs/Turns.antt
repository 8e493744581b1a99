-- What a line does to what is open, by its shape: the cases of `behind` that aren't at fault, and what they keep.
use Rattle.std.specs.Prelude.{Option, Some, None}
use mathlib.Core.Path.{◌≡◌, refl, ap, subst}
use mathlib.Core.Logic.{◌⊎◌, inl, inr}
use mathlib.Core.Bool.{Bool, true, false, cond}
use mathlib.Core.List.{List, [], ◌∷◌}
use Prim.Native.Nat.{ℕ, ◌<◌, ◌≤◌}
use native.Mathlib.Omega.{arith}
use borrow.Author.Tests.{ltb-true}
use lib.Dec.{ltb}
use Rattle.nesting.specs.declared.Shape.{Shape}
use Rattle.nesting.specs.declared.Shape.TheVariants.{Section, Remark, Test, Else, EndTest, Table, EndTable, Plain, NoForm}
use Rattle.nesting.specs.Nest.{Mark, section, test, else_part, table, tests_open, tables_open, section_begun, test_turned, test_ended, table_ended, in_section, behind}

-- a line of a shape, what is open before it and what is open behind it
pub data Turn : Shape → List Mark → List Mark → Type 0 where
  first_section : Turn Section [] (section ∷ [])
  next_section : {s : List Mark} → Turn Section (section ∷ s) (section ∷ [])
  remark : {s : List Mark} → Turn Remark s s
  test_begun : {m : Mark} {s : List Mark} → tests_open (m ∷ s) < 10 → Turn Test (m ∷ s) (test ∷ (m ∷ s))
  test_turned_law : {s : List Mark} → Turn Else (test ∷ s) (else_part ∷ s)
  test_ended_law : {s : List Mark} → Turn EndTest (test ∷ s) s
  other_ended : {s : List Mark} → Turn EndTest (else_part ∷ s) s
  table_begun_law : {m : Mark} {s : List Mark} → tables_open (m ∷ s) < 5 → Turn Table (m ∷ s) (table ∷ (m ∷ s))
  table_ended_law : {s : List Mark} → Turn EndTable (table ∷ s) s
  plain : {m : Mark} {s : List Mark} → Turn Plain (m ∷ s) (m ∷ s)
  no_form : {m : Mark} {s : List Mark} → Turn NoForm (m ∷ s) (m ∷ s)

never : {A : Type 0} {r : List Mark} → ◌≡◌ {A = Option (List Mark)} None (Some r) → A
never e = absurd (let z : ◌≡◌ {A = ℕ} 0 1 = cc in omega arith)

same : {x : Shape} {s r s' : List Mark} → Some r ≡ Some s' → Turn x s r → Turn x s s'
same {x} {s} {r} {s'} e h = subst (Turn x s) (let z : r ≡ s' = cc in z) h

-- a test or a table begun while there is room for one more
begun : {x : Shape} {s r s' : List Mark} (n most : ℕ) (b : Bool) → ltb n most ≡ b → cond b (Some r) None ≡ Some s' → (n < most → Turn x s r) → Turn x s s'
begun n most true k e h = same e (h (ltb-true n most k))
begun n most false k e h = never e

-- A line that isn't at fault is one of these.
pub turn : (x : Shape) (s s' : List Mark) → behind x s ≡ Some s' → Turn x s s'
unfolding behind section_begun test_turned test_ended table_ended in_section
turn Section [] s' e = same e first_section
turn Section (section ∷ s) s' e = same e next_section
turn Section (test ∷ s) s' e = never e
turn Section (else_part ∷ s) s' e = never e
turn Section (table ∷ s) s' e = never e
turn Remark s s' e = same e remark
turn Test [] s' e = never e
turn Test (m ∷ s) s' e = begun (tests_open (m ∷ s)) 10 (ltb (tests_open (m ∷ s)) 10) refl e test_begun
turn Else [] s' e = never e
turn Else (section ∷ s) s' e = never e
turn Else (test ∷ s) s' e = same e test_turned_law
turn Else (else_part ∷ s) s' e = never e
turn Else (table ∷ s) s' e = never e
turn EndTest [] s' e = never e
turn EndTest (section ∷ s) s' e = never e
turn EndTest (test ∷ s) s' e = same e test_ended_law
turn EndTest (else_part ∷ s) s' e = same e other_ended
turn EndTest (table ∷ s) s' e = never e
turn Table [] s' e = never e
turn Table (m ∷ s) s' e = begun (tables_open (m ∷ s)) 5 (ltb (tables_open (m ∷ s)) 5) refl e table_begun_law
turn EndTable [] s' e = never e
turn EndTable (section ∷ s) s' e = never e
turn EndTable (test ∷ s) s' e = never e
turn EndTable (else_part ∷ s) s' e = never e
turn EndTable (table ∷ s) s' e = same e table_ended_law
turn Plain [] s' e = never e
turn Plain (m ∷ s) s' e = same e plain
turn NoForm [] s' e = never e
turn NoForm (m ∷ s) s' e = same e no_form

-- a section is open outermost only
unfoldable pub Grounded : List Mark → Type 0
Grounded [] = Unit
Grounded (section ∷ s) = s ≡ []
Grounded (test ∷ s) = Grounded s
Grounded (else_part ∷ s) = Grounded s
Grounded (table ∷ s) = Grounded s

-- Each line keeps this.
pub turn_grounded : {x : Shape} {s s' : List Mark} → Turn x s s' → Grounded s → Grounded s'
unfolding Grounded
turn_grounded first_section g = refl
turn_grounded next_section g = refl
turn_grounded remark g = g
turn_grounded (test_begun h) g = g
turn_grounded test_turned_law g = g
turn_grounded test_ended_law g = g
turn_grounded other_ended g = g
turn_grounded (table_begun_law h) g = g
turn_grounded table_ended_law g = g
turn_grounded plain g = g
turn_grounded no_form g = g

-- "At most 10 are open", line by line.
pub turn_tests : {x : Shape} {s s' : List Mark} → Turn x s s' → tests_open s ≤ 10 → tests_open s' ≤ 10
unfolding tests_open
turn_tests first_section h = omega arith
turn_tests next_section h = omega arith
turn_tests remark h = h
turn_tests (test_begun k) h = k
turn_tests test_turned_law h = h
turn_tests test_ended_law h = omega arith
turn_tests other_ended h = omega arith
turn_tests (table_begun_law k) h = h
turn_tests table_ended_law h = h
turn_tests plain h = h
turn_tests no_form h = h

-- "At most 5 are open", line by line.
pub turn_tables : {x : Shape} {s s' : List Mark} → Turn x s s' → tables_open s ≤ 5 → tables_open s' ≤ 5
unfolding tables_open
turn_tables first_section h = omega arith
turn_tables next_section h = omega arith
turn_tables remark h = h
turn_tables (test_begun k) h = h
turn_tables test_turned_law h = h
turn_tables test_ended_law h = h
turn_tables other_ended h = h
turn_tables (table_begun_law k) h = k
turn_tables table_ended_law h = omega arith
turn_tables plain h = h
turn_tables no_form h = h

-- ---- what is open, by the shape of a line

-- Behind a $SEC its section alone is open; nothing but a section was open before it.
pub turn_section : {s s' : List Mark} → Turn Section s s' → Grounded s → (s' ≡ section ∷ []) × (tables_open s ≡ 0)
unfolding Grounded tables_open
turn_section first_section g = (refl, refl)
turn_section next_section g = (refl, ap tables_open g)

pub turn_remark : {s s' : List Mark} → Turn Remark s s' → s' ≡ s
turn_remark remark = refl

pub turn_plain : {s s' : List Mark} → Turn Plain s s' → s' ≡ s
turn_plain plain = refl

-- A test adds its mark.
pub turn_test : {s s' : List Mark} → Turn Test s s' → s' ≡ test ∷ s
turn_test (test_begun h) = refl

-- A $ELSE turns a test's mark.
pub turn_else : {s s' : List Mark} → Turn Else s s' → (r : List Mark) × (s ≡ test ∷ r) × (s' ≡ else_part ∷ r)
turn_else (test_turned_law {s = r}) = (r, refl, refl)

-- A $ENDIF takes a test's mark away.
pub turn_end_test : {s s' : List Mark} → Turn EndTest s s' → (s ≡ test ∷ s') ⊎ (s ≡ else_part ∷ s')
turn_end_test test_ended_law = inl refl
turn_end_test other_ended = inr refl

-- A $BT adds its mark, and there was room for it.
pub turn_table : {s s' : List Mark} → Turn Table s s' → (s' ≡ table ∷ s) × (tables_open s < 5)
turn_table (table_begun_law h) = (refl, h)

-- A $ET takes a table's mark away.
pub turn_end_table : {s s' : List Mark} → Turn EndTable s s' → s ≡ table ∷ s'
turn_end_table table_ended_law = refl
