-- A search for a matching line keeps count of what is open over the mark that it is to close: line by line, what the search
-- counts and what check 4 has open agree, until the line that closes or turns that mark.
use Rattle.std.specs.Prelude.{Option, Some, None}
use mathlib.Core.Path.{◌≡◌, refl}
use mathlib.Core.Bool.{false}
use mathlib.Core.List.{List, ◌∷◌}
use Prim.Native.Nat.{ℕ, suc}
use native.Mathlib.Omega.{arith}
use Rattle.nesting.specs.declared.Shape.{Shape}
use Rattle.nesting.specs.declared.Shape.TheVariants.{Section}
use Rattle.nesting.specs.Nest.{Mark, test, else_part, table, section_begun, all_closed}
use Rattle.template.specs.declared.seek.Sought.{Sought}
use Rattle.template.specs.declared.seek.Sought.TheVariants.{Branch, TestEnd, TableEnd}
use Rattle.template.specs.declared.seek.Role.TheVariants.{Opens, Closes}
use Rattle.template.specs.Seek.{among_tests, among_tables, at_else, role_of, way_past}
use Rattle.template.proofs.Turns.{Turn, first_section, next_section, remark, test_begun, test_turned_law, test_ended_law, other_ended, table_begun_law, table_ended_law, plain, no_form}

-- what is open over `top` and M, of which a are tests and b tables
pub data Over (top : Mark) (M : List Mark) : ℕ → ℕ → List Mark → Type 0 where
  here : Over top M 0 0 (top ∷ M)
  a_test : {a b : ℕ} {W : List Mark} → Over top M a b W → Over top M (suc a) b (test ∷ W)
  an_other : {a b : ℕ} {W : List Mark} → Over top M a b W → Over top M (suc a) b (else_part ∷ W)
  a_table : {a b : ℕ} {W : List Mark} → Over top M a b W → Over top M a (suc b) (table ∷ W)

-- the mark that a search is to close: a failed test's, that of a test in its $ELSE part, a table's
abbrev pub top_of : Sought → Mark
top_of Branch = test
top_of TestEnd = else_part
top_of TableEnd = table

-- how many open inside the search counts
unfoldable pub depth_of : Sought → ℕ → ℕ → ℕ
depth_of Branch a b = a
depth_of TestEnd a b = a
depth_of TableEnd a b = b

-- what is open behind the matching line: a $ELSE turns a failed test's mark, any other match takes the mark away
pub data Lands (M : List Mark) : Sought → List Mark → Type 0 where
  behind_end : {q : Sought} → Lands M q M
  behind_else : Lands M Branch (else_part ∷ M)

-- the search goes on, or is at its match
pub data Went (q : Sought) (M : List Mark) : Option ℕ → List Mark → Type 0 where
  on : {a b : ℕ} {W : List Mark} → Over (top_of q) M a b W → Went q M (Some (depth_of q a b)) W
  landed : {W : List Mark} → Lands M q W → Went q M None W

no_section : {A : Type 0} {r : List Mark} → Some r ≡ None → A
no_section e = absurd (let z : ◌≡◌ {A = ℕ} 0 1 = cc in omega arith)

top_open : (q : Sought) (M : List Mark) → (section_begun (top_of q ∷ M) ≡ None) × (all_closed (top_of q ∷ M) ≡ false)
unfolding section_begun all_closed
top_open Branch M = (refl, refl)
top_open TestEnd M = (refl, refl)
top_open TableEnd M = (refl, refl)

module _ {M : List Mark} where
  -- no section begins and the template doesn't end while the mark is open
  pub over_open : (q : Sought) {a b : ℕ} {W : List Mark} → Over (top_of q) M a b W → (section_begun W ≡ None) × (all_closed W ≡ false)
  unfolding section_begun all_closed
  over_open q here = top_open q M
  over_open q (a_test o) = (refl, refl)
  over_open q (an_other o) = (refl, refl)
  over_open q (a_table o) = (refl, refl)

  -- a test or a table opens inside
  test_inside : (q : Sought) {a b : ℕ} {W : List Mark} → Over (top_of q) M a b W → Went q M (way_past (among_tests q Opens) (depth_of q a b)) (test ∷ W)
  unfolding way_past among_tests depth_of
  test_inside Branch o = on (a_test o)
  test_inside TestEnd o = on (a_test o)
  test_inside TableEnd o = on (a_test o)

  table_inside : (q : Sought) {a b : ℕ} {W : List Mark} → Over (top_of q) M a b W → Went q M (way_past (among_tables q Opens) (depth_of q a b)) (table ∷ W)
  unfolding way_past among_tables depth_of
  table_inside Branch o = on (a_table o)
  table_inside TestEnd o = on (a_table o)
  table_inside TableEnd o = on (a_table o)

  -- a $ELSE
  else_met : (q : Sought) {a b : ℕ} {W : List Mark} → Over (top_of q) M a b (test ∷ W) → Went q M (way_past (at_else q) (depth_of q a b)) (else_part ∷ W)
  unfolding way_past at_else depth_of
  else_met Branch here = landed behind_else
  else_met Branch (a_test o) = on (an_other o)
  else_met TestEnd (a_test o) = on (an_other o)
  else_met TableEnd (a_test o) = on (an_other o)

  -- a $ENDIF, of a test or of one in its $ELSE part
  test_met : (q : Sought) {a b : ℕ} {W : List Mark} → Over (top_of q) M a b (test ∷ W) → Went q M (way_past (among_tests q Closes) (depth_of q a b)) W
  unfolding way_past among_tests depth_of
  test_met Branch here = landed behind_end
  test_met Branch (a_test o) = on o
  test_met TestEnd (a_test o) = on o
  test_met TableEnd (a_test o) = on o

  other_met : (q : Sought) {a b : ℕ} {W : List Mark} → Over (top_of q) M a b (else_part ∷ W) → Went q M (way_past (among_tests q Closes) (depth_of q a b)) W
  unfolding way_past among_tests depth_of
  other_met Branch (an_other o) = on o
  other_met TestEnd here = landed behind_end
  other_met TestEnd (an_other o) = on o
  other_met TableEnd (an_other o) = on o

  -- a $ET
  table_met : (q : Sought) {a b : ℕ} {W : List Mark} → Over (top_of q) M a b (table ∷ W) → Went q M (way_past (among_tables q Closes) (depth_of q a b)) W
  unfolding way_past among_tables depth_of
  table_met Branch (a_table o) = on o
  table_met TestEnd (a_table o) = on o
  table_met TableEnd here = landed behind_end
  table_met TableEnd (a_table o) = on o

  -- Each line whose nesting isn't at fault: the search goes on, or is at its match.
  pub search_step : (q : Sought) {x : Shape} {a b : ℕ} {W W' : List Mark} → Turn x W W' → Over (top_of q) M a b W → Went q M (way_past (role_of q x) (depth_of q a b)) W'
  unfolding role_of way_past section_begun
  search_step q first_section o = no_section (over_open q o).0
  search_step q next_section o = no_section (over_open q o).0
  search_step q remark o = on o
  search_step q (test_begun h) o = test_inside q o
  search_step q test_turned_law o = else_met q o
  search_step q test_ended_law o = test_met q o
  search_step q other_ended o = other_met q o
  search_step q (table_begun_law h) o = table_inside q o
  search_step q table_ended_law o = table_met q o
  search_step q plain o = on o
  search_step q no_form o = on o

  -- No line of a search is a section.
  pub search_inside : (q : Sought) {x : Shape} {a b : ℕ} {W W' : List Mark} → Turn x W W' → Over (top_of q) M a b W → x ≡ Section → ⊥
  unfolding section_begun
  search_inside q w o e = by (rw e at w) o
    where
      by : {W W' : List Mark} {a b : ℕ} → Turn Section W W' → Over (top_of q) M a b W → ⊥
      by first_section o = no_section (over_open q o).0
      by next_section o = no_section (over_open q o).0
