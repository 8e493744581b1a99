-- How the code holds what is open: as digits in base 5, the innermost lowest.
use Rattle.std.specs.Prelude.{◌≡◌, Bool, cond, List, [], ◌∷◌, ℕ, ◌+◌, ◌-◌, ◌*◌, ◌/◌, ◌%◌, ◌≤◌, leb, eqb, length, Some, None, Option}
use Rattle.nesting.specs.declared.Shape.{Shape}
use Rattle.nesting.specs.declared.Shape.TheVariants.{Section, Remark, Test, Else, EndTest, Table, EndTable, Plain, NoForm}
use Rattle.nesting.specs.declared.Open.{Open}
use Rattle.nesting.specs.Nest.{Mark, section, test, else_part, table, tests_open, tables_open, behind, all_closed}

unfoldable pub digit : Mark → ℕ
digit section = 1
digit test = 2
digit else_part = 3
digit table = 4

unfoldable pub code : List Mark → ℕ
code [] = 0
code (m ∷ s) = code s * 5 + digit m

-- the numbers for marks, tests and tables are those of s
pub record Holds (m t b : ℕ) (s : List Mark) : Type 0 where
  pub coded : m ≡ code s
  pub tested : t ≡ tests_open s
  pub tabled : b ≡ tables_open s
  pub few_tests : t ≤ 10
  pub few_tables : b ≤ 5
  pub short : length s ≤ t + b + 1

abbrev pub HoldsOpen : Open → List Mark → Type 0
HoldsOpen state s = Holds state.marks state.tests state.tables s

-- the code went on with what the definition has, or both are at fault
unfoldable pub Follows : Option Open → Option (List Mark) → Type 0
Follows (Some state) (Some s) = HoldsOpen state s
Follows (Some state) None = ⊥
Follows None (Some s) = ⊥
Follows None None = Unit

-- what is done with any three numbers, those of a list of marks or not

abbrev state : ℕ → ℕ → ℕ → Open
state m t b = record { marks = m; tests = t; tables = b }

-- one mark more, where a section is open and there is room for it
unfoldable pub deeper : Open → ℕ → ℕ → Option Open → Option Open
deeper s n most r = cond (eqb s.marks 0) None (cond (leb most n) None (cond (leb 152587890625 s.marks) None r))

unfoldable pub step_in : Shape → Open → Option Open
step_in Section s = cond (eqb (s.marks % 5) 0) (Some (state 1 0 0)) (cond (eqb (s.marks % 5) 1) (Some (state 1 0 0)) None)
step_in Remark s = Some s
step_in Test s = deeper s s.tests 10 (Some (state (s.marks * 5 + 2) (s.tests + 1) s.tables))
step_in Else s = cond (eqb (s.marks % 5) 2) (Some (state (s.marks + 1) s.tests s.tables)) None
step_in EndTest s =
    cond (eqb s.tests 0) None
    (cond (eqb (s.marks % 5) 2) (Some (state (s.marks / 5) (s.tests - 1) s.tables))
    (cond (eqb (s.marks % 5) 3) (Some (state (s.marks / 5) (s.tests - 1) s.tables))
    None))
step_in Table s = deeper s s.tables 5 (Some (state (s.marks * 5 + 4) s.tests (s.tables + 1)))
step_in EndTable s =
    cond (eqb s.tables 0) None
    (cond (eqb (s.marks % 5) 4) (Some (state (s.marks / 5) s.tests (s.tables - 1)))
    None)
step_in Plain s = cond (eqb s.marks 0) None (Some s)
step_in NoForm s = cond (eqb s.marks 0) None (Some s)

-- r is what is done with the numbers, and where they are those of a list of marks, it is what the definition has
pub record Steps (state : Open) (shape : Shape) (r : Option Open) : Type 0 where
  pub told : r ≡ step_in shape state
  pub follows : (s : List Mark) → HoldsOpen state s → Follows r (behind shape s)

pub record Ends (state : Open) (r : Bool) : Type 0 where
  pub told : r ≡ leb (state.marks % 5) 1
  pub closed : (s : List Mark) → HoldsOpen state s → r ≡ all_closed s
