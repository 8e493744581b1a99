-- Laws of what is open at a line of a template that checks 2 to 4 let through.
use Rattle.std.specs.Prelude.{Some, None, Option}
use mathlib.Core.Path.{◌≡◌, refl, sym, ap, subst, ◌∙◌}
use mathlib.Core.Logic.{◌⊎◌}
use mathlib.Core.Bool.{Bool, true, false, cond, ◌&&◌, false≢true}
use mathlib.Core.List.{List, [], ◌∷◌}
use Prim.Native.Nat.{ℕ, zero, suc, ◌+◌, ◌-◌, ◌<◌, ◌≤◌}
use native.Mathlib.Omega.{arith}
use borrow.Author.Tests.{leb-true, leb-false}
use lib.Dec.{leb}
use lib.ListN.{length, drop}
use Rattle.scan.specs.Line.{all_allowed, line_at, next_line}
use Rattle.lines.specs.Readers.Command.{parse_line}
use Rattle.nesting.specs.declared.Shape.TheVariants.{Section, Remark, Test, Else, EndTest, Table, EndTable, Plain}
use Rattle.nesting.specs.Nest.{Mark, section, test, else_part, table, tests_open, tables_open, all_closed}
use Rattle.template.specs.Lines.{lines_of}
use Rattle.template.specs.Verdicts.{first_fault, line_allowed}
use Rattle.template.specs.Walk.{or_else, walk}
use Rattle.template.specs.Shape.{shape_of, is_formed}
use Rattle.template.specs.Checks.{form_check, nest_step, nest_end, nest_check}
use Rattle.template.specs.Opening.{OpenBefore, at_first, at_next, Checks}
use Rattle.template.proofs.LineLaws.{lines_none, lines_more}
use Rattle.template.proofs.VerdictLaws.{not_too_long}
use Rattle.template.proofs.OrderLaws.{short_by_bytes}
use Rattle.template.proofs.NameForm.{formed}
use Rattle.template.proofs.Turns.{Turn, turn, Grounded, turn_grounded, turn_tests, turn_tables, turn_section, turn_remark, turn_plain, turn_test, turn_else, turn_end_test, turn_table, turn_end_table}

-- ---- the checks from a place on

-- A template within the checks is no longer than a template may be.
pub checks_short : {t : List ℕ} → Checks t → length t ≤ 32768
checks_short {t} c = short_by_bytes t c.bytes

passed : (b : Bool) (v : Option ℕ) (n : ℕ) → cond b v (Some n) ≡ None → (b ≡ true) × (v ≡ None)
passed true v n e = (refl, e)
passed false v n e = absurd (let z : ◌≡◌ {A = ℕ} 0 1 = cc in omega arith)

module _ {t : List ℕ} where
  -- a check of each line by itself goes on finding nothing
  rest_fine : (passes : List ℕ → Bool) → first_fault passes 1 (lines_of t) ≡ None → {at n : ℕ} {M : List Mark} → OpenBefore t at n M → first_fault passes (suc n) (lines_of (drop at t)) ≡ None
  unfolding first_fault
  rest_fine passes c at_first = c
  rest_fine passes c (at_next {at} {n} o h e) =
      (passed (passes (line_at t at)) (first_fault passes (suc (suc n)) (lines_of (drop (next_line t at) t))) (suc n) (rw (lines_more t at h) at (rest_fine passes c o))).1

  line_passes : (passes : List ℕ → Bool) → first_fault passes 1 (lines_of t) ≡ None → {at n : ℕ} {M : List Mark} → OpenBefore t at n M → at < length t → passes (line_at t at) ≡ true
  unfolding first_fault
  line_passes passes c {at} {n} o h =
      (passed (passes (line_at t at)) (first_fault passes (suc (suc n)) (lines_of (drop (next_line t at) t))) (suc n) (rw (lines_more t at h) at (rest_fine passes c o))).0

  -- check 4 from a place on, with what is open there
  rest_nested : {at n : ℕ} {M : List Mark} → OpenBefore t at n M → walk nest_step nest_end M n (lines_of (drop at t)) ≡ nest_check t
  unfolding nest_check walk or_else
  rest_nested at_first = refl
  rest_nested (at_next {at} o h e) = sym (rw (lines_more t at h, e)) ∙ rest_nested o

  steps_on : {at n : ℕ} {M : List Mark} → nest_check t ≡ None → OpenBefore t at n M → at < length t → (M' : List Mark) × (nest_step M (line_at t at) ≡ Some M')
  unfolding walk or_else
  steps_on {at} {n} {M} c o h = go (nest_step M (line_at t at)) refl (rw (lines_more t at h) at (rest_nested o ∙ c))
    where
      go : (r : Option (List Mark)) → nest_step M (line_at t at) ≡ r → or_else (nest_step M (line_at t at)) (λ M'. walk nest_step nest_end M' (suc n) (lines_of (drop (next_line t at) t))) (Some (suc n)) ≡ None → (M' : List Mark) × (nest_step M (line_at t at) ≡ Some M')
      go (Some M') e k = (M', e)
      go None e k = absurd (let z : ◌≡◌ {A = ℕ} 0 1 = cc (rw e at k) in omega arith)

  -- at the template's end
  ends_closed : {at n : ℕ} {M : List Mark} → nest_check t ≡ None → OpenBefore t at n M → length t ≤ at → all_closed M ≡ true
  unfolding walk nest_end
  ends_closed {at} {n} {M} c o h = (passed (all_closed M) None n (rw (lines_none t at h) at (rest_nested o ∙ c))).0

-- ---- the line at a place

short_line : (l : List ℕ) → line_allowed l ≡ true → length l ≤ 132
unfolding line_allowed
short_line l h = go (leb (length l) 132) refl h
  where
    go : (b : Bool) → leb (length l) 132 ≡ b → (b && all_allowed l) ≡ true → length l ≤ 132
    go true e k = leb-true (length l) 132 e
    go false e k = absurd (false≢true k)

-- what is known of the line at a place before which M is open
pub record LineOpen (t : List ℕ) (at : ℕ) (M : List Mark) : Type 0 where
  pub short : length (line_at t at) ≤ 132
  pub formed : is_formed (line_at t at) ≡ true
  pub parsed : parse_line (line_at t at) ≡ None → ⊥
  pub marks : List Mark
  pub steps : nest_step M (line_at t at) ≡ Some marks

-- A line before the template's end is short and has a form, and its nesting isn't at fault.
pub opens_line : {t : List ℕ} {at n : ℕ} {M : List Mark} → Checks t → OpenBefore t at n M → at < length t → LineOpen t at M
unfolding form_check
opens_line {t} {at} {n} {M} c o h =
    let f = line_passes is_formed c.forms o h in
    let (M', e) = steps_on c.nesting o h in
    record {
      short = short_line (line_at t at) (line_passes line_allowed (sym (not_too_long t (checks_short c)) ∙ c.bytes) o h);
      formed = f;
      parsed = formed (line_at t at) f;
      marks = M';
      steps = e;
    }

-- The line behind an executed line.
pub opens_next : {t : List ℕ} {at n : ℕ} {M : List Mark} → (c : Checks t) (o : OpenBefore t at n M) (h : at < length t) → OpenBefore t (next_line t at) (suc n) (opens_line c o h).marks
opens_next c o h = at_next o h (opens_line c o h).steps

-- Nothing but a section is open at the template's end.
pub opens_closed : {t : List ℕ} {at n : ℕ} {M : List Mark} → Checks t → OpenBefore t at n M → length t ≤ at → all_closed M ≡ true
opens_closed c o h = ends_closed c.nesting o h

-- While a test or a table is open the template doesn't end.
pub open_inside : {t : List ℕ} {at n : ℕ} {M : List Mark} → Checks t → OpenBefore t at n M → all_closed M ≡ false → at < length t
open_inside {t} {at} c o k = by (leb (length t) at) refl
  where
    by : (b : Bool) → leb (length t) at ≡ b → at < length t
    by true e = absurd (false≢true (sym k ∙ opens_closed c o (leb-true (length t) at e)))
    by false e = omega (arith, leb-false (length t) at e)

-- ---- what is open

-- as many lines as bytes at most stand before a place; 10 tests and 5 tables at most are open
pub record Few (at n : ℕ) (M : List Mark) : Type 0 where
  pub lines : n ≤ at
  pub few_tests : tests_open M ≤ 10
  pub few_tables : tables_open M ≤ 5
  pub grounded : Grounded M

-- The cases of a line whose nesting isn't at fault.
pub line_turn : (l : List ℕ) {M M' : List Mark} → nest_step M l ≡ Some M' → Turn (shape_of l) M M'
unfolding nest_step
line_turn l {M} {M'} e = turn (shape_of l) M M' e

-- What is open at a place is within the limits.
pub opens_few : {t : List ℕ} {at n : ℕ} {M : List Mark} → OpenBefore t at n M → Few at n M
unfolding tests_open tables_open Grounded
opens_few {t} at_first = record { lines = omega arith; few_tests = omega arith; few_tables = omega arith; grounded = tt }
opens_few {t} (at_next {at} o h e) =
    let w = line_turn (line_at t at) e in
    let i = opens_few o in
    record {
      lines = omega (arith, i.lines);
      few_tests = turn_tests w i.few_tests;
      few_tables = turn_tables w i.few_tables;
      grounded = turn_grounded w i.grounded;
    }

-- ---- the line at a place by its shape

module _ {t : List ℕ} {at n : ℕ} {M : List Mark} (c : Checks t) (o : OpenBefore t at n M) (h : at < length t) where
  the_turn : Turn (shape_of (line_at t at)) M (opens_line c o h).marks
  the_turn = line_turn (line_at t at) (opens_line c o h).steps

  behind_as : {M' : List Mark} → (opens_line c o h).marks ≡ M' → OpenBefore t (next_line t at) (suc n) M'
  behind_as e = subst (OpenBefore t (next_line t at) (suc n)) e (opens_next c o h)

  -- Behind a $SEC its section is open; no table is open before it.
  pub behind_section : shape_of (line_at t at) ≡ Section → OpenBefore t (next_line t at) (suc n) (section ∷ []) × (tables_open M ≡ 0)
  behind_section e = let w = turn_section (rw e at the_turn) (opens_few o).grounded in (behind_as w.0, w.1)

  -- Behind a $REM the same is open.
  pub behind_remark : shape_of (line_at t at) ≡ Remark → OpenBefore t (next_line t at) (suc n) M
  behind_remark e = behind_as (turn_remark (rw e at the_turn))

  -- Behind a line that opens and closes nothing the same is open.
  pub behind_plain : shape_of (line_at t at) ≡ Plain → OpenBefore t (next_line t at) (suc n) M
  behind_plain e = behind_as (turn_plain (rw e at the_turn))

  -- Behind a test it is open.
  pub behind_test : shape_of (line_at t at) ≡ Test → OpenBefore t (next_line t at) (suc n) (test ∷ M)
  behind_test e = behind_as (turn_test (rw e at the_turn))

  -- A $ELSE stands in a test, and behind it the test is in its $ELSE part.
  pub behind_else : shape_of (line_at t at) ≡ Else → (M'' : List Mark) × (M ≡ test ∷ M'') × OpenBefore t (next_line t at) (suc n) (else_part ∷ M'')
  behind_else e = let (r, k, l) = turn_else (rw e at the_turn) in (r, k, behind_as l)

  -- A $ENDIF stands in a test, and behind it the test isn't open.
  pub behind_end_test : shape_of (line_at t at) ≡ EndTest → (M'' : List Mark) × ((M ≡ test ∷ M'') ⊎ (M ≡ else_part ∷ M'')) × OpenBefore t (next_line t at) (suc n) M''
  behind_end_test e = ((opens_line c o h).marks, turn_end_test (rw e at the_turn), opens_next c o h)

  -- There is room for a table that is begun, and behind its $BT it is open.
  pub behind_table : shape_of (line_at t at) ≡ Table → OpenBefore t (next_line t at) (suc n) (table ∷ M) × (tables_open M < 5)
  behind_table e = let w = turn_table (rw e at the_turn) in (behind_as w.0, w.1)

  -- A $ET stands in a table, and behind it the table isn't open.
  pub behind_end_table : shape_of (line_at t at) ≡ EndTable → (M'' : List Mark) × (M ≡ table ∷ M'') × OpenBefore t (next_line t at) (suc n) M''
  behind_end_table e = ((opens_line c o h).marks, turn_end_table (rw e at the_turn), opens_next c o h)

-- ---- where lines start

-- where the line behind n lines starts
line_start : List ℕ → ℕ → ℕ
line_start t zero = 0
line_start t (suc n) = next_line t (line_start t n)

starts : {t : List ℕ} {at n : ℕ} {M : List Mark} → OpenBefore t at n M → at ≡ line_start t n
unfolding line_start
starts at_first = refl
starts {t} (at_next o h e) = ap (next_line t) (starts o)

starts_rise : (t : List ℕ) (i k : ℕ) → line_start t i ≤ line_start t (i + k)
unfolding line_start
starts_rise t i zero = let e : i + 0 ≡ i = omega arith in omega (arith, ap (line_start t) e)
starts_rise t i (suc k) = let e : i + suc k ≡ suc (i + k) = omega arith in omega (arith, starts_rise t i k, ap (line_start t) e)

-- A line ends before any line behind it starts.
pub line_before : {t : List ℕ} {at e n k : ℕ} {M W : List Mark} → OpenBefore t at n M → OpenBefore t e k W → at < e → next_line t at ≤ e
unfolding line_start
line_before {t} {at} {e} {n} {k} o p h = go (leb (suc n) k) refl
  where
    go : (b : Bool) → leb (suc n) k ≡ b → next_line t at ≤ e
    go true l =
        let m : suc n + (k - suc n) ≡ k = omega (arith, leb-true (suc n) k l) in
        omega (arith, starts_rise t (suc n) (k - suc n), ap (line_start t) m, ap (next_line t) (starts o), starts p)
    go false l =
        let m : k + (n - k) ≡ n = omega (arith, leb-false (suc n) k l) in
        absurd (omega (arith, starts_rise t k (n - k), ap (line_start t) m, starts o, starts p))
