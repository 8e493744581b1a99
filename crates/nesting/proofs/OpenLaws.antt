-- Laws of what is open, one for each way a line can be met.
use Rattle.std.specs.Prelude.{Some, None, Option}
use mathlib.Core.Path.{◌≡◌, refl, ap}
use mathlib.Core.Bool.{Bool, true, false, cond, false≢true}
use mathlib.Core.Logic.{◌⊎◌, inl, inr}
use mathlib.Core.List.{List, [], ◌∷◌}
use Prim.Native.Nat.{ℕ, zero, suc, ◌+◌, ◌-◌, ◌*◌, ◌/◌, ◌%◌, ◌<◌, ◌≤◌, zero-le}
use native.Mathlib.Omega.{arith}
use borrow.Author.Tests.{lt-ltb, le-ltb, le-leb, lt-leb, eq-eqb, ne_eqb}
use lib.Dec.{leb, ltb, eqb}
use lib.ListN.{length}
use Rattle.nesting.specs.declared.Shape.TheVariants.{Section, Test, Else, EndTest, Table, EndTable, Plain}
use Rattle.nesting.specs.Nest.{Mark, section, test, else_part, table, tests_open, tables_open, behind, all_closed, section_begun, test_turned, test_ended, table_ended, in_section}
use Rattle.nesting.specs.declared.Open.{Open}
use Rattle.nesting.specs.Inner.Open.{digit, code, Holds, Follows, deeper, step_in, Steps}

-- ---- the number of what is open fits

-- 5 to the power of n
room : ℕ → ℕ
room zero = 1
room (suc n) = room n * 5

room_rises : (n k : ℕ) → room n ≤ room (n + k)
unfolding room
room_rises n zero = let e : n + 0 ≡ n = omega arith in omega (arith, ap room e)
room_rises n (suc k) = let e : n + suc k ≡ suc (n + k) = omega arith in omega (arith, room_rises n k, ap room e)

code_room : (s : List Mark) → code s < room (length s)
unfolding code digit room
code_room [] = omega arith
code_room (section ∷ s) = omega (arith, code_room s)
code_room (test ∷ s) = omega (arith, code_room s)
code_room (else_part ∷ s) = omega (arith, code_room s)
code_room (table ∷ s) = omega (arith, code_room s)

module _ {m t b : ℕ} {s : List Mark} (h : Holds m t b s) where
  marks_fit : m < 152587890625
  unfolding room
  marks_fit =
      let k : length s + (16 - length s) ≡ 16 = omega (arith, h.short, h.few_tests, h.few_tables) in
      omega (arith, h.coded, code_room s, room_rises (length s) (16 - length s), ap room k)

-- ---- the innermost mark, by the lowest digit

module _ {m t b : ℕ} where
  next_section : (s : List Mark) → Holds m t b s → m % 5 < 2 → Follows (Some (record { marks = 1; tests = 0; tables = 0 })) (behind Section s)
  unfolding code digit Follows behind section_begun tests_open tables_open
  next_section [] h e = record { coded = refl; tested = refl; tabled = refl; few_tests = zero-le; few_tables = zero-le; short = omega arith }
  next_section (section ∷ s) h e = record { coded = refl; tested = refl; tabled = refl; few_tests = zero-le; few_tables = zero-le; short = omega arith }
  next_section (test ∷ s) h e = absurd (omega (arith, h.coded))
  next_section (else_part ∷ s) h e = absurd (omega (arith, h.coded))
  next_section (table ∷ s) h e = absurd (omega (arith, h.coded))

  open_at_section : (s : List Mark) → Holds m t b s → 2 ≤ m % 5 → Follows None (behind Section s)
  unfolding code digit Follows behind section_begun
  open_at_section [] h e = absurd (omega (arith, h.coded))
  open_at_section (section ∷ s) h e = absurd (omega (arith, h.coded))
  open_at_section (test ∷ s) h e = tt
  open_at_section (else_part ∷ s) h e = tt
  open_at_section (table ∷ s) h e = tt

  turned : (s : List Mark) → Holds m t b s → m % 5 ≡ 2 → Follows (Some (record { marks = m + 1; tests = t; tables = b })) (behind Else s)
  unfolding code digit Follows behind test_turned tests_open tables_open
  turned [] h e = absurd (omega (arith, h.coded))
  turned (section ∷ s) h e = absurd (omega (arith, h.coded))
  turned (test ∷ s) h e = record { coded = omega arith; tested = omega arith; tabled = omega arith; few_tests = omega arith; few_tables = omega arith; short = omega arith }
  turned (else_part ∷ s) h e = absurd (omega (arith, h.coded))
  turned (table ∷ s) h e = absurd (omega (arith, h.coded))

  not_turned : (s : List Mark) → Holds m t b s → (m % 5 ≡ 2 → ⊥) → Follows None (behind Else s)
  unfolding code digit Follows behind test_turned
  not_turned [] h e = tt
  not_turned (section ∷ s) h e = tt
  not_turned (test ∷ s) h e = absurd (e (omega (arith, h.coded)))
  not_turned (else_part ∷ s) h e = tt
  not_turned (table ∷ s) h e = tt

  test_left : (s : List Mark) → Holds m t b s → 2 ≤ m % 5 → m % 5 < 4 → Follows (Some (record { marks = m / 5; tests = t - 1; tables = b })) (behind EndTest s)
  unfolding code digit Follows behind test_ended tests_open tables_open
  test_left [] h e e1 = absurd (omega (arith, h.coded))
  test_left (section ∷ s) h e e1 = absurd (omega (arith, h.coded))
  test_left (test ∷ s) h e e1 = record { coded = omega arith; tested = omega arith; tabled = omega arith; few_tests = omega arith; few_tables = omega arith; short = omega arith }
  test_left (else_part ∷ s) h e e1 = record { coded = omega arith; tested = omega arith; tabled = omega arith; few_tests = omega arith; few_tables = omega arith; short = omega arith }
  test_left (table ∷ s) h e e1 = absurd (omega (arith, h.coded))

  no_test_left : (s : List Mark) → Holds m t b s → (2 ≤ m % 5 → m % 5 < 4 → ⊥) → Follows None (behind EndTest s)
  unfolding code digit Follows behind test_ended
  no_test_left [] h e = tt
  no_test_left (section ∷ s) h e = tt
  no_test_left (test ∷ s) h e = absurd (e (omega (arith, h.coded)) (omega (arith, h.coded)))
  no_test_left (else_part ∷ s) h e = absurd (e (omega (arith, h.coded)) (omega (arith, h.coded)))
  no_test_left (table ∷ s) h e = tt

  table_left : (s : List Mark) → Holds m t b s → m % 5 ≡ 4 → Follows (Some (record { marks = m / 5; tests = t; tables = b - 1 })) (behind EndTable s)
  unfolding code digit Follows behind table_ended tests_open tables_open
  table_left [] h e = absurd (omega (arith, h.coded))
  table_left (section ∷ s) h e = absurd (omega (arith, h.coded))
  table_left (test ∷ s) h e = absurd (omega (arith, h.coded))
  table_left (else_part ∷ s) h e = absurd (omega (arith, h.coded))
  table_left (table ∷ s) h e = record { coded = omega arith; tested = omega arith; tabled = omega arith; few_tests = omega arith; few_tables = omega arith; short = omega arith }

  no_table_left : (s : List Mark) → Holds m t b s → (m % 5 ≡ 4 → ⊥) → Follows None (behind EndTable s)
  unfolding code digit Follows behind table_ended
  no_table_left [] h e = tt
  no_table_left (section ∷ s) h e = tt
  no_table_left (test ∷ s) h e = tt
  no_table_left (else_part ∷ s) h e = tt
  no_table_left (table ∷ s) h e = absurd (e (omega (arith, h.coded)))

  no_test : (s : List Mark) → Holds m t b s → t ≡ 0 → Follows None (behind EndTest s)
  unfolding Follows behind test_ended tests_open
  no_test [] h e = tt
  no_test (section ∷ s) h e = tt
  no_test (test ∷ s) h e = absurd (omega (arith, h.tested))
  no_test (else_part ∷ s) h e = absurd (omega (arith, h.tested))
  no_test (table ∷ s) h e = tt

  no_table : (s : List Mark) → Holds m t b s → b ≡ 0 → Follows None (behind EndTable s)
  unfolding Follows behind table_ended tables_open
  no_table [] h e = tt
  no_table (section ∷ s) h e = tt
  no_table (test ∷ s) h e = tt
  no_table (else_part ∷ s) h e = tt
  no_table (table ∷ s) h e = absurd (omega (arith, h.tabled))

  pub closed_by : (s : List Mark) → Holds m t b s → leb (m % 5) 1 ≡ all_closed s
  unfolding code digit all_closed
  closed_by [] h = le-leb (m % 5) 1 (omega (arith, h.coded))
  closed_by (section ∷ s) h = le-leb (m % 5) 1 (omega (arith, h.coded))
  closed_by (test ∷ s) h = lt-leb (m % 5) 1 (omega (arith, h.coded))
  closed_by (else_part ∷ s) h = lt-leb (m % 5) 1 (omega (arith, h.coded))
  closed_by (table ∷ s) h = lt-leb (m % 5) 1 (omega (arith, h.coded))

-- ---- lines that need a section

digit_some : (x : Mark) → 0 < digit x
unfolding digit
digit_some section = omega arith
digit_some test = omega arith
digit_some else_part = omega arith
digit_some table = omega arith

module _ {m t b : ℕ} where
  pub unbegun : (s : List Mark) → Holds m t b s → m ≡ 0 → s ≡ []
  unfolding code
  unbegun [] h e = refl
  unbegun (x ∷ s) h e = absurd (omega (arith, h.coded, digit_some x))

  pub begun : (s : List Mark) (o : Option (List Mark)) → Holds m t b s → (m ≡ 0 → ⊥) → in_section s o ≡ o
  unfolding code in_section
  begun [] o h e = absurd (e h.coded)
  begun (x ∷ s) o h e = refl

  module _ (s : List Mark) (h : Holds m t b s) where
    no_test_more : (m ≡ 0) ⊎ ((10 ≤ t) ⊎ (152587890625 ≤ m)) → Follows None (behind Test s)
    unfolding Follows behind in_section
    no_test_more (inl e) = rw (unbegun s h e) tt
    no_test_more (inr (inl k)) = go s (cond (ltb (tests_open s) 10) (Some (test ∷ s)) None) (rw (le-ltb (tests_open s) 10 (omega (arith, h.tested))))
      where
        go : (s : List Mark) (o : Option (List Mark)) → o ≡ None → Follows None (in_section s o)
        go [] o e = tt
        go (x ∷ s) o e = rw e tt
    no_test_more (inr (inr l)) = absurd (omega (arith, marks_fit h))

    no_table_more : (m ≡ 0) ⊎ ((5 ≤ b) ⊎ (152587890625 ≤ m)) → Follows None (behind Table s)
    unfolding Follows behind in_section
    no_table_more (inl e) = rw (unbegun s h e) tt
    no_table_more (inr (inl k)) = go s (cond (ltb (tables_open s) 5) (Some (table ∷ s)) None) (rw (le-ltb (tables_open s) 5 (omega (arith, h.tabled))))
      where
        go : (s : List Mark) (o : Option (List Mark)) → o ≡ None → Follows None (in_section s o)
        go [] o e = tt
        go (x ∷ s) o e = rw e tt
    no_table_more (inr (inr l)) = absurd (omega (arith, marks_fit h))

    pub early_line : m ≡ 0 → Follows None (behind Plain s)
    unfolding Follows behind in_section
    early_line e = rw (unbegun s h e) tt

    module _ (e : m ≡ 0 → ⊥) where
      one_more_test : t < 10 → Follows (Some (record { marks = m * 5 + 2; tests = t + 1; tables = b })) (behind Test s)
      unfolding Follows behind code digit tests_open tables_open
      one_more_test k =
          rw (begun s (cond (ltb (tests_open s) 10) (Some (test ∷ s)) None) h e, lt-ltb (tests_open s) 10 (omega (arith, h.tested)))
          (record { coded = omega (arith, h.coded); tested = omega (arith, h.tested); tabled = omega (arith, h.tabled); few_tests = omega (arith, h.few_tests); few_tables = omega (arith, h.few_tables); short = omega (arith, h.short) })

      one_more_table : b < 5 → Follows (Some (record { marks = m * 5 + 4; tests = t; tables = b + 1 })) (behind Table s)
      unfolding Follows behind code digit tests_open tables_open
      one_more_table k =
          rw (begun s (cond (ltb (tables_open s) 5) (Some (table ∷ s)) None) h e, lt-ltb (tables_open s) 5 (omega (arith, h.tabled)))
          (record { coded = omega (arith, h.coded); tested = omega (arith, h.tested); tabled = omega (arith, h.tabled); few_tests = omega (arith, h.few_tests); few_tables = omega (arith, h.few_tables); short = omega (arith, h.short) })

      pub same_line : Follows (Some (record { marks = m; tests = t; tables = b })) (behind Plain s)
      unfolding Follows behind
      same_line = rw (begun s (Some s) h e) h

-- ---- the steps of the code, by the innermost mark and the numbers

digit_of_section : {A : Type 0} (n : ℕ) (x y : A) → n < 2 → x ≡ cond (eqb n 0) x (cond (eqb n 1) x y)
digit_of_section zero x y h = refl
digit_of_section (suc zero) x y h = refl
digit_of_section (suc (suc n)) x y h = absurd (omega arith)

no_digit_of_section : {A : Type 0} (n : ℕ) (x y : A) → 2 ≤ n → y ≡ cond (eqb n 0) x (cond (eqb n 1) x y)
no_digit_of_section n x y h = rw (ne_eqb n 0 (λ z. omega arith), ne_eqb n 1 (λ z. omega arith))

digit_of_test : {A : Type 0} (n : ℕ) (x y : A) → 2 ≤ n → n < 4 → x ≡ cond (eqb n 2) x (cond (eqb n 3) x y)
digit_of_test zero x y h k = absurd (omega arith)
digit_of_test (suc zero) x y h k = absurd (omega arith)
digit_of_test (suc (suc zero)) x y h k = refl
digit_of_test (suc (suc (suc zero))) x y h k = refl
digit_of_test (suc (suc (suc (suc n)))) x y h k = absurd (omega arith)

no_digit_of_test : {A : Type 0} (n : ℕ) (x y : A) → (2 ≤ n → n < 4 → ⊥) → y ≡ cond (eqb n 2) x (cond (eqb n 3) x y)
no_digit_of_test zero x y h = refl
no_digit_of_test (suc zero) x y h = refl
no_digit_of_test (suc (suc zero)) x y h = absurd (h (omega arith) (omega arith))
no_digit_of_test (suc (suc (suc zero))) x y h = absurd (h (omega arith) (omega arith))
no_digit_of_test (suc (suc (suc (suc n)))) x y h = rw (ne_eqb (suc (suc (suc (suc n)))) 2 (λ z. omega arith), ne_eqb (suc (suc (suc (suc n)))) 3 (λ z. omega arith))

module _ (state : Open) where
  pub section_step : state.marks % 5 < 2 → Steps state Section (Some (record { marks = 1; tests = 0; tables = 0 }))
  unfolding step_in
  section_step e = record { told = digit_of_section (state.marks % 5) _ _ e; follows = λ s h. next_section s h e }

  pub no_section_step : 2 ≤ state.marks % 5 → Steps state Section None
  unfolding step_in
  no_section_step e = record { told = no_digit_of_section (state.marks % 5) _ _ e; follows = λ s h. open_at_section s h e }

  pub turn_step : state.marks % 5 ≡ 2 → Steps state Else (Some (record { marks = state.marks + 1; tests = state.tests; tables = state.tables }))
  unfolding step_in
  turn_step e = record { told = rw (eq-eqb _ _ e); follows = λ s h. turned s h e }

  pub no_turn_step : (state.marks % 5 ≡ 2 → ⊥) → Steps state Else None
  unfolding step_in
  no_turn_step e = record { told = rw (ne_eqb _ _ e); follows = λ s h. not_turned s h e }

  pub test_end_step : 2 ≤ state.marks % 5 → state.marks % 5 < 4 → 0 < state.tests → Steps state EndTest (Some (record { marks = state.marks / 5; tests = state.tests - 1; tables = state.tables }))
  unfolding step_in
  test_end_step e e1 p = record { told = rw (ne_eqb state.tests 0 (λ z. omega arith)) (digit_of_test (state.marks % 5) _ _ e e1); follows = λ s h. test_left s h e e1 }

  pub untested_end_step : state.tests ≡ 0 → Steps state EndTest None
  unfolding step_in
  untested_end_step e = record { told = rw (eq-eqb _ _ e); follows = λ s h. no_test s h e }

  pub no_test_end_step : (2 ≤ state.marks % 5 → state.marks % 5 < 4 → ⊥) → Steps state EndTest None
  unfolding step_in
  no_test_end_step e = record { told = go (eqb state.tests 0) (record { marks = state.marks / 5; tests = state.tests - 1; tables = state.tables }); follows = λ s h. no_test_left s h e }
    where
      go : (t : Bool) (r : Open) → None ≡ cond t None (cond (eqb (state.marks % 5) 2) (Some r) (cond (eqb (state.marks % 5) 3) (Some r) None))
      go true r = refl
      go false r = no_digit_of_test (state.marks % 5) _ _ e

  pub table_end_step : state.marks % 5 ≡ 4 → 0 < state.tables → Steps state EndTable (Some (record { marks = state.marks / 5; tests = state.tests; tables = state.tables - 1 }))
  unfolding step_in
  table_end_step e p = record { told = rw (ne_eqb state.tables 0 (λ z. omega arith), eq-eqb _ _ e); follows = λ s h. table_left s h e }

  pub untabled_end_step : state.tables ≡ 0 → Steps state EndTable None
  unfolding step_in
  untabled_end_step e = record { told = rw (eq-eqb _ _ e); follows = λ s h. no_table s h e }

  pub no_table_end_step : (state.marks % 5 ≡ 4 → ⊥) → Steps state EndTable None
  unfolding step_in
  no_table_end_step e = record { told = go (eqb state.tables 0) (record { marks = state.marks / 5; tests = state.tests; tables = state.tables - 1 }); follows = λ s h. no_table_left s h e }
    where
      go : (t : Bool) (r : Open) → None ≡ cond t None (cond (eqb (state.marks % 5) 4) (Some r) None)
      go true r = refl
      go false r = rw (ne_eqb _ _ e)

  -- no section is open, too many are, or there are more marks than those of any list
  shut : {A : Type 0} (a b c : Bool) (r : Option A) → (a ≡ true) ⊎ ((b ≡ true) ⊎ (c ≡ true)) → None ≡ cond a None (cond b None (cond c None r))
  shut true b c r e = refl
  shut false true c r e = refl
  shut false false true r e = refl
  shut false false false r e = elim e [ inl x ↦ absurd (false≢true x) | inr y ↦ elim y [ inl x ↦ absurd (false≢true x) | inr x ↦ absurd (false≢true x) ] ]

  tested_of : (most n : ℕ) → (state.marks ≡ 0) ⊎ ((most ≤ n) ⊎ (152587890625 ≤ state.marks)) → (eqb state.marks 0 ≡ true) ⊎ ((leb most n ≡ true) ⊎ (leb 152587890625 state.marks ≡ true))
  tested_of most n (inl e) = inl (eq-eqb _ _ e)
  tested_of most n (inr (inl k)) = inr (inl (le-leb _ _ k))
  tested_of most n (inr (inr l)) = inr (inr (le-leb _ _ l))

  pub no_test_step : (state.marks ≡ 0) ⊎ ((10 ≤ state.tests) ⊎ (152587890625 ≤ state.marks)) → Steps state Test None
  unfolding step_in deeper
  no_test_step e = record { told = shut _ _ _ _ (tested_of 10 state.tests e); follows = λ s h. no_test_more s h e }

  pub test_step : (state.marks ≡ 0 → ⊥) → state.tests < 10 → state.marks < 152587890625 → Steps state Test (Some (record { marks = state.marks * 5 + 2; tests = state.tests + 1; tables = state.tables }))
  unfolding step_in deeper
  test_step e k l = record { told = rw (ne_eqb _ _ e, lt-leb _ _ k, lt-leb _ _ l); follows = λ s h. one_more_test s h e k }

  pub no_table_step : (state.marks ≡ 0) ⊎ ((5 ≤ state.tables) ⊎ (152587890625 ≤ state.marks)) → Steps state Table None
  unfolding step_in deeper
  no_table_step e = record { told = shut _ _ _ _ (tested_of 5 state.tables e); follows = λ s h. no_table_more s h e }

  pub table_step : (state.marks ≡ 0 → ⊥) → state.tables < 5 → state.marks < 152587890625 → Steps state Table (Some (record { marks = state.marks * 5 + 4; tests = state.tests; tables = state.tables + 1 }))
  unfolding step_in deeper
  table_step e k l = record { told = rw (ne_eqb _ _ e, lt-leb _ _ k, lt-leb _ _ l); follows = λ s h. one_more_table s h e k }
