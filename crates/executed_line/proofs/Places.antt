-- Where a run stands in the nesting of an accepted template, from line to line.
use mathlib.Core.Path.{◌≡◌, refl, sym, ap, ◌∙◌, subst}
use mathlib.Core.List.{List, [], ◌∷◌}
use mathlib.Core.Logic.{◌⊎◌, inl, inr}
use Prim.Native.Nat.{ℕ, suc, ◌+◌, ◌≤◌, ◌<◌}
use native.Mathlib.Omega.{arith}
use lib.ListN.{length, drop}
use Rattle.scan.specs.Line.{line_at}
use Rattle.nesting.specs.declared.Shape.TheVariants.{Section, Remark, Test, Else, EndTest, Table, EndTable, Plain}
use Rattle.nesting.specs.Nest.{Mark, section, test, else_part, table, tables_open}
use Rattle.template.specs.declared.seek.Sought.TheVariants.{Branch, TestEnd, TableEnd}
use Rattle.template.specs.Shape.{shape_of}
use Rattle.template.specs.Seek.{skipped}
use Rattle.template.specs.Opening.{OpenBefore, Checks}
use Rattle.template.proofs.Opening.{opens_few, behind_section, behind_remark, behind_plain, behind_test, behind_else, behind_end_test, behind_table, behind_end_table}
use Rattle.template.proofs.Jumps.{failed_test, executed_else, skipped_table, failed_goes, else_goes, table_goes}
use Rattle.commands.specs.declared.table.Table as C
use Rattle.commands.specs.Looping.{counted_to, innermost}
use Rattle.control.specs.Inner.Sound.{Tabled, Nested}

-- as many tables are open in the run as check 4 counts
pub tabled_few : (t : List ℕ) (ts : List C.Table) (M : List Mark) → Tabled t ts M → length ts ≡ tables_open M
unfolding tables_open
tabled_few t ts [] h = h
tabled_few t ts (section ∷ M) h = tabled_few t ts M h
tabled_few t ts (test ∷ M) h = tabled_few t ts M h
tabled_few t ts (else_part ∷ M) h = tabled_few t ts M h
tabled_few t [] (table ∷ M) h = absurd h
tabled_few t (x ∷ ts) (table ∷ M) h = ap suc (tabled_few t ts M h.3)

-- where check 4 has no table open, none is open in the run
pub none_open : (t : List ℕ) (M : List Mark) → tables_open M ≡ 0 → Tabled t [] M
unfolding tables_open
none_open t [] h = refl
none_open t (section ∷ M) h = none_open t M h
none_open t (test ∷ M) h = none_open t M h
none_open t (else_part ∷ M) h = none_open t M h
none_open t (table ∷ M) h = absurd (omega arith)

none_tabled : (t : List ℕ) (ts : List C.Table) → length ts ≡ 0 → Tabled t ts (section ∷ [])
none_tabled t ts h = h

tabled_marks : (t : List ℕ) (ts : List C.Table) {M M' : List Mark} → M ≡ M' → Tabled t ts M → Tabled t ts M'
tabled_marks t ts e h = subst (Tabled t ts) e h

-- where a jump goes on, if not at the template's end
goes_on : {t : List ℕ} {at line n : ℕ} {ts : List C.Table} {M : List Mark} → line ≡ suc n → Tabled t ts M → (length t ≤ at) ⊎ OpenBefore t at n M → at < length t → Nested t at line ts
goes_on e h (inl l) k = absurd (omega arith)
goes_on {n = n} {M = M} e h (inr o) k = record { before = n; marks = M; opens = o; number = e; tabled = h }

module _ {t : List ℕ} (c : Checks t) {at line : ℕ} {ts : List C.Table} (i : Nested t at line ts) (h : at < length t) where
  abbrev behind : ℕ
  behind = at + length (line_at t at) + 1

  stands : {M : List Mark} → OpenBefore t behind (suc i.before) M → Tabled t ts M → Nested t behind (line + 1) ts
  stands {M} o k = record { before = suc i.before; marks = M; opens = o; number = omega (arith, i.number); tabled = k }

  pub nested_few : length ts ≤ 5
  nested_few = omega (arith, tabled_few t ts i.marks i.tabled, (opens_few i.opens).few_tables)

  pub nested_line : line ≤ at + 1
  nested_line = omega (arith, i.number, (opens_few i.opens).lines)

  pub nested_plain : shape_of (line_at t at) ≡ Plain → Nested t behind (line + 1) ts
  nested_plain e = stands (behind_plain c i.opens h e) i.tabled

  pub nested_remark : shape_of (line_at t at) ≡ Remark → Nested t behind (line + 1) ts
  nested_remark e = stands (behind_remark c i.opens h e) i.tabled

  pub nested_section : shape_of (line_at t at) ≡ Section → Nested t behind (line + 1) ts
  nested_section e = let o = behind_section c i.opens h e in stands o.0 (none_tabled t ts (tabled_few t ts i.marks i.tabled ∙ o.1))

  pub nested_end_test : shape_of (line_at t at) ≡ EndTest → Nested t behind (line + 1) ts
  nested_end_test e = let o = behind_end_test c i.opens h e in stands o.2 (from o.0 o.1)
    where
      from : (M : List Mark) → (i.marks ≡ test ∷ M) ⊎ (i.marks ≡ else_part ∷ M) → Tabled t ts M
      from M (inl k) = tabled_marks t ts {M' = test ∷ M} k i.tabled
      from M (inr k) = tabled_marks t ts {M' = else_part ∷ M} k i.tabled

  -- a test that holds, and one that fails
  pub nested_test : shape_of (line_at t at) ≡ Test → Nested t behind (line + 1) ts
  nested_test e = stands (behind_test c i.opens h e) i.tabled

  pub nested_failed : shape_of (line_at t at) ≡ Test → behind + (skipped (drop behind t) Branch).bytes < length t → Nested t (behind + (skipped (drop behind t) Branch).bytes) (line + 1 + (skipped (drop behind t) Branch).lines) ts
  nested_failed e k = by (failed_goes (failed_test c (behind_test c i.opens h e)))
    where
      on : line + 1 + (skipped (drop behind t) Branch).lines ≡ suc (suc i.before + (skipped (drop behind t) Branch).lines)
      on = omega (arith, i.number)

      by : (length t ≤ behind + (skipped (drop behind t) Branch).bytes) ⊎ (OpenBefore t (behind + (skipped (drop behind t) Branch).bytes) (suc i.before + (skipped (drop behind t) Branch).lines) i.marks ⊎ OpenBefore t (behind + (skipped (drop behind t) Branch).bytes) (suc i.before + (skipped (drop behind t) Branch).lines) (else_part ∷ i.marks)) → Nested t (behind + (skipped (drop behind t) Branch).bytes) (line + 1 + (skipped (drop behind t) Branch).lines) ts
      by (inl l) = absurd (omega arith)
      by (inr (inl o)) = record { before = suc i.before + (skipped (drop behind t) Branch).lines; marks = i.marks; opens = o; number = on; tabled = i.tabled }
      by (inr (inr o)) = record { before = suc i.before + (skipped (drop behind t) Branch).lines; marks = else_part ∷ i.marks; opens = o; number = on; tabled = i.tabled }

  pub nested_else : shape_of (line_at t at) ≡ Else → behind + (skipped (drop behind t) TestEnd).bytes < length t → Nested t (behind + (skipped (drop behind t) TestEnd).bytes) (line + 1 + (skipped (drop behind t) TestEnd).lines) ts
  nested_else e k =
      let o = behind_else c i.opens h e in
      goes_on {M = o.0} (omega (arith, i.number)) (tabled_marks t ts {M' = test ∷ o.0} o.1 i.tabled) (else_goes (executed_else c o.2)) k

  -- a table that is begun, and one that is skipped
  pub nested_begun : shape_of (line_at t at) ≡ Table → (x : C.Table) → x.start ≡ behind → x.line ≡ line + 1 → Nested t behind (line + 1) (x ∷ ts)
  nested_begun e x u v =
      let o = (behind_table c i.opens h e).0 in
      record {
        before = suc i.before;
        marks = table ∷ i.marks;
        opens = o;
        number = omega (arith, i.number);
        tabled = (suc i.before, subst (λ (a : ℕ). OpenBefore t a (suc i.before) (table ∷ i.marks)) (sym u) o, omega (arith, v, i.number), i.tabled);
      }

  pub nested_room : shape_of (line_at t at) ≡ Table → length ts < 5
  nested_room e = omega (arith, tabled_few t ts i.marks i.tabled, (behind_table c i.opens h e).1)

  pub nested_skipped : shape_of (line_at t at) ≡ Table → behind + (skipped (drop behind t) TableEnd).bytes < length t → Nested t (behind + (skipped (drop behind t) TableEnd).bytes) (line + 1 + (skipped (drop behind t) TableEnd).lines) ts
  nested_skipped e k = goes_on (omega (arith, i.number)) i.tabled (table_goes (skipped_table c (behind_table c i.opens h e).0)) k

  -- at a $ET a table is open: it ends, or goes on behind its $BT
  pub nested_some : shape_of (line_at t at) ≡ EndTable → 0 < length ts
  unfolding tables_open
  nested_some e =
      let o = behind_end_table c i.opens h e in
      omega (arith, tabled_few t ts (table ∷ o.0) (tabled_marks t ts {M' = table ∷ o.0} o.1 i.tabled))

  pub nested_ended : shape_of (line_at t at) ≡ EndTable → Nested t behind (line + 1) (drop 1 ts)
  nested_ended e = let o = behind_end_table c i.opens h e in by o.0 o.2 ts (tabled_marks t ts {M' = table ∷ o.0} o.1 i.tabled)
    where
      by : (M : List Mark) → OpenBefore t behind (suc i.before) M → (xs : List C.Table) → Tabled t xs (table ∷ M) → Nested t behind (line + 1) (drop 1 xs)
      by M o [] k = absurd k
      by M o (x ∷ xs) k = record { before = suc i.before; marks = M; opens = o; number = omega (arith, i.number); tabled = k.3 }

  pub nested_again : (n : ℕ) → shape_of (line_at t at) ≡ EndTable → Nested t (innermost ts).start (innermost ts).line (counted_to (innermost ts) n ∷ drop 1 ts)
  nested_again n e = let o = behind_end_table c i.opens h e in by o.0 ts (tabled_marks t ts {M' = table ∷ o.0} o.1 i.tabled)
    where
      by : (M : List Mark) (xs : List C.Table) → Tabled t xs (table ∷ M) → Nested t (innermost xs).start (innermost xs).line (counted_to (innermost xs) n ∷ drop 1 xs)
      by M [] k = absurd k
      by M (x ∷ xs) k = record { before = k.0; marks = table ∷ M; opens = k.1; number = k.2; tabled = k }
