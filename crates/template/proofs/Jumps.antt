-- Where a failed test, an executed $ELSE and a skipped table go on: behind the line that closes or turns what they stand in,
-- and no section is passed on the way.
use Rattle.std.specs.Prelude.{Option}
use mathlib.Core.Path.{◌≡◌, refl, sym, ap, subst, ◌∙◌}
use mathlib.Core.Bool.{Bool, true, false, cond}
use mathlib.Core.List.{List, ◌∷◌}
use mathlib.Core.Logic.{◌⊎◌, inl, inr, ⊎_elim}
use Prim.Native.Nat.{ℕ, zero, suc, ◌+◌, ◌-◌, ◌<◌, ◌≤◌}
use native.Mathlib.Omega.{arith}
use borrow.Author.Tests.{leb-true, leb-false, ltb-true, le-ltb}
use lib.Dec.{leb, ltb}
use lib.ListN.{length, take, drop, length-drop}
use Rattle.scan.specs.Line.{line_at, next_line}
use Rattle.nesting.specs.declared.Shape.TheVariants.{Section}
use Rattle.nesting.specs.Nest.{Mark, test, else_part, table}
use Rattle.template.specs.declared.seek.Sought.{Sought}
use Rattle.template.specs.declared.seek.Sought.TheVariants.{Branch, TestEnd, TableEnd}
use Rattle.template.specs.declared.seek.Skip.{Skip}
use Rattle.template.specs.Lines.{lines_of}
use Rattle.template.specs.Shape.{shape_of}
use Rattle.template.specs.Seek.{or_skip, skip_from, cut_to, skipped}
use Rattle.template.specs.Opening.{OpenBefore, Checks}
use Rattle.template.proofs.LineLaws.{lines_more}
use Rattle.template.proofs.Reach.{Inside, skip_inside, part_skip}
use Rattle.template.proofs.Opening.{checks_short, opens_line, opens_next, open_inside, line_turn, line_before}
use Rattle.template.proofs.WordForm.{shape_by_word}
use Rattle.template.proofs.Accepted.{RunEnd, at_end, at_section}
use Rattle.template.proofs.Matching.{Over, here, top_of, depth_of, Lands, behind_end, behind_else, Went, on, landed, over_open, search_step, search_inside}

-- a section that isn't before a line that is none lies behind it
section_behind : {t : List ℕ} {p j e i : ℕ} {W X : List Mark} → OpenBefore t p j W → (shape_of (line_at t p) ≡ Section → ⊥) → OpenBefore t e i X → shape_of (line_at t e) ≡ Section → p ≤ e → next_line t p ≤ e
section_behind {t} {p} {j} {e} o none v s h = by (leb (suc p) e) refl
  where
    by : (b : Bool) → leb (suc p) e ≡ b → next_line t p ≤ e
    by true l = line_before o v (leb-true (suc p) e l)
    by false l =
        let same : e ≡ p = omega (arith, leb-false (suc p) e l) in
        absurd (none (ap (λ (x : ℕ). shape_of (line_at t x)) (sym same) ∙ s))

moved : {t : List ℕ} {at to n m : ℕ} {M : List Mark} → OpenBefore t at n M → at ≡ to → n ≡ m → OpenBefore t to m M
moved {t} {at} {to} {n} {m} {M} o e k = subst (λ (x : ℕ). OpenBefore t x m M) e (subst (λ (x : ℕ). OpenBefore t at x M) k o)

-- from one place to another no section is passed
abbrev pub Stays : List ℕ → ℕ → ℕ → Type 0
Stays t from to = (e i : ℕ) (W : List Mark) → OpenBefore t e i W → shape_of (line_at t e) ≡ Section → from ≤ e → to ≤ e

-- ---- the lines of a search

-- `at` and n are the place and the count of lines before the search; the line behind the match, and what is open there
record Landing (t : List ℕ) (q : Sought) (M : List Mark) (at n from : ℕ) (k : Skip) : Type 0 where
  marks : List Mark
  lands : Lands M q marks
  opens : OpenBefore t (at + k.bytes) (n + k.lines) marks
  stays : Stays t from (at + k.bytes)

module _ {t : List ℕ} (q : Sought) {M : List Mark} (at n p b m : ℕ) where
  -- behind a line: on, or at the match
  behind_line : {w : (Option ℕ)} {X : List Mark} → Went q M w X → next_line t p ≡ at + (b + length (line_at t p) + 1) → OpenBefore t (at + (b + length (line_at t p) + 1)) (n + suc m) X → Stays t p (next_line t p) → ((a d : ℕ) → Over (top_of q) M a d X → Landing t q M at n (next_line t p) (skip_from q (depth_of q a d) (b + length (line_at t p) + 1) (suc m) (lines_of (drop (next_line t p) t)))) → Landing t q M at n p (or_skip w (λ k. skip_from q k (b + length (line_at t p) + 1) (suc m) (lines_of (drop (next_line t p) t))) (record { bytes = b + length (line_at t p) + 1; lines = suc m }))
  unfolding or_skip
  behind_line (on {a} {b = d} v) z o s more =
      let i = more a d v in
      record { marks = i.marks; lands = i.lands; opens = i.opens; stays = λ e k W u x l. i.stays e k W u x (s e k W u x l) }
  behind_line {X = X} (landed x) z o s more = record { marks = X; lands = x; opens = o; stays = λ e k W u y l. omega (arith, s e k W u y l) }

  module _ {j : ℕ} {W : List Mark} (c : Checks t) (o : OpenBefore t p j W) (e : p ≡ at + b) (k : j ≡ n + m) (h : p < length t) {a d : ℕ} (v : Over (top_of q) M a d W) where
    -- a line, with what the search does behind it
    at_line : ((a d : ℕ) → Over (top_of q) M a d (opens_line c o h).marks → Landing t q M at n (next_line t p) (skip_from q (depth_of q a d) (b + length (line_at t p) + 1) (suc m) (lines_of (drop (next_line t p) t)))) → Landing t q M at n p (skip_from q (depth_of q a d) b m (lines_of (drop p t)))
    unfolding skip_from
    at_line more =
        let w = line_turn (line_at t p) (opens_line c o h).steps in
        let z : next_line t p ≡ at + (b + length (line_at t p) + 1) = omega arith in
        let y : suc j ≡ n + suc m = omega arith in
        rw (lines_more t p h, shape_by_word (line_at t p) (opens_line c o h).formed) (behind_line (search_step q w v) z (moved (opens_next c o h) z y) (λ r i W' u x l. section_behind o (search_inside q w v) u x l) more)

module _ {t : List ℕ} (c : Checks t) (q : Sought) {M : List Mark} (at n : ℕ) where
  search_from : (f b m : ℕ) {p j a d : ℕ} {W : List Mark} → length t ≤ p + f → OpenBefore t p j W → p ≡ at + b → j ≡ n + m → Over (top_of q) M a d W → Landing t q M at n p (skip_from q (depth_of q a d) b m (lines_of (drop p t)))
  search_from zero b m l o e k v = absurd (omega (arith, open_inside c o (over_open q v).1))
  search_from (suc f) b m {p} {j} l o e k v =
      let h = open_inside c o (over_open q v).1 in
      at_line q at n p b m c o e k h v (λ a d i. search_from f (b + length (line_at t p) + 1) (suc m) (omega arith) (opens_next c o h) (omega arith) (omega arith) i)

-- ---- jumps

-- A jump from a place with n lines before it: where it goes on, and what is open there.
pub record Jump (t : List ℕ) (q : Sought) (M : List Mark) (at n : ℕ) (k : Skip) : Type 0 where
  -- it ends in the template, and passes no section and no more lines than bytes
  pub inside : at + k.bytes ≤ length t
  pub lines : k.lines ≤ k.bytes
  pub stays : Stays t at (at + k.bytes)
  -- the line behind the match would start here
  pub behind : ℕ
  pub marks : List Mark
  pub lands : Lands M q marks
  pub found : OpenBefore t behind (n + k.lines) marks
  -- it goes on there, unless the match was the last line
  pub goes : (length t ≤ at + k.bytes) ⊎ OpenBefore t (at + k.bytes) (n + k.lines) marks

depth_none : (q : Sought) → depth_of q 0 0 ≡ 0
unfolding depth_of
depth_none Branch = refl
depth_none TestEnd = refl
depth_none TableEnd = refl

whole : (s : List ℕ) (q : Sought) → length s ≤ 32768 → skipped s q ≡ cut_to (length s) (skip_from q 0 0 0 (lines_of s))
unfolding skipped
whole s q h = rw (le-ltb 32768 (length s) h)

-- the skip, held to the part that the search is handed
held : {t : List ℕ} {q : Sought} {M : List Mark} {at n : ℕ} (k : Skip) → Landing t q M at n at k → at < length t → Inside (length (drop at t)) (cut_to (length (drop at t)) k) → Jump t q M at n (cut_to (length (drop at t)) k)
unfolding cut_to
held {t} {q} {M} {at} {n} k i h = by (ltb (length (drop at t)) k.bytes) refl
  where
    by : (b : Bool) → ltb (length (drop at t)) k.bytes ≡ b → Inside (length (drop at t)) (cond b (record { bytes = length (drop at t); lines = k.lines }) k) → Jump t q M at n (cond b (record { bytes = length (drop at t); lines = k.lines }) k)
    by true e s =
        record {
          inside = omega (arith, length-drop at t);
          lines = s.lines;
          stays = λ p j W u x l. omega (arith, i.stays p j W u x l, ltb-true (length (drop at t)) k.bytes e);
          behind = at + k.bytes;
          marks = i.marks;
          lands = i.lands;
          found = i.opens;
          goes = inl (omega (arith, length-drop at t));
        }
    by false e s =
        record {
          inside = omega (arith, length-drop at t, s.bytes);
          lines = s.lines;
          stays = i.stays;
          behind = at + k.bytes;
          marks = i.marks;
          lands = i.lands;
          found = i.opens;
          goes = inr i.opens;
        }

-- A search from behind the line that opens or turns a mark is a jump to behind the line that closes or turns it.
pub jump : {t : List ℕ} {M : List Mark} {at n : ℕ} → Checks t → (q : Sought) → OpenBefore t at n (top_of q ∷ M) → Jump t q M at n (skipped (drop at t) q)
jump {t} {M} {at} {n} c q o =
    let e = whole (drop at t) q (omega (arith, checks_short c, length-drop at t)) in
    let i = search_from c q at n (length t) 0 0 (omega arith) o (omega arith) (omega arith) here in
    rw e (held (skip_from q 0 0 0 (lines_of (drop at t))) (rw (depth_none q) at i) (open_inside c o (over_open {M = M} q here).1) (rw e at (skip_inside (drop at t) q)))

-- The same of what the code found in the part of the template from there on.
pub found_jump : {t : List ℕ} {M : List Mark} {at n : ℕ} → Checks t → (q : Sought) → OpenBefore t at n (top_of q ∷ M) → (k : Skip) → k ≡ skipped (take (length t - at) (drop at t)) q → Jump t q M at n k
found_jump {t} {M} {at} {n} c q o k e = subst (Jump t q M at n) (sym (part_skip t q at k e)) (jump c q o)

module _ {t : List ℕ} {M : List Mark} {at n : ℕ} (c : Checks t) where
  -- A failed test.
  pub failed_test : OpenBefore t at n (test ∷ M) → Jump t Branch M at n (skipped (drop at t) Branch)
  failed_test o = jump c Branch o

  -- An executed $ELSE.
  pub executed_else : OpenBefore t at n (else_part ∷ M) → Jump t TestEnd M at n (skipped (drop at t) TestEnd)
  executed_else o = jump c TestEnd o

  -- A $BT with n below 1.
  pub skipped_table : OpenBefore t at n (table ∷ M) → Jump t TableEnd M at n (skipped (drop at t) TableEnd)
  skipped_table o = jump c TableEnd o

-- ---- what is open where a jump goes on

branch_lands : {M W : List Mark} (P : List Mark → Type 0) → Lands M Branch W → P W → P M ⊎ P (else_part ∷ M)
branch_lands P behind_end h = inl h
branch_lands P behind_else h = inr h

test_lands : {M W : List Mark} → Lands M TestEnd W → W ≡ M
test_lands behind_end = refl

table_lands : {M W : List Mark} → Lands M TableEnd W → W ≡ M
table_lands behind_end = refl

module _ {t : List ℕ} {M : List Mark} {at n : ℕ} {k : Skip} where
  -- Behind its $ENDIF a failed test isn't open; behind its $ELSE it is in its $ELSE part.
  pub failed_goes : Jump t Branch M at n k → (length t ≤ at + k.bytes) ⊎ (OpenBefore t (at + k.bytes) (n + k.lines) M ⊎ OpenBefore t (at + k.bytes) (n + k.lines) (else_part ∷ M))
  failed_goes j = ⊎_elim inl (λ (o : OpenBefore t (at + k.bytes) (n + k.lines) j.marks). inr (branch_lands (OpenBefore t (at + k.bytes) (n + k.lines)) j.lands o)) j.goes

  -- Behind its $ENDIF a test isn't open.
  pub else_goes : Jump t TestEnd M at n k → (length t ≤ at + k.bytes) ⊎ OpenBefore t (at + k.bytes) (n + k.lines) M
  else_goes j = subst (λ (W : List Mark). (length t ≤ at + k.bytes) ⊎ OpenBefore t (at + k.bytes) (n + k.lines) W) (test_lands j.lands) j.goes

  -- Behind its $ET a table isn't open.
  pub table_goes : Jump t TableEnd M at n k → (length t ≤ at + k.bytes) ⊎ OpenBefore t (at + k.bytes) (n + k.lines) M
  table_goes j = subst (λ (W : List Mark). (length t ≤ at + k.bytes) ⊎ OpenBefore t (at + k.bytes) (n + k.lines) W) (table_lands j.lands) j.goes

-- A jump stays in the run.
pub jump_before : {t : List ℕ} {q : Sought} {M : List Mark} {at n a e : ℕ} {k : Skip} → Jump t q M at n k → RunEnd t a e → at ≤ e → at + k.bytes ≤ e
jump_before j at_end h = j.inside
jump_before j (at_section s l) h = j.stays _ _ _ s.opens s.shape h
