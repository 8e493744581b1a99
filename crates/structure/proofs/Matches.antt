-- The search by depth finds the match: where checks 2 to 4 accept, behind a test, an $ELSE or a $BT.
use Rattle.std.specs.Prelude.{Option, Some}
use mathlib.Core.Path.{◌≡◌, refl, sym, ap, ◌∙◌, subst}
use mathlib.Core.Bool.{Bool, true, false, cond}
use mathlib.Core.List.{List, ◌∷◌}
use Prim.Native.Nat.{ℕ, zero, suc, ◌+◌, ◌≤◌, ◌<◌, min}
use native.Mathlib.Omega.{arith}
use borrow.Author.Tests.{le-ltb, ltb-true, ltb-false}
use lib.Dec.{ltb}
use lib.ListN.{length, drop, length-drop}
use Rattle.scan.specs.Line.{line_at, next_line}
use Rattle.nesting.specs.Nest.{Mark, test, else_part}
use Rattle.template.specs.declared.seek.Sought.{Sought}
use Rattle.template.specs.declared.seek.Sought.TheVariants.{Branch, TestEnd, TableEnd}
use Rattle.template.specs.declared.seek.Skip.{Skip}
use Rattle.template.specs.Lines.{lines_of}
use Rattle.template.specs.Checks.{nest_step}
use Rattle.template.specs.Seek.{or_skip, skip_from, cut_to, skipped}
use Rattle.template.specs.Opening.{OpenBefore, Checks}
use Rattle.template.proofs.LineLaws.{lines_more}
use Rattle.template.proofs.Opening.{checks_short, opens_line, opens_next, open_inside, line_turn}
use Rattle.template.proofs.WordForm.{shape_by_word}
use Rattle.template.proofs.Matching.{Over, here, a_test, an_other, a_table, top_of, depth_of, Lands, behind_end, behind_else, Went, on, landed, over_open, search_step}
use Rattle.structure.specs.Matching.{Around, closed, turned, MatchedBy, this, later}

-- ---- while something is open inside, the match is not met

over_longer : {top : Mark} {M W : List Mark} {a d : ℕ} → Over top M a d W → length M < length W
over_longer here = omega arith
over_longer (a_test o) = omega (arith, over_longer o)
over_longer (an_other o) = omega (arith, over_longer o)
over_longer (a_table o) = omega (arith, over_longer o)

over_other : {M W : List Mark} {a d : ℕ} → Over test M a d (else_part ∷ W) → length M < length W
over_other (an_other o) = over_longer o

not_around : (q : Sought) {M W : List Mark} {a d : ℕ} → Over (top_of q) M a d W → Around M q W → ⊥
not_around q o (closed q') = omega (arith, over_longer o)
not_around q o turned = omega (arith, over_other o)

lands_around : {q : Sought} {M X : List Mark} → Lands M q X → Around M q X
lands_around {q} behind_end = closed q
lands_around behind_else = turned

-- ---- the search

-- from some bytes and lines on, the search passes what the match says
record Meets (q : Sought) (M W : List Mark) (ls : List (List ℕ)) (b m : ℕ) (k : Skip) : Type 0 where
  bytes : ℕ
  lines : ℕ
  matched : MatchedBy q M W ls bytes lines
  bytes_are : k.bytes ≡ b + bytes
  lines_are : k.lines ≡ m + lines

module _ (q : Sought) {M : List Mark} where
  behind_line : {w : (Option ℕ)} {W X : List Mark} (l : List ℕ) (ls : List (List ℕ)) (b m : ℕ) → Went q M w X → nest_step W l ≡ Some X → ((a d : ℕ) → Over (top_of q) M a d X → Meets q M X ls (b + length l + 1) (suc m) (skip_from q (depth_of q a d) (b + length l + 1) (suc m) ls)) → Meets q M W (l ∷ ls) b m (or_skip w (λ k. skip_from q k (b + length l + 1) (suc m) ls) (record { bytes = b + length l + 1; lines = suc m }))
  unfolding or_skip
  behind_line {W = W} {X = X} l ls b m (on {a} {b = d} v) e more =
      let i = more a d v in
      record {
        bytes = length l + 1 + i.bytes;
        lines = 1 + i.lines;
        matched = later W X l ls i.bytes i.lines e (not_around q v) i.matched;
        bytes_are = omega (arith, i.bytes_are);
        lines_are = omega (arith, i.lines_are);
      }
  behind_line {W = W} {X = X} l ls b m (landed x) e more =
      record { bytes = length l + 1; lines = 1; matched = this W X l ls e (lands_around x); bytes_are = omega arith; lines_are = omega arith }

  module _ {t : List ℕ} (c : Checks t) where
    search_meets : (f b m : ℕ) {p j a d : ℕ} {W : List Mark} → length t ≤ p + f → OpenBefore t p j W → Over (top_of q) M a d W → Meets q M W (lines_of (drop p t)) b m (skip_from q (depth_of q a d) b m (lines_of (drop p t)))
    unfolding skip_from
    search_meets zero b m h o v = absurd (omega (arith, open_inside c o (over_open q v).1))
    search_meets (suc f) b m {p} h o v =
        let k = open_inside c o (over_open q v).1 in
        let i = opens_line c o k in
        rw (lines_more t p k, shape_by_word (line_at t p) i.formed)
        (behind_line (line_at t p) (lines_of (drop (next_line t p) t)) b m (search_step q (line_turn (line_at t p) i.steps) v) i.steps
        (λ a d u. search_meets f (b + length (line_at t p) + 1) (suc m) (omega arith) (opens_next c o k) u))

depth_none : (q : Sought) → depth_of q 0 0 ≡ 0
unfolding depth_of
depth_none Branch = refl
depth_none TestEnd = refl
depth_none TableEnd = refl

-- Where checks 2 to 4 accept, behind a test (or its $ELSE, or a $BT) in M, the search passes what lies up to the match.
pub search_is_match : {t : List ℕ} {M : List Mark} {at n : ℕ} → Checks t → (q : Sought) → OpenBefore t at n (top_of q ∷ M) → MatchedBy q M (top_of q ∷ M) (lines_of (drop at t)) (skip_from q 0 0 0 (lines_of (drop at t))).bytes (skip_from q 0 0 0 (lines_of (drop at t))).lines
search_is_match {t} {M} {at} c q o =
    let k : Skip = skip_from q 0 0 0 (lines_of (drop at t)) in
    let j = search_meets q c (length t) 0 0 (omega arith) o here in
    let i : Meets q M (top_of q ∷ M) (lines_of (drop at t)) 0 0 k = subst (λ (d : ℕ). Meets q M (top_of q ∷ M) (lines_of (drop at t)) 0 0 (skip_from q d 0 0 (lines_of (drop at t)))) (depth_none q) j in
    let b : i.bytes ≡ k.bytes = omega (arith, i.bytes_are) in
    let m : i.lines ≡ k.lines = omega (arith, i.lines_are) in
    subst (λ (x : ℕ). MatchedBy q M (top_of q ∷ M) (lines_of (drop at t)) x k.lines) b
    (subst (λ (x : ℕ). MatchedBy q M (top_of q ∷ M) (lines_of (drop at t)) i.bytes x) m i.matched)

-- what is passed of a part s: the lines up to the match, and their bytes, or the part's where its last line lacks its line end
pub record Passes (q : Sought) (M W : List Mark) (s : List ℕ) (k : Skip) : Type 0 where
  pub bytes : ℕ
  pub matched : MatchedBy q M W (lines_of s) bytes k.lines
  pub passed : k.bytes ≡ min bytes (length s)

-- The same of the search as a run makes it, in the part of the template that starts there.
pub skipped_is_match : {t : List ℕ} {M : List Mark} {at n : ℕ} → Checks t → (q : Sought) → OpenBefore t at n (top_of q ∷ M) → Passes q M (top_of q ∷ M) (drop at t) (skipped (drop at t) q)
unfolding skipped cut_to
skipped_is_match {t} {M} {at} c q o =
    rw (le-ltb 32768 (length (drop at t)) (omega (arith, checks_short c, length-drop at t)))
    (cut (skip_from q 0 0 0 (lines_of (drop at t))) (search_is_match c q o))
  where
    cut : (k : Skip) → MatchedBy q M (top_of q ∷ M) (lines_of (drop at t)) k.bytes k.lines → Passes q M (top_of q ∷ M) (drop at t) (cond (ltb (length (drop at t)) k.bytes) (record { bytes = length (drop at t); lines = k.lines }) k)
    cut k m = by (ltb (length (drop at t)) k.bytes) refl
      where
        by : (b : Bool) → ltb (length (drop at t)) k.bytes ≡ b → Passes q M (top_of q ∷ M) (drop at t) (cond b (record { bytes = length (drop at t); lines = k.lines }) k)
        by true e = record { bytes = k.bytes; matched = m; passed = omega (arith, ltb-true (length (drop at t)) k.bytes e) }
        by false e = record { bytes = k.bytes; matched = m; passed = omega (arith, ltb-false (length (drop at t)) k.bytes e) }

same_marks : {x y : List Mark} → Some x ≡ Some y → x ≡ y
same_marks e = cc

-- There is one match at most.
pub matched_one : {q : Sought} {M W : List Mark} {ls : List (List ℕ)} {b k b' k' : ℕ} → MatchedBy q M W ls b k → MatchedBy q M W ls b' k' → (b ≡ b') × (k ≡ k')
matched_one (this W X l ls e a) (this W' X' l' ls' e' a') = (refl, refl)
matched_one {q} {M} (this W X l ls e a) (later W' X' l' ls' b k e' n m) = absurd (n (subst (Around M q) (same_marks (sym e ∙ e')) a))
matched_one {q} {M} (later W X l ls b k e n m) (this W' X' l' ls' e' a') = absurd (n (subst (Around M q) (same_marks (sym e' ∙ e)) a'))
matched_one {q} {M} (later W X l ls b k e n m) (later W' X' l' ls' b' k' e' n' m') =
    let i = matched_one m (subst (λ (Y : List Mark). MatchedBy q M Y ls b' k') (same_marks (sym e' ∙ e)) m') in
    (ap (λ (x : ℕ). length l + 1 + x) i.0, ap (λ (x : ℕ). 1 + x) i.1)
