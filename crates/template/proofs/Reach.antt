-- How far a search for a matching line goes: no further than the part that it is handed, and over no more lines than bytes.
use Rattle.std.specs.Prelude.{Option, Some, None}
use mathlib.Core.Path.{◌≡◌, refl, ap, ◌∙◌}
use mathlib.Core.Bool.{Bool, true, false, cond}
use mathlib.Core.List.{List, [], ◌∷◌}
use Prim.Native.Nat.{ℕ, zero, suc, ◌+◌, ◌-◌, ◌≤◌}
use native.Mathlib.Omega.{arith}
use borrow.Author.Tests.{ltb-false}
use lib.Dec.{ltb}
use lib.ListN.{length, take, drop, length-drop}
use lib.Seq.{take_all}
use Rattle.scan.specs.Line.{line_of}
use Rattle.template.specs.declared.seek.Sought.{Sought}
use Rattle.template.specs.declared.seek.Skip.{Skip}
use Rattle.template.specs.Lines.{lines_within, lines_of}
use Rattle.template.specs.Shape.{word_shape}
use Rattle.template.specs.Seek.{role_of, way_past, or_skip, skip_from, cut_to, skipped}

-- a template has no more lines than bytes
lines_few : (k : ℕ) (s : List ℕ) → length (lines_within k s) ≤ k
unfolding lines_within
lines_few zero s = omega arith
lines_few (suc k) [] = omega arith
lines_few (suc k) (b ∷ s) = omega (arith, lines_few k (drop (length (line_of (b ∷ s)) + 1) (b ∷ s)))

-- behind `at` bytes and n lines, of some lines: no more are passed over than there are, nor than bytes
record Passed (at n there : ℕ) (k : Skip) : Type 0 where
  few : k.lines ≤ n + there
  lines : k.lines + at ≤ k.bytes + n

skip_passed : (q : Sought) (d at n : ℕ) (ls : List (List ℕ)) → Passed at n (length ls) (skip_from q d at n ls)
unfolding skip_from or_skip
skip_passed q d at n [] = record { few = omega arith; lines = omega arith }
skip_passed q d at n (l ∷ ls) = go (λ k. skip_passed q k (at + length l + 1) (suc n) ls) (way_past (role_of q (word_shape l)) d)
  where
    go : ((k : ℕ) → Passed (at + length l + 1) (suc n) (length ls) (skip_from q k (at + length l + 1) (suc n) ls)) → (w : Option ℕ) → Passed at n (length (l ∷ ls)) (or_skip w (λ k. skip_from q k (at + length l + 1) (suc n) ls) (record { bytes = at + length l + 1; lines = suc n }))
    go more (Some k) =
        let i = more k in
        record { few = omega (arith, i.few); lines = omega (arith, i.lines) }
    go more None = record { few = omega arith; lines = omega arith }

-- a skip lies in a part of so many bytes
pub record Inside (most : ℕ) (k : Skip) : Type 0 where
  pub bytes : k.bytes ≤ most
  pub lines : k.lines ≤ k.bytes

at_most : (most : ℕ) (k : Skip) → k.lines ≤ k.bytes → k.lines ≤ most → Inside most (cut_to most k)
unfolding cut_to
at_most most k h l = go (ltb most k.bytes) refl
  where
    go : (b : Bool) → ltb most k.bytes ≡ b → Inside most (cond b (record { bytes = most; lines = k.lines }) k)
    go true e = record { bytes = omega arith; lines = l }
    go false e = record { bytes = ltb-false most k.bytes e; lines = h }

-- A search stays in the part that it is handed, and passes over no more lines than bytes.
pub skip_inside : (t : List ℕ) (q : Sought) → Inside (length t) (skipped t q)
unfolding skipped lines_of
skip_inside t q = go (ltb 32768 (length t))
  where
    go : (b : Bool) → Inside (length t) (cond b (record { bytes = 0; lines = 0 }) (cut_to (length t) (skip_from q 0 0 0 (lines_within (length t) t))))
    go true = record { bytes = omega arith; lines = omega arith }
    go false =
        let i = skip_passed q 0 0 0 (lines_within (length t) t) in
        at_most (length t) (skip_from q 0 0 0 (lines_within (length t) t)) (omega (arith, i.lines)) (omega (arith, i.few, lines_few (length t) t))

-- The same of what the code found.
pub found_inside : (t : List ℕ) (q : Sought) (k : Skip) → k ≡ skipped t q → Inside (length t) k
found_inside t q k e = rw e (skip_inside t q)

-- A search from a place of the template ends in the template.
pub skip_place : (t : List ℕ) (q : Sought) (at : ℕ) → at ≤ length t → at + (skipped (drop at t) q).bytes ≤ length t
skip_place t q at h = omega (arith, (skip_inside (drop at t) q).bytes, length-drop at t)

-- The part of a template from a place on, as the code hands it to the search.
pub part_skip : (t : List ℕ) (q : Sought) (at : ℕ) (k : Skip) → k ≡ skipped (take (length t - at) (drop at t)) q → k ≡ skipped (drop at t) q
part_skip t q at k e = e ∙ ap (λ (s : List ℕ). skipped s q) (take_all (length t - at) (drop at t) (omega (arith, length-drop at t)))
