-- Laws of runs of bytes of a class, and of the loop that counts them.
use mathlib.Core.Path.{◌≡◌, refl, ap}
use mathlib.Core.Bool.{Bool, true, false, not, cond}
use mathlib.Core.List.{List, [], ◌∷◌}
use Prim.Native.Nat.{ℕ, zero, suc, ◌+◌, ◌<◌, ◌≤◌, zero-le}
use native.Mathlib.Numerals.{add-one}
use native.Mathlib.Omega.{arith}
use lib.ListN.{length, get_or, take, drop, drop_of_length-le, length-take, length-drop}
use lib.Seq.{drop-cons, take-nil}
use lib.Dec.{ltb}
use Rattle.std.specs.Prelude.{Option, Some, None}
use Rattle.std.specs.List.{position_or_len}
use Rattle.std.specs.Option.{unwrap_or}
use borrow.Author.Tests.{ltb-false}
use Rattle.scan.specs.declared.run.Class.{Class}
use Rattle.scan.specs.Run.{belongs, span}
use Rattle.scan.specs.Line.{byte_at}

module _ (class : Class) (l : List ℕ) (i : ℕ) where
  pub span_end : length l ≤ i → span class (drop i l) ≡ []
  unfolding span
  span_end h = rw (drop_of_length-le l h)

  pub span_stop : i < length l → belongs class (get_or l i 0) ≡ false → span class (drop i l) ≡ []
  unfolding span
  span_stop h e = rw (drop-cons l i 0 h, e)

  pub span_more : i < length l → belongs class (get_or l i 0) ≡ true → span class (drop i l) ≡ get_or l i 0 ∷ span class (drop (i + 1) l)
  unfolding span
  span_more h e = rw (drop-cons l i 0 h, e, add-one)

  -- counting: from i on, what the whole has
  pub counted_end : i + length (span class (drop i l)) ≡ length (span class l) → length l ≤ i → i ≡ length (span class l)
  counted_end inv h = omega (arith, ap length (span_end h))

  pub counted_stop : i + length (span class (drop i l)) ≡ length (span class l) → i < length l → belongs class (get_or l i 0) ≡ false → i ≡ length (span class l)
  counted_stop inv h e = omega (arith, ap length (span_stop h e))

  pub counted_more : i + length (span class (drop i l)) ≡ length (span class l) → i < length l → belongs class (get_or l i 0) ≡ true → i + 1 + length (span class (drop (i + 1) l)) ≡ length (span class l)
  counted_more inv h e = omega (arith, ap length (span_more h e))

-- whether a byte ends a run
abbrev pub refuses : Class → ℕ → Bool
refuses class b = not (belongs class b)

-- the place of the first byte that ends a run is the run's length
place_counts : (class : Class) (s : List ℕ) → position_or_len (refuses class) s ≡ length (span class s)
unfolding span
place_counts class [] = refl
place_counts class (b ∷ s) = go (belongs class b) refl (place_counts class s)
  where
    go : (t : Bool) → belongs class b ≡ t → position_or_len (refuses class) s ≡ length (span class s) → position_or_len (refuses class) (b ∷ s) ≡ length (span class (b ∷ s))
    go true e h = rw e (omega (arith, h))
    go false e h = rw e

-- a run is the front of its list
span_front : (class : Class) (s : List ℕ) → (length (span class s) ≤ length s) × (take (length (span class s)) s ≡ span class s)
unfolding span
span_front class [] = (zero-le, refl)
span_front class (b ∷ s) = go (belongs class b) refl (span_front class s)
  where
    go : (t : Bool) → belongs class b ≡ t → (length (span class s) ≤ length s) × (take (length (span class s)) s ≡ span class s) → (length (span class (b ∷ s)) ≤ length (b ∷ s)) × (take (length (span class (b ∷ s))) (b ∷ s) ≡ span class (b ∷ s))
    go true e (h, q) = rw e (omega arith, ap (λ (r : List ℕ). b ∷ r) q)
    go false e h = rw e (zero-le, refl)

pub length_span : (class : Class) (s : List ℕ) → length (span class s) ≤ length s
length_span class s = (span_front class s).0

pub take_span : (class : Class) (s : List ℕ) → take (length (span class s)) s ≡ span class s
take_span class s = (span_front class s).1

-- what was found of it, or the length where nothing ends the run
pub counted : (class : Class) (s : List ℕ) (r : Option ℕ) → r ≡ cond (ltb (position_or_len (refuses class) s) (length s)) (Some (position_or_len (refuses class) s)) None → unwrap_or r (length s) ≡ length (span class s)
counted class s r e = rw (e, place_counts class s) (go (ltb (length (span class s)) (length s)) refl)
  where
    go : (t : Bool) → ltb (length (span class s)) (length s) ≡ t → unwrap_or (cond t (Some (length (span class s))) None) (length s) ≡ length (span class s)
    go true q = refl
    go false q = omega (arith, ltb-false _ _ q, length_span class s)

-- a part of a line from its end on is empty
pub window_end : (l : List ℕ) (n at : ℕ) → length l ≤ at → take n (drop at l) ≡ []
window_end l n at h = rw (drop_of_length-le l h) (take-nil n)

-- a run from a place on ends within the line
pub run_within : (class : Class) (l : List ℕ) (at n : ℕ) → 0 < length (span class (take n (drop at l))) → at + length (span class (take n (drop at l))) ≤ length l
run_within class l at n h =
    omega (arith, length_span class (take n (drop at l)), length-take n (drop at l), length-drop at l)

-- a byte other than 0 lies in its line
in_line : (l : List ℕ) (i : ℕ) → 0 < get_or l i 0 → i < length l
in_line [] zero h = absurd (omega arith)
in_line [] (suc i) h = absurd (omega arith)
in_line (a ∷ l) zero h = omega arith
in_line (a ∷ l) (suc i) h = omega (arith, in_line l i h)

pub byte_within : (l : List ℕ) (i b v : ℕ) → b ≡ byte_at l i → b ≡ v → 0 < v → i < length l
unfolding byte_at
byte_within l i b v e q h = in_line l i (omega arith)
