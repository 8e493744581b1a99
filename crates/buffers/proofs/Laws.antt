-- Laws of `set`, `sets` and `map`, of room, and of what the calls of the library leave in a buffer.
use mathlib.Core.Path.{◌≡◌, refl, sym, ap, ◌∙◌}
use mathlib.Core.List.{List, [], ◌∷◌, ◌++◌, map}
use mathlib.Core.Bool.{Bool, true, false, cond}
use Prim.Native.Nat.{ℕ, zero, suc, ◌+◌, ◌-◌, ◌≤◌, ◌<◌}
use native.Mathlib.Nat.{add-zero}
use native.Mathlib.Numerals.{add-one}
use native.Mathlib.Omega.{arith}
use borrow.Author.Tests.{le-leb, lt-leb, leb-true, leb-false}
use lib.Dec.{leb}
use lib.ListN.{length, get_or, take, drop, set, replicate, length-replicate, length-drop}
use lib.Seq.{take-suc, paste, sets, length-sets, length-take-le, take_all, set_comm, get_or-set_other, get_or-take, get_or-drop}
use Rattle.std.specs.List.{between, copy_within}
use Rattle.std.proofs.lemmas.List.Edits.{length-between, sets-eq}
use Rattle.std.proofs.lemmas.Slice.{put_mid-paste}
use borrow.Rule.Slice.PartMut.{put_mid}
use Rattle.buffers.specs.Buffer.{has_room, part, stored, shifted, Stored, Shifted}

module _ {A : Type 0} where
  -- one stretch after another is both as one
  pub sets_append : (v b : List A) (n : ℕ) (w : List A) → sets b n (v ++ w) ≡ sets (sets b n v) (n + length v) w
  sets_append [] b n w = rw add-zero
  sets_append (x ∷ v) b n w = sets_append v (set b n x) (suc n) w ∙ ap (λ (k : ℕ). sets (sets (set b n x) (suc n) v) k w) (omega arith)

  -- an element before a stretch may be stored after it
  pub sets_before : (v b : List A) (i n : ℕ) (x : A) → i < n → sets (set b i x) n v ≡ set (sets b n v) i x
  sets_before [] b i n x h = refl
  sets_before (y ∷ v) b i n x h =
      ap (λ (l : List A). sets l (suc n) v) (set_comm b i n x y (λ e. omega arith)) ∙ sets_before v (set b n y) i (suc n) x (omega arith)

  -- and so may one behind it
  pub sets_behind : (v b : List A) (i n : ℕ) (x : A) → n + length v ≤ i → sets (set b i x) n v ≡ set (sets b n v) i x
  sets_behind [] b i n x h = refl
  sets_behind (y ∷ v) b i n x h =
      ap (λ (l : List A). sets l (suc n) v) (set_comm b i n x y (λ e. omega arith)) ∙ sets_behind v (set b n y) i (suc n) x (omega arith)

  -- what lies before a stretch, or behind it, stays
  pub get_or_before : (v b : List A) (i n : ℕ) (z : A) → i < n → get_or (sets b n v) i z ≡ get_or b i z
  get_or_before [] b i n z h = refl
  get_or_before (y ∷ v) b i n z h = get_or_before v (set b n y) i (suc n) z (omega arith) ∙ get_or-set_other b n i y z (λ e. omega arith)

  pub get_or_behind : (v b : List A) (i n : ℕ) (z : A) → n + length v ≤ i → get_or (sets b n v) i z ≡ get_or b i z
  get_or_behind [] b i n z h = refl
  get_or_behind (y ∷ v) b i n z h = get_or_behind v (set b n y) i (suc n) z (omega arith) ∙ get_or-set_other b n i y z (λ e. omega arith)

-- a function on each element, of what is stored and of a part
module _ {A B : Type 0} (f : A → B) where
  pub map_set : (l : List A) (i : ℕ) (x : A) → map f (set l i x) ≡ set (map f l) i (f x)
  map_set [] i x = refl
  map_set (y ∷ l) zero x = refl
  map_set (y ∷ l) (suc i) x = ap (λ (k : List B). f y ∷ k) (map_set l i x)

  pub map_sets : (l : List A) (i : ℕ) (v : List A) → map f (sets l i v) ≡ sets (map f l) i (map f v)
  map_sets l i [] = refl
  map_sets l i (x ∷ v) = map_sets (set l i x) (suc i) v ∙ ap (λ (k : List B). sets k (suc i) (map f v)) (map_set l i x)

  pub map_take : (n : ℕ) (l : List A) → map f (take n l) ≡ take n (map f l)
  map_take zero l = refl
  map_take (suc n) [] = refl
  map_take (suc n) (x ∷ l) = ap (λ (k : List B). f x ∷ k) (map_take n l)

-- a copy from the first element on: more, and all
module _ {A : Type 0} (d b s : List A) (n j : ℕ) (inv : d ≡ sets b n (take j s)) where
  pub copied_more : (z : A) → j < length s → set d (n + j) (get_or s j z) ≡ sets b n (take (j + 1) s)
  copied_more z h =
      let t : take (suc j) s ≡ take j s ++ (get_or s j z ∷ []) = take-suc s j z h in
      let l : length (take j s) ≡ j = length-take-le j s (omega arith) in
      rw (inv, add-one, t, sets_append (take j s) b n (get_or s j z ∷ []), l)

  pub copied_all : length s ≤ j → d ≡ sets b n s
  copied_all h = inv ∙ ap (sets b n) (take_all j s h)

-- a write to the k bytes at n, as the library says it
pasted : {A : Type 0} (b s : List A) (n : ℕ) → n + length s ≤ length b → paste b n s (length s) ≡ sets b n s
pasted b s n h = rw (take_all (length s) s (omega arith)) (sym (sets-eq s b n h))

pub mid_sets : {A : Type 0} (b : List A) (n k : ℕ) (v s : List A) → v ≡ s → k ≡ length s → n + length s ≤ length b → put_mid n k b v ≡ sets b n s
mid_sets b n k v s e l h =
    put_mid-paste n k b v s (length s) e (sym l) refl ∙ pasted b s n h

pub filled : (b : List ℕ) (n k x : ℕ) (v : List ℕ) → v ≡ replicate (length (between n (n + k) b)) x → n + k ≤ length b → put_mid n (n + k - n) b v ≡ sets b n (replicate k x)
filled b n k x v e h =
    let l : length (between n (n + k) b) ≡ k = omega (arith, length-between b n (n + k) h) in
    let r : length (replicate k x) ≡ k = length-replicate k x in
    mid_sets b n _ v (replicate k x) (rw l at e) (omega arith) (omega arith)

-- a part of the buffer, and its elements
pub length_part : (b : List ℕ) (n k : ℕ) → n + k ≤ length b → length (part b n k) ≡ k
length_part b n k h = length-take-le k (drop n b) (omega (arith, length-drop n b))

pub get_d_part : (b : List ℕ) (n k i : ℕ) → i < k → get_or (part b n k) i 0 ≡ get_or b (n + i) 0
get_d_part b n k i h = get_or-take k (drop n b) i 0 h ∙ get_or-drop n b i 0

-- what a copy of them leaves, as the library says it
pub moved : (b : List ℕ) (from to k : ℕ) → from + k ≤ length b → to + k ≤ length b → copy_within b from (from + k) to ≡ sets b to (part b from k)
moved b from to k h g =
    let l : length (part b from k) ≡ k = length_part b from k h in
    let d : from + k - from ≡ k = omega arith in
    rw d (rw l at (sym (sets-eq (part b from k) b to (omega arith))))

-- room, and what it says
pub room_true : (b : List ℕ) (n k : ℕ) → n + k ≤ length b → has_room b n k ≡ true
unfolding has_room
room_true b n k h = le-leb _ _ h

pub room_false : (b : List ℕ) (n k : ℕ) → length b < n + k → has_room b n k ≡ false
unfolding has_room
room_false b n k h = lt-leb _ _ h

pub room_fits : (b : List ℕ) (n k : ℕ) → has_room b n k ≡ true → n + k ≤ length b
unfolding has_room
room_fits b n k e = leb-true _ _ e

pub room_short : (b : List ℕ) (n k : ℕ) → has_room b n k ≡ false → length b < n + k
unfolding has_room
room_short b n k e = leb-false _ _ e

-- what is stored, with room and without; its length is the buffer's
pub stored_in : (b : List ℕ) (n : ℕ) (s : List ℕ) → n + length s ≤ length b → stored b n s ≡ sets b n s
unfolding stored
stored_in b n s h = rw (room_true b n (length s) h)

pub stored_not : (b : List ℕ) (n : ℕ) (s : List ℕ) → length b < n + length s → stored b n s ≡ b
unfolding stored
stored_not b n s h = rw (room_false b n (length s) h)

pub length_stored : (b : List ℕ) (n : ℕ) (s : List ℕ) → length (stored b n s) ≡ length b
unfolding stored
length_stored b n s = go (has_room b n (length s))
  where
    go : (r : Bool) → length (cond r (sets b n s) b) ≡ length b
    go true = length-sets b n s
    go false = refl

-- the answers of `write` and `fill`, for k bytes
module _ (b : List ℕ) (n : ℕ) (s : List ℕ) (k : ℕ) (l : length s ≡ k) where
  pub stored_told : (b' : List ℕ) → has_room b n k ≡ true → b' ≡ sets b n s → Stored b n s b' true
  stored_told b' e h =
      record { told = rw (l, e); buffer = h ∙ sym (stored_in b n s (omega (arith, room_fits b n k e))) }

  pub stored_refused : has_room b n k ≡ false → Stored b n s b false
  stored_refused e = record { told = rw (l, e); buffer = sym (stored_not b n s (omega (arith, room_short b n k e))) }

-- the answers of `shift`
module _ (b : List ℕ) (from to k : ℕ) where
  pub shifted_told : (b' : List ℕ) → has_room b from k ≡ true → has_room b to k ≡ true → b' ≡ sets b to (part b from k) → Shifted b from to k b' true
  unfolding shifted
  shifted_told b' e e' h = record { told = rw (e, e'); buffer = rw (e, e') h }

  pub shifted_from : has_room b from k ≡ false → Shifted b from to k b false
  unfolding shifted
  shifted_from e = record { told = rw e; buffer = rw e }

  pub shifted_to : has_room b from k ≡ true → has_room b to k ≡ false → Shifted b from to k b false
  unfolding shifted
  shifted_to e e' = record { told = rw (e, e'); buffer = rw (e, e') }

-- the code's test for room, which cannot overflow
pub room_tail : (b : List ℕ) (n k : ℕ) → n ≤ length b → leb k (length b - n) ≡ has_room b n k
room_tail b n k h = go (leb k (length b - n)) refl
  where
    go : (r : Bool) → leb k (length b - n) ≡ r → r ≡ has_room b n k
    go true e = sym (room_true b n k (omega (arith, leb-true k (length b - n) e)))
    go false e = sym (room_false b n k (omega (arith, leb-false k (length b - n) e)))
