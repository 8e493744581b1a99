-- Cells with one put in, or taken out, are within the limits and in order where they were.
use mathlib.Core.Path.{◌≡◌, refl}
use mathlib.Core.Bool.{Bool, true, false, cond}
use mathlib.Core.List.{List, [], ◌∷◌, ◌++◌}
use Prim.Native.Nat.{ℕ, ◌+◌, ◌≤◌, ◌<◌}
use native.Mathlib.Omega.{arith}
use borrow.Author.Tests.{lt-ltb, ltb-true}
use lib.Dec.{ltb}
use lib.ListN.{length, length-append}
use Rattle.meaning.specs.Each.{Each}
use Rattle.cells.specs.Cell.{Cell, key_number, cell_allowed, cell_bytes}
use Rattle.cells.specs.Store.{encode, cells_allowed, above, rising}
use Rattle.cells.proofs.BigEndian.{and_true, both}
use Rattle.cells.proofs.Runs.{Valid}
use Rattle.store.specs.Edit.{lower, higher, with, without}
use Rattle.history.proofs.Filter.{filter, is_below, is_above, lower_filter, higher_filter, filter_elim, each_filter, each_passed}

-- ---- the tests of a run of cells, as facts about each cell

abbrev Above : ℕ → Cell → Type 0
Above n c = n < key_number c

abbrev Below : ℕ → Cell → Type 0
Below n c = key_number c < n

abbrev Allowed : Cell → Type 0
Allowed c = cell_allowed c ≡ true

abbrev Rises : List Cell → Type 0
Rises [] = Unit {0}
Rises (c ∷ cs) = Each (Above (key_number c)) cs × Rises cs

above_each : (n : ℕ) (cs : List Cell) → above n cs ≡ true → Each (Above n) cs
unfolding above
above_each n [] e = tt
above_each n (c ∷ cs) e = let t = and_true _ _ e in (ltb-true _ _ t.0, above_each n cs t.1)

each_above : (n : ℕ) (cs : List Cell) → Each (Above n) cs → above n cs ≡ true
unfolding above
each_above n [] h = refl
each_above n (c ∷ cs) h = both (lt-ltb _ _ h.0) (each_above n cs h.1)

allowed_each : (cs : List Cell) → cells_allowed cs ≡ true → Each Allowed cs
unfolding cells_allowed
allowed_each [] e = tt
allowed_each (c ∷ cs) e = let t = and_true _ _ e in (t.0, allowed_each cs t.1)

each_allowed : (cs : List Cell) → Each Allowed cs → cells_allowed cs ≡ true
unfolding cells_allowed
each_allowed [] h = refl
each_allowed (c ∷ cs) h = both h.0 (each_allowed cs h.1)

rising_rises : (cs : List Cell) → rising cs ≡ true → Rises cs
unfolding rising
rising_rises [] e = tt
rising_rises (c ∷ cs) e = let t = and_true _ _ e in (above_each _ cs t.0, rising_rises cs t.1)

rises_rising : (cs : List Cell) → Rises cs → rising cs ≡ true
unfolding rising
rises_rising [] h = refl
rises_rising (c ∷ cs) h = both (each_above _ cs h.0) (rises_rising cs h.1)

-- ---- the cells below a key, and above it

each_append : (P : Cell → Type 0) (xs ys : List Cell) → Each P xs → Each P ys → Each P (xs ++ ys)
each_append P [] ys h k = k
each_append P (x ∷ xs) ys h k = (h.0, each_append P xs ys h.1 k)

rises_filter : (p : Cell → Bool) (cs : List Cell) → Rises cs → Rises (filter p cs)
rises_filter p =
    filter_elim p (λ cs ds. Rises cs → Rises ds) (λ h. h) (λ c cs e r h. (each_filter p (Above (key_number c)) cs h.0, r h.1)) (λ c cs e r h. r h.1)

-- cells below n, then cells that rise from n on
rises_append : (n : ℕ) (xs ys : List Cell) → Each (Below n) xs → Rises xs → Rises ys → ((m : ℕ) → m < n → Each (Above m) ys) → Rises (xs ++ ys)
rises_append n [] ys b h k f = k
rises_append n (x ∷ xs) ys b h k f =
    (each_append (Above (key_number x)) xs ys h.0 (f (key_number x) b.0), rises_append n xs ys b.1 h.1 k f)

-- in order, before cells that rise from n on
module _ (n : ℕ) (cs : List Cell) where
  above_higher : (m : ℕ) → m ≤ n → Each (Above m) (higher n cs)
  above_higher m h = rw (higher_filter n cs) (each_passed (is_above n) (Above m) (λ c e. omega (arith, ltb-true n (key_number c) e)) cs)

  rises_higher : Rises cs → Rises (higher n cs)
  rises_higher h = rw (higher_filter n cs) (rises_filter (is_above n) cs h)

  rises_lower : (ys : List Cell) → Rises cs → Rises ys → ((m : ℕ) → m < n → Each (Above m) ys) → Rises (lower n cs ++ ys)
  rises_lower ys h k f =
      rw (lower_filter n cs) (rises_append n (filter (is_below n) cs) ys (each_passed (is_below n) (Below n) (λ c e. ltb-true (key_number c) n e) cs) (rises_filter (is_below n) cs h) k f)

  each_parts : (P : Cell → Type 0) (ys : List Cell) → Each P cs → (Each P (higher n cs) → Each P ys) → Each P (lower n cs ++ ys)
  each_parts P ys h f =
      each_append P (lower n cs) ys (rw (lower_filter n cs) (each_filter (is_below n) P cs h)) (f (rw (higher_filter n cs) (each_filter (is_above n) P cs h)))

-- ---- put and remove keep the form

pub with_valid : (c : Cell) (cs : List Cell) → cell_allowed c ≡ true → Valid cs → Valid (with c cs)
unfolding with
with_valid c cs e v =
    let n : ℕ = key_number c in
    let r : Rises cs = rising_rises cs v.rising in
    record {
      allowed = each_allowed _ (each_parts n cs Allowed (c ∷ higher n cs) (allowed_each cs v.allowed) (λ h. (e, h)));
      rising = rises_rising _ (rises_lower n cs (c ∷ higher n cs) r (above_higher n cs n (omega arith), rises_higher n cs r) (λ m h. (h, above_higher n cs m (omega arith))));
    }

pub without_valid : (n : ℕ) (cs : List Cell) → Valid cs → Valid (without n cs)
unfolding without
without_valid n cs v =
    let r : Rises cs = rising_rises cs v.rising in
    record {
      allowed = each_allowed _ (each_parts n cs Allowed (higher n cs) (allowed_each cs v.allowed) (λ h. h));
      rising = rises_rising _ (rises_lower n cs (higher n cs) r (rises_higher n cs r) (λ m h. above_higher n cs m (omega arith)));
    }

-- ---- a remove never lengthens the store

abbrev size : List Cell → ℕ
size cs = length (encode cs)

encode_append : (xs ys : List Cell) → size (xs ++ ys) ≡ size xs + size ys
unfolding encode
encode_append [] ys = omega arith
encode_append (x ∷ xs) ys =
    omega (arith, length-append (cell_bytes x) (encode (xs ++ ys)), length-append (cell_bytes x) (encode xs), encode_append xs ys)

parted : (n : ℕ) (cs : List Cell) → size (lower n cs) + size (higher n cs) ≤ size cs
unfolding encode lower higher
parted n [] = omega arith
parted n (c ∷ cs) = go (ltb (key_number c) n) (ltb n (key_number c)) refl refl (parted n cs)
  where
    go : (s t : Bool) → ltb (key_number c) n ≡ s → ltb n (key_number c) ≡ t → size (lower n cs) + size (higher n cs) ≤ size cs
        → size (cond s (c ∷ lower n cs) (lower n cs)) + size (cond t (c ∷ higher n cs) (higher n cs)) ≤ size (c ∷ cs)
    go true true e f h = absurd (omega (arith, ltb-true (key_number c) n e, ltb-true n (key_number c) f))
    go true false e f h = omega (arith, length-append (cell_bytes c) (encode (lower n cs)), length-append (cell_bytes c) (encode cs))
    go false true e f h = omega (arith, length-append (cell_bytes c) (encode (higher n cs)), length-append (cell_bytes c) (encode cs))
    go false false e f h = omega (arith, length-append (cell_bytes c) (encode cs))

pub without_shorter : (n : ℕ) (cs : List Cell) → length (encode (without n cs)) ≤ length (encode cs)
unfolding without
without_shorter n cs = omega (arith, encode_append (lower n cs) (higher n cs), parted n cs)
