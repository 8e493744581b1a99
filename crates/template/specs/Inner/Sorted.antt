-- The row of places that check 5 keeps: where the names of the sections start, in the order of the names. What the check says
-- doesn't depend on the order.
use Rattle.std.specs.Prelude.{◌≡◌, Bool, true, false, cond, List, [], ◌∷◌, ℕ, ◌+◌, ◌≤◌, ◌<◌, eqb, ltb, length, get_or}
use Rattle.scan.specs.Line.{line_of, window}
use Rattle.template.specs.Name.{same_bytes}

-- whether a name comes before another: by the first byte in which they differ, a part of a name before the name
unfoldable pub is_below : List ℕ → List ℕ → Bool
is_below [] [] = false
is_below [] (y ∷ b) = true
is_below (x ∷ a) [] = false
is_below (x ∷ a) (y ∷ b) = cond (eqb x y) (is_below a b) (ltb x y)

-- "by their first eight characters": the bytes in which the i-th name of a row lies, and the name
abbrev pub eight_at : List ℕ → List ℕ → ℕ → List ℕ
eight_at t places i = window t (get_or places i 0) 8

abbrev pub name_in : List ℕ → List ℕ → ℕ → List ℕ
name_in t places i = line_of (eight_at t places i)

-- no name is below one before it
pub record Sorted (t places : List ℕ) (count : ℕ) : Type 0 where
  pub room : count ≤ length places
  pub ordered : (i j : ℕ) → i ≤ j → j < count → is_below (name_in t places j) (name_in t places i) ≡ false

-- the names before a position are below a name, the others are not
pub record Position (t places : List ℕ) (count : ℕ) (name : List ℕ) (r : ℕ) : Type 0 where
  pub within : r ≤ count
  pub lower : (i : ℕ) → i < r → is_below (name_in t places i) name ≡ true
  pub higher : (i : ℕ) → r ≤ i → i < count → is_below (name_in t places i) name ≡ false

-- whether a name stands at a position
unfoldable pub stands_in : List ℕ → List ℕ → ℕ → ℕ → List ℕ → Bool
stands_in t places count i name = cond (ltb i count) (same_bytes name (name_in t places i)) false

-- a row with a place more, at a position
pub record Inserted (before : List ℕ) (count r at : ℕ) (places : List ℕ) : Type 0 where
  pub size : length places ≡ length before
  pub lower : (i : ℕ) → i < r → get_or places i 0 ≡ get_or before i 0
  pub here : get_or places r 0 ≡ at
  pub higher : (i : ℕ) → r ≤ i → i < count → get_or places (i + 1) 0 ≡ get_or before i 0
