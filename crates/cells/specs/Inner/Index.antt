-- The index of a store: where each of its cells begins.
use Rattle.std.specs.Prelude.{◌≡◌, ℕ, ◌+◌, ◌*◌, ◌<◌, ◌≤◌, true, cond, List, [], ◌∷◌, ◌++◌, length, drop, ◌==◌, nat_lt, slice_index, Some, None, Option}
use Rattle.std.proofs.lemmas.List.Edits.{sets}
use Rattle.meaning.specs.Answer.{missing, cell}
use Rattle.meaning.specs.declared.question.Question.{Question}
use Rattle.cells.specs.declared.Answered.{Answered}
use Rattle.cells.specs.declared.Answered.TheVariants as A
use Rattle.cells.specs.declared.Answered.TheVariants.{Missing, Integer, Decimal, StringAt}
use Rattle.cells.specs.Bytes.{pair_at}
use Rattle.cells.specs.Cell.{Cell, key_as_number, key_number, key_at, cell_allowed, cell_bytes}
use Rattle.cells.specs.Store.{cells_held}
use Rattle.cells.specs.Asking.{question_allowed, lookup, found, answer, cell_start, string_start, meant}

-- the places of the cells of a run that begins at a place
unfoldable pub offsets : ℕ → List Cell → List ℕ
offsets at [] = []
offsets at (c ∷ cs) = at ∷ offsets (at + length (cell_bytes c)) cs

unfoldable pub counted : Option (List Cell) → Option ℕ
counted None = None
counted (Some cs) = Some (length cs)

-- j is the index i with the cells' places stored from its start on
unfoldable pub Filled : List ℕ → List ℕ → Option (List Cell) → Type 0
Filled i j None = Unit {0}
Filled i j (Some cs) = j ≡ sets i 0 (offsets 0 cs)

-- what `index` hands back for the cells held, if any
pub record Indexes (i : List ℕ) (store : Option (List Cell)) (j : List ℕ) (r : Option ℕ) : Type 0 where
  pub told : r ≡ counted store
  pub filled : Filled i j store

-- the first n bytes of b hold the cells cs, and index has the place of each
pub record Ready (b : List ℕ) (n : ℕ) (index : List ℕ) (count : ℕ) (cs : List Cell) : Type 0 where
  pub holds : cells_held b n ≡ Some cs
  pub tally : count ≡ length cs
  pub room : count ≤ length index
  pub starts : (i : ℕ) → i < count → slice_index index i ≡ slice_index (offsets 0 cs) i

-- a string that is answered begins at i and lies in the store, the first n bytes of b
unfoldable pub InStore : List ℕ → ℕ → ℕ → Answered → Type 0
InStore b n i Missing = Unit {0}
InStore b n i (Integer z) = Unit {0}
InStore b n i (Decimal z) = Unit {0}
InStore b n i (StringAt j k) = (j ≡ i) × (j + k ≤ n) × (n ≤ length b)
InStore b n i (A.Highest m) = Unit {0}

-- the number of the key of the i-th cell
abbrev pub key_in : List ℕ → List ℕ → ℕ → ℕ
key_in b starts i = key_as_number (key_at b (slice_index starts i + 1))

-- the keys of the cells rise, are within their limits, and lie in b with a byte behind each
pub record Sorted (b starts : List ℕ) (count : ℕ) : Type 0 where
  pub room : count ≤ length starts
  pub inside : (i : ℕ) → i < count → slice_index starts i + 9 ≤ length b
  pub small : (i : ℕ) → i < count → key_in b starts i < 18014398509481984
  pub rises : (i j : ℕ) → i < j → j < count → key_in b starts i < key_in b starts j

-- r is the first of the cells whose keys are not below k
pub record First (b starts : List ℕ) (count k r : ℕ) : Type 0 where
  pub few : r ≤ count
  pub lower : (i : ℕ) → i < r → key_in b starts i < k
  pub higher : (i : ℕ) → r ≤ i → i < count → k ≤ key_in b starts i

pub record Position (b starts : List ℕ) (count k r : ℕ) : Type 0 where
  pub first : Sorted b starts count → First b starts count k r

-- r is the value of the cell at a place of b
pub record ValueAt (b : List ℕ) (at : ℕ) (r : Answered) : Type 0 where
  pub value : (c : Cell) (rest : List ℕ) → cell_allowed c ≡ true → drop at b ≡ cell_bytes c ++ rest → meant b r ≡ cell c.value
  pub inside : (c : Cell) (rest : List ℕ) → cell_allowed c ≡ true → drop at b ≡ cell_bytes c ++ rest → InStore b (at + length (cell_bytes c)) (at + 9) r

-- r answers kind 1 for the key k
pub record CellAnswer (b starts : List ℕ) (count k : ℕ) (r : Answered) : Type 0 where
  pub found : (n : ℕ) (cs : List Cell) → Ready b n starts count cs → meant b r ≡ found (lookup k cs)
  pub inside : (n : ℕ) (cs : List Cell) → Ready b n starts count cs → InStore b n (cell_start k cs + 9) r

-- r is the number that a cell has at an offset: the last of cs whose key lies from low up to end, or 0 if none does
pub data LastOf (cs : List Cell) (low end offset : ℕ) : ℕ → Type 0 where
  nothing : ((xs : List Cell) (c : Cell) (ys : List Cell) → cs ≡ xs ++ (c ∷ ys) → low ≤ key_number c → key_number c < end → ⊥) → LastOf cs low end offset 0
  last : {r : ℕ} (xs : List Cell) (c : Cell) (ys : List Cell) → cs ≡ xs ++ (c ∷ ys) → low ≤ key_number c → key_number c < end → r ≡ pair_at (cell_bytes c) offset → ((vs : List Cell) (d : Cell) (ws : List Cell) → cs ≡ vs ++ (d ∷ ws) → key_number d < end → key_number d ≤ key_number c) → LastOf cs low end offset r

pub record Highest (b starts : List ℕ) (count low end offset r : ℕ) : Type 0 where
  pub last : (n : ℕ) (cs : List Cell) → Ready b n starts count cs → LastOf cs low end offset r

-- kind 2 speaks of the records of a parameter, kind 3 of the entries of a record: so far their keys reach, and there the
-- number stands in a cell
unfoldable pub reach_of : ℕ → ℕ
reach_of kind = cond (kind == 2) 4294967296 65536

unfoldable pub offset_of : ℕ → ℕ
offset_of kind = cond (kind == 2) 4 6

-- r answers a question
pub record Answers (b starts : List ℕ) (count : ℕ) (q : Question) (r : Answered) : Type 0 where
  pub answer : (n : ℕ) (cs : List Cell) → Ready b n starts count cs → meant b r ≡ cond (question_allowed q) (answer q cs) missing
  pub inside : (n : ℕ) (cs : List Cell) → Ready b n starts count cs → InStore b n (string_start q (Some cs)) r

-- r is the size of the cell at a place of b
pub record SizeAt (b : List ℕ) (at r : ℕ) : Type 0 where
  pub size : (c : Cell) (rest : List ℕ) → cell_allowed c ≡ true → drop at b ≡ cell_bytes c ++ rest → r ≡ length (cell_bytes c)

-- 1 where a is below b, else 0
unfoldable pub below_of : ℕ → ℕ → ℕ
below_of a b = cond (nat_lt a b) 1 0

-- 256 times a key, or 2^62, which is more than any key within the limits with the byte behind it
unfoldable pub bound_of : ℕ → ℕ
bound_of k = cond (nat_lt k 18014398509481984) (k * 256) 4611686018427387904

-- r is 1 where the key of the i-th cell is below the one that a bound was made of, else 0
pub record LowerAt (b starts : List ℕ) (bound i r : ℕ) : Type 0 where
  pub most : r ≤ 1
  pub compares : (count k : ℕ) → Sorted b starts count → i < count → bound ≡ bound_of k → r ≡ below_of (key_in b starts i) k
