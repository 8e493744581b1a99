-- The store: "A run of cells, 0 to 65,536 bytes."
use Rattle.std.specs.Prelude.{ℕ, zero, suc, Bool, true, false, cond, ◌&&◌, List, [], ◌∷◌, ◌++◌, length, take, drop, nat_le, nat_lt, Option, Some, None}
use Rattle.cells.specs.Cell.{Cell, key_number, cell_allowed, cell_bytes, front}

abbrev pub capacity : ℕ
capacity = 65536

-- the bytes of a run of cells
unfoldable pub encode : List Cell → List ℕ
encode [] = []
encode (c ∷ cs) = cell_bytes c ++ encode cs

-- every cell lies within the limits
unfoldable pub cells_allowed : List Cell → Bool
cells_allowed [] = true
cells_allowed (c ∷ cs) = cell_allowed c && cells_allowed cs

-- every key is above n
unfoldable pub above : ℕ → List Cell → Bool
above n [] = true
above n (c ∷ cs) = nat_lt n (key_number c) && above n cs

-- "Keys rise strictly."
unfoldable pub rising : List Cell → Bool
rising [] = true
rising (c ∷ cs) = above (key_number c) cs && rising cs

-- with a cell put before what was read
unfoldable pub with_first : Cell → Option (List Cell) → Option (List Cell)
with_first c None = None
with_first c (Some cs) = Some (c ∷ cs)

-- the cells that s is a run of, at most n of them, or none
unfoldable pub cell_run : ℕ → List ℕ → Option (List Cell)
cell_run zero s = elim s [ [] ↦ Some [] | b ∷ t ↦ None ]
cell_run (suc n) s =
    elim s [
      | [] ↦ Some []
      | b ∷ t ↦ elim (front (b ∷ t)) [ None ↦ None | Some c ↦ with_first c (cell_run n (drop (length (cell_bytes c)) (b ∷ t))) ]
    ]

unfoldable pub ordered : Option (List Cell) → Option (List Cell)
ordered None = None
ordered (Some cs) = cond (rising cs) (Some cs) None

-- the cells with rising keys that these bytes are, or none
unfoldable pub cells : List ℕ → Option (List Cell)
cells s = ordered (cell_run (length s) s)

-- The store handed in as a buffer and a length. 1: "The store breaks its form or is longer than its buffer."
unfoldable pub cells_held : List ℕ → ℕ → Option (List Cell)
cells_held b n = cond (nat_le n (length b) && nat_le n capacity) (cells (take n b)) None

-- whether it is in form
unfoldable pub holds_cells : Option (List Cell) → Bool
holds_cells None = false
holds_cells (Some cs) = true
