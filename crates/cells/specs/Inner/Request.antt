-- What an edit is handed, as the code tells it.
use Rattle.std.specs.Prelude.{◌≡◌, ℕ, ◌≤◌, List, length, Some, None, Option}
use Rattle.cells.specs.Cell.{Key, Cell, key_as_number, key_number}

unfoldable pub requested : Option Cell → Option ℕ
requested None = None
requested (Some c) = Some (key_number c)

unfoldable pub requested_key : Option Key → Option ℕ
requested_key None = None
requested_key (Some k) = Some (key_as_number k)

-- r tells which cell the bytes s are, if any; a cell is short
pub record CellAsked (s : List ℕ) (o : Option Cell) (r : Option ℕ) : Type 0 where
  pub told : r ≡ requested o
  pub short : (c : Cell) → o ≡ Some c → length s ≤ 25

pub record KeyAsked (o : Option Key) (r : Option ℕ) : Type 0 where
  pub told : r ≡ requested_key o
