-- "Put adds or replaces the cell of a key, whichever kind it had. Remove takes it out."
use Rattle.std.specs.Prelude.{Bool, cond, ◌&&◌, List, [], ◌∷◌, ◌++◌, ℕ, ◌-◌, leb, ltb, length, replicate, Option, Some, None, Result, Ok, Err}
use Rattle.std.proofs.lemmas.List.Edits.{sets}
use Rattle.meaning.specs.declared.refusal.Refusal.{Refusal}
use Rattle.meaning.specs.declared.refusal.Refusal.TheVariants.{BadStore, BadRequest, StoreFull, NoCell}
use Rattle.meaning.specs.declared.end.Ended.{Ended}
use Rattle.meaning.specs.declared.end.Ended.TheVariants.{Finished, Halted}
use Rattle.cells.specs.Cell.{Key, Cell, key_as_number, key_number, whole_cell, whole_key}
use Rattle.cells.specs.Store.{capacity, encode, cells_held}
use Rattle.cells.specs.Asking.{refused_with, lookup}
use Rattle.store.specs.declared.Edited.{Edited}

-- the cells whose keys are below n, and above n
unfoldable pub lower : ℕ → List Cell → List Cell
lower n [] = []
lower n (c ∷ cs) = cond (ltb (key_number c) n) (c ∷ lower n cs) (lower n cs)

unfoldable pub higher : ℕ → List Cell → List Cell
higher n [] = []
higher n (c ∷ cs) = cond (ltb n (key_number c)) (c ∷ higher n cs) (higher n cs)

unfoldable pub with : Cell → List Cell → List Cell
with c cs = lower (key_number c) cs ++ (c ∷ higher (key_number c) cs)

unfoldable pub without : ℕ → List Cell → List Cell
without n cs = lower n cs ++ higher n cs

-- What an edit does to the cells of a store: how it ends, and the cells that it leaves.
pub record CellEdit : Type 0 where
  pub end : Ended
  pub left : List Cell

-- "Refused edits change nothing"
abbrev pub refused_on : Refusal → List Cell → CellEdit
refused_on e cs = record { end = refused_with e; left = cs }

abbrev pub done_on : List Cell → CellEdit
done_on cs = record { end = Finished; left = cs }

-- 16: "A put would pass the buffer or 65,536 bytes." The buffer has `size` bytes.
unfoldable pub fits : ℕ → List Cell → Bool
fits size cs = leb (length (encode cs)) size && leb (length (encode cs)) capacity

-- 15, then 16
unfoldable pub put_on : ℕ → Option Cell → List Cell → CellEdit
put_on size None cs = refused_on BadRequest cs
put_on size (Some c) cs = cond (fits size (with c cs)) (done_on (with c cs)) (refused_on StoreFull cs)

-- 17: "The key to remove has no cell."
unfoldable pub taken_out : ℕ → List Cell → Option Cell → CellEdit
taken_out k cs None = refused_on NoCell cs
taken_out k cs (Some c) = done_on (without k cs)

-- 15, then 17
unfoldable pub remove_on : Option Key → List Cell → CellEdit
remove_on None cs = refused_on BadRequest cs
remove_on (Some k) cs = taken_out (key_as_number k) cs (lookup (key_as_number k) cs)

-- What an edit hands back: how it ended, the length, and the buffer.
pub record Edit : Type 0 where
  pub end : Ended
  pub length : ℕ
  pub buffer : List ℕ

-- "hand back the old length"
abbrev pub refused_edit : List ℕ → ℕ → Refusal → Edit
refused_edit b n e = record { end = refused_with e; length = n; buffer = b }

-- "Where either shortens the store, bytes from the new length to the old become zero. Bytes past both lengths stay."
unfoldable pub written : List ℕ → ℕ → List Cell → Edit
written b n cs =
    record {
      end = Finished;
      length = length (encode cs);
      buffer = sets b 0 (encode cs ++ replicate (n - length (encode cs)) 0);
    }

-- the cells are written where the edit is accepted
unfoldable pub written_by : List ℕ → ℕ → List Cell → Ended → Edit
written_by b n cs Finished = written b n cs
written_by b n cs (Halted h l) = record { end = Halted h l; length = n; buffer = b }

abbrev pub written_out : List ℕ → ℕ → CellEdit → Edit
written_out b n x = written_by b n x.left x.end

-- 1, before the others: "Ask, put and remove check 1, 15, 16, 17."
unfoldable pub checked_edit : List ℕ → ℕ → (List Cell → CellEdit) → Option (List Cell) → Edit
checked_edit b n f None = refused_edit b n BadStore
checked_edit b n f (Some cs) = written_out b n (f cs)

-- put and remove, on a buffer and a length, with the bytes of a cell or a key
unfoldable pub put_of : List ℕ → ℕ → List ℕ → Edit
put_of b n s = checked_edit b n (put_on (length b) (whole_cell s)) (cells_held b n)

unfoldable pub remove_of : List ℕ → ℕ → List ℕ → Edit
remove_of b n s = checked_edit b n (remove_on (whole_key s)) (cells_held b n)

-- what a call hands back: the new length, or the old one with the refusal
unfoldable pub edited_as : ℕ → Result ℕ Refusal → Edited
edited_as n (Ok m) = record { length = m; end = Finished }
edited_as n (Err e) = record { length = n; end = refused_with e }

-- what a call handed back, as an edit
abbrev pub edit : Edited → List ℕ → Edit
edit r b = record { end = r.end; length = r.length; buffer = b }
