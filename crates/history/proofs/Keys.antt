-- An edit that touches a key names that key.
use Rattle.std.specs.Prelude.{Option, Some, None}
use mathlib.Core.Path.{◌≡◌, refl, ap, subst}
use mathlib.Core.Bool.{true, false≢true}
use borrow.Author.Tests.{eqb-true}
use Rattle.cells.specs.Cell.{Key, Cell, key_allowed, whole_cell}
use Rattle.cells.proofs.BigEndian.{and_true}
use Rattle.cells.proofs.CellForm.{key_allowed_law as cell-key-allowed, same_key}
use Rattle.cells.proofs.Runs.{some_inj, none_some}
use Rattle.history.specs.LentStore.{LentStore}
use Rattle.history.specs.Change.{Change, put, remove, key_of_cell, key_named, is_key, accepted, touches}
use Rattle.history.proofs.Form.{cell_allowed_law, key_allowed_law}

-- an edit's key lies within the limits
named_allowed : (e : Change) (k : Key) → key_named e ≡ Some k → key_allowed k ≡ true
unfolding key_named key_of_cell
named_allowed (put s) k = go (whole_cell s) refl
  where
    go : (o : Option Cell) → whole_cell s ≡ o → key_of_cell o ≡ Some k → key_allowed k ≡ true
    go None w e = absurd (none_some e)
    go (Some c) w e =
        subst (λ (x : Key). key_allowed x ≡ true) (some_inj e) (cell-key-allowed c (cell_allowed_law s c w))
named_allowed (remove s) k = key_allowed_law s k

-- An edit that touches a key within the limits names this key, not only its number.
pub touches_key : (k : Key) (e : Change) (m : LentStore) → key_allowed k ≡ true → touches k e m ≡ true → key_named e ≡ Some k
unfolding touches is_key
touches_key k e m a t = go (key_named e) refl (and_true (accepted e m) (is_key k (key_named e)) t).1
  where
    go : (o : Option Key) → key_named e ≡ o → is_key k o ≡ true → o ≡ Some k
    go None p u = absurd (false≢true u)
    go (Some l) p u = ap (λ (x : Key). Some x) (same_key l k (named_allowed e l p) a (eqb-true _ _ u))
