-- Calls of put and remove in turn leave the store that history's list of edits leaves.
use mathlib.Core.Path.{◌≡◌, refl, sym, ap, ◌∙◌}
use mathlib.Core.Bool.{Bool, true, false, not, ◌&&◌}
use mathlib.Core.List.{List, [], ◌∷◌}
use Prim.Native.Nat.{ℕ}
use Rattle.meaning.specs.declared.end.Ended.{Ended}
use Rattle.meaning.specs.declared.end.Ended.TheVariants.{Finished, Halted}
use Rattle.cells.specs.Cell.{Key}
use Rattle.store.specs.declared.Edited.{Edited}
use Rattle.store.specs.Edit.{Edit, edit}
use Rattle.history.specs.LentStore.{LentStore}
use Rattle.history.specs.Change.{Change, put, remove, handed_back, after_change, edit_end, succeeded, key_named, is_key, touches}
use Rattle.history.specs.History.{after_changes, untouched}
use Rattle.demands.specs.Calls.{EditCall, Promised, store_after, InTurn, last_handed, OtherKeys}

-- what was handed in, call by call
abbrev pub changes : List EditCall → List Change
changes [] = []
changes (x ∷ xs) = x.change ∷ changes xs

-- a call hands back what history says of its edit
pub handed_back_law : (m : LentStore) (e : Change) (r : Edited) (b : List ℕ) → Promised m e r b → handed_back e m ≡ edit r b
unfolding handed_back
handed_back_law m (put s) r b h = sym h
handed_back_law m (remove s) r b h = sym h

pub left_is : (m : LentStore) (x : EditCall) → Promised m x.change x.returned x.buffer → after_change x.change m ≡ store_after x
left_is m x h = ap (λ (r : Edit). record { buffer = r.buffer; length = r.length }) (handed_back_law m x.change x.returned x.buffer h)

pub end_is : (m : LentStore) (x : EditCall) → Promised m x.change x.returned x.buffer → edit_end x.change m ≡ x.returned.end
end_is m x h = ap (λ (r : Edit). r.end) (handed_back_law m x.change x.returned x.buffer h)

pub after_calls : (m : LentStore) (xs : List EditCall) → InTurn m xs → after_changes (changes xs) m ≡ last_handed m xs
unfolding after_changes
after_calls m [] h = refl
after_calls m (x ∷ xs) h = ap (after_changes (changes xs)) (left_is m x h.0) ∙ after_calls (store_after x) xs h.1

not_touched : (e : Ended) (b : Bool) → (e ≡ Finished → b ≡ false) → not (succeeded e && b) ≡ true
unfolding succeeded
not_touched Finished b h = ap not (h refl)
not_touched (Halted c l) b h = refl

pub untouched_calls : (k : Key) (m : LentStore) (xs : List EditCall) → InTurn m xs → OtherKeys k xs → untouched k (changes xs) m ≡ true
unfolding untouched touches
untouched_calls k m [] h o = refl
untouched_calls k m (x ∷ xs) h o =
    rw (end_is m x h.0, left_is m x h.0, not_touched x.returned.end (is_key k (key_named x.change)) o.0)
    (untouched_calls k (store_after x) xs h.1 o.1)
