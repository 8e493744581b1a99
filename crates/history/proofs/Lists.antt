-- Lists of edits: the store afterwards is the fold of the definitions, from any bytes.
use Rattle.std.specs.Prelude.{Option, Some, None}
use mathlib.Core.Path.{◌≡◌, refl, ap, ap₂, ◌∙◌}
use mathlib.Core.List.{List, [], ◌∷◌}
use Prim.Native.Nat.{ℕ}
use lib.ListN.{length, replicate}
use Rattle.meaning.specs.declared.refusal.Refusal.TheVariants.{BadStore}
use Rattle.meaning.specs.declared.end.Ended.{Ended}
use Rattle.cells.specs.Cell.{Cell}
use Rattle.cells.specs.Store.{holds_cells}
use Rattle.cells.specs.Asking.{refused_with}
use Rattle.store.specs.Edit.{Edit, refused_edit}
use Rattle.history.specs.LentStore.{LentStore, cells_held_by, in_form}
use Rattle.history.specs.Change.{Change, handed_back, handed_on, after_change, edited}
use Rattle.history.specs.History.{after_changes, ends, cells_after, ends_on, cells_held_after, ends_after}
use Rattle.history.proofs.Form.{form_kept, end_kept, out_of_form_once}

-- ---- from a store in form

cells_folded : (es : List Change) (m : LentStore) (cs : List Cell) → cells_held_by m ≡ Some cs → cells_held_by (after_changes es m) ≡ Some (cells_after (length m.buffer) es cs)
unfolding after_changes cells_after
cells_folded [] m cs h = h
cells_folded (e ∷ es) m cs h =
    let k = form_kept e m cs h in
    cells_folded es (after_change e m) (edited (length m.buffer) e cs).left k.held ∙ ap (λ (size : ℕ). Some (cells_after size es (edited (length m.buffer) e cs).left)) k.size

ends_folded : (es : List Change) (m : LentStore) (cs : List Cell) → cells_held_by m ≡ Some cs → ends es m ≡ ends_on (length m.buffer) es cs
unfolding ends ends_on
ends_folded [] m cs h = refl
ends_folded (e ∷ es) m cs h =
    let k = form_kept e m cs h in
    ap₂ (λ (x : Ended) (xs : List Ended). x ∷ xs) (end_kept e m cs h)
    (ends_folded es (after_change e m) (edited (length m.buffer) e cs).left k.held ∙ ap (λ (size : ℕ). ends_on size es (edited (length m.buffer) e cs).left) k.size)

-- ---- from a store out of form

-- the store stays as it is, and every edit is refused with 1
pub record NothingDone (es : List Change) (m : LentStore) : Type 0 where
  pub kept : after_changes es m ≡ m
  pub refused : ends es m ≡ replicate (length es) (refused_with BadStore)

-- Out of form at first: every edit of the list is refused with 1, and nothing changes.
pub out_of_form : (es : List Change) (m : LentStore) → cells_held_by m ≡ None → NothingDone es m
unfolding after_changes ends
out_of_form [] m h = record { kept = refl; refused = refl }
out_of_form (e ∷ es) m h =
    let r : handed_back e m ≡ refused_edit m.buffer m.length BadStore = out_of_form_once e m h in
    let q : after_change e m ≡ m = ap handed_on r in
    let d : NothingDone es m = out_of_form es m h in
    record {
      kept = ap (after_changes es) q ∙ d.kept;
      refused = ap₂ (λ (x : Ended) (xs : List Ended). x ∷ xs) (ap (λ (x : Edit). x.end) r) (ap (ends es) q ∙ d.refused);
    }

-- ---- from any bytes

-- "The list starts from the store, of any bytes": the cells afterwards are the fold of put and remove on lists of cells.
pub folded : (es : List Change) (m : LentStore) → cells_held_by (after_changes es m) ≡ cells_held_after (length m.buffer) es (cells_held_by m)
unfolding cells_held_after
folded es m = go (cells_held_by m) refl
  where
    go : (o : Option (List Cell)) → cells_held_by m ≡ o → cells_held_by (after_changes es m) ≡ cells_held_after (length m.buffer) es o
    go None h = ap cells_held_by (out_of_form es m h).kept ∙ h
    go (Some cs) h = cells_folded es m cs h

-- And each ends as it does there.
pub ends_are : (es : List Change) (m : LentStore) → ends es m ≡ ends_after (length m.buffer) es (cells_held_by m)
unfolding ends_after
ends_are es m = go (cells_held_by m) refl
  where
    go : (o : Option (List Cell)) → cells_held_by m ≡ o → ends es m ≡ ends_after (length m.buffer) es o
    go None h = (out_of_form es m h).refused
    go (Some cs) h = ends_folded es m cs h

-- a store is in form after the edits exactly where it was before
pub same_form : (es : List Change) (m : LentStore) → in_form (after_changes es m) ≡ in_form m
unfolding cells_held_after holds_cells
same_form es m = ap holds_cells (folded es m) ∙ go (cells_held_by m)
  where
    go : (o : Option (List Cell)) → holds_cells (cells_held_after (length m.buffer) es o) ≡ holds_cells o
    go None = refl
    go (Some cs) = refl

-- the buffer stays as long as it was
pub size_once : (e : Change) (m : LentStore) → length (after_change e m).buffer ≡ length m.buffer
size_once e m = go (cells_held_by m) refl
  where
    go : (o : Option (List Cell)) → cells_held_by m ≡ o → length (after_change e m).buffer ≡ length m.buffer
    go None h = ap (λ (r : Edit). length r.buffer) (out_of_form_once e m h)
    go (Some cs) h = (form_kept e m cs h).size

pub size_kept : (es : List Change) (m : LentStore) → length (after_changes es m).buffer ≡ length m.buffer
unfolding after_changes
size_kept [] m = refl
size_kept (e ∷ es) m = size_kept es (after_change e m) ∙ size_once e m
