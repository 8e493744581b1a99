-- One edit: an accepted one leaves a store in form, with the cells of its definition; a refused one leaves everything.
use Rattle.std.specs.Prelude.{Option, Some, None}
use mathlib.Core.Path.{◌≡◌, refl, sym, ap, ◌∙◌, subst}
use mathlib.Core.Bool.{Bool, true, false, cond, ◌&&◌, true≢false}
use mathlib.Core.List.{List, ◌++◌, append_assoc}
use Prim.Native.Nat.{ℕ, ◌+◌, ◌-◌, ◌≤◌}
use native.Mathlib.Nat.{le_trans}
use native.Mathlib.Omega.{arith}
use borrow.Author.Tests.{le-leb, leb-true}
use lib.Dec.{leb}
use lib.ListN.{length, take, drop, replicate, length-append, length-replicate}
use lib.Seq.{sets, sets-eq, length-sets, take-append_seam, length-take-le}
use Rattle.meaning.specs.declared.end.Ended.{Ended}
use Rattle.meaning.specs.declared.end.Ended.TheVariants.{Finished, Halted}
use Rattle.meaning.specs.declared.refusal.Refusal.{Refusal}
use Rattle.meaning.specs.declared.refusal.Refusal.TheVariants.{BadStore, BadRequest, StoreFull, NoCell}
use Rattle.cells.specs.Bytes.{equal_bytes}
use Rattle.cells.specs.Cell.{Key, Cell, key_as_number, cell_allowed, key_allowed, key_bytes, key_at, cell_of, whole_cell, whole_key}
use Rattle.cells.specs.Store.{capacity, encode, cells, cells_held}
use Rattle.cells.specs.Asking.{lookup}
use Rattle.cells.proofs.CellForm.{passing_some}
use Rattle.cells.proofs.BigEndian.{and_true}
use Rattle.cells.proofs.Runs.{Valid, Holds, some_inj, none_some, cells_encode, cells_some}
use Rattle.store.specs.Edit.{with, without, CellEdit, refused_on, done_on, fits, put_on, taken_out, remove_on, Edit, refused_edit, written, written_by, written_out, checked_edit, put_of, remove_of}
use Rattle.history.specs.LentStore.{LentStore, cells_held_by}
use Rattle.history.specs.Change.{Change, put, remove, handed_back, handed_on, after_change, edit_end, succeeded, accepted, edited}
use Rattle.history.proofs.Order.{with_valid, without_valid, without_shorter}

-- ---- what is handed in

chosen : {A : Type 0} (t : Bool) (x y : A) → cond t (Some x) None ≡ Some y → (t ≡ true) × (x ≡ y)
chosen true x y e = (refl, some_inj e)
chosen false x y e = absurd (none_some e)

pub cell_allowed_law : (s : List ℕ) (c : Cell) → whole_cell s ≡ Some c → cell_allowed c ≡ true
unfolding whole_cell
cell_allowed_law s c e = (passing_some (λ b. equal_bytes b s) (cell_of s) c e).0

pub key_allowed_law : (s : List ℕ) (k : Key) → whole_key s ≡ Some k → key_allowed k ≡ true
unfolding whole_key
key_allowed_law s k e =
    let t = chosen (key_allowed (key_at s 0) && equal_bytes (key_bytes (key_at s 0)) s) (key_at s 0) k e in
    subst (λ (x : Key). key_allowed x ≡ true) t.1 (and_true _ _ t.0).0

-- ---- a store in form

record InForm (b : List ℕ) (n : ℕ) (cs : List Cell) : Type 0 where
  inside : n ≤ length b
  limit : n ≤ capacity
  run : Holds (take n b) cs

held_form : (b : List ℕ) (n : ℕ) (cs : List Cell) → cells_held b n ≡ Some cs → InForm b n cs
unfolding cells_held
held_form b n cs e = go (leb n (length b) && leb n capacity) refl e
  where
    go : (t : Bool) → leb n (length b) && leb n capacity ≡ t → cond t (cells (take n b)) None ≡ Some cs → InForm b n cs
    go true f x =
        let t = and_true _ _ f in
        record { inside = leb-true _ _ t.0; limit = leb-true _ _ t.1; run = cells_some (take n b) cs x }
    go false f x = absurd (none_some x)

form_held : (b : List ℕ) (n : ℕ) (cs : List Cell) → n ≤ length b → n ≤ capacity → encode cs ≡ take n b → Valid cs → cells_held b n ≡ Some cs
unfolding cells_held
form_held b n cs h k e v = rw (le-leb n (length b) h, le-leb n capacity k, ← e) (cells_encode cs v)

size_held : (b : List ℕ) (n : ℕ) (cs : List Cell) → InForm b n cs → length (encode cs) ≡ n
size_held b n cs f = ap length f.run.bytes ∙ length-take-le n b f.inside

-- ---- what an edit hands back: the cells behind it, in a buffer as long as before

pub record Kept (b : List ℕ) (cs : List Cell) (r : Edit) : Type 0 where
  pub held : cells_held r.buffer r.length ≡ Some cs
  pub size : length r.buffer ≡ length b

front_written : (b e z : List ℕ) → length (e ++ z) ≤ length b → take (length e) (sets b 0 (e ++ z)) ≡ e
front_written b e z h =
    ap (take (length e)) (sets-eq (e ++ z) b 0 (omega arith) ∙ append_assoc e z (drop (0 + length (e ++ z)) b))
    ∙ take-append_seam e (z ++ drop (0 + length (e ++ z)) b)

written_kept : (b : List ℕ) (n : ℕ) (ds : List Cell) → n ≤ length b → Valid ds → length (encode ds) ≤ length b → length (encode ds) ≤ capacity → Kept b ds (written b n ds)
unfolding written
written_kept b n ds h v k l =
    let e : List ℕ = encode ds in
    let z : List ℕ = replicate (n - length e) 0 in
    let s : length (sets b 0 (e ++ z)) ≡ length b = length-sets b 0 (e ++ z) in
    let f : take (length e) (sets b 0 (e ++ z)) ≡ e = front_written b e z (omega (arith, length-append e z, length-replicate {A = ℕ} (n - length e) 0)) in
    record { held = form_held (sets b 0 (e ++ z)) (length e) ds (omega arith) l (sym f) v; size = s }

fits_says : (size : ℕ) (cs : List Cell) → fits size cs ≡ true → (length (encode cs) ≤ size) × (length (encode cs) ≤ capacity)
unfolding fits
fits_says size cs e = let t = and_true _ _ e in (leb-true _ _ t.0, leb-true _ _ t.1)

module _ (b : List ℕ) (n : ℕ) (cs : List Cell) (h : cells_held b n ≡ Some cs) where
  -- the cells that an edit leaves are held by what it hands back
  abbrev Keeps : CellEdit → Type 0
  Keeps x = Kept b x.left (written_out b n x)

  refused_kept : (e : Refusal) → Keeps (refused_on e cs)
  unfolding written_by
  refused_kept e = record { held = h; size = refl }

  put_kept : (s : List ℕ) (o : Option Cell) → whole_cell s ≡ o → Keeps (put_on (length b) o cs)
  unfolding put_on written_by
  put_kept s None e = refused_kept BadRequest
  put_kept s (Some c) e = go (fits (length b) (with c cs)) refl
    where
      go : (t : Bool) → fits (length b) (with c cs) ≡ t → Keeps (cond t (done_on (with c cs)) (refused_on StoreFull cs))
      go true f =
          let i = held_form b n cs h in
          let t = fits_says (length b) (with c cs) f in
          written_kept b n (with c cs) i.inside (with_valid c cs (cell_allowed_law s c e) i.run.valid) t.0 t.1
      go false f = refused_kept StoreFull

  taken_kept : (k : ℕ) (o : Option Cell) → Keeps (taken_out k cs o)
  unfolding taken_out written_by
  taken_kept k None = refused_kept NoCell
  taken_kept k (Some c) =
      let i = held_form b n cs h in
      let t : length (encode (without k cs)) ≤ n = subst (λ (x : ℕ). length (encode (without k cs)) ≤ x) (size_held b n cs i) (without_shorter k cs) in
      written_kept b n (without k cs) i.inside (without_valid k cs i.run.valid) (le_trans t i.inside) (le_trans t i.limit)

  remove_kept : (o : Option Key) → Keeps (remove_on o cs)
  unfolding remove_on
  remove_kept None = refused_kept BadRequest
  remove_kept (Some k) = taken_kept (key_as_number k) (lookup (key_as_number k) cs)

-- From a store in form every edit leaves one in form, with the cells that its definition gives: "Put adds or replaces the cell
-- of a key", "Remove takes it out", and a refused edit changes nothing. The buffer stays as long as it was.
pub form_kept : (e : Change) (m : LentStore) (cs : List Cell) → cells_held_by m ≡ Some cs → Kept m.buffer (edited (length m.buffer) e cs).left (handed_back e m)
unfolding handed_back edited put_of remove_of checked_edit
form_kept (put s) m cs h = rw h (put_kept m.buffer m.length cs h s (whole_cell s) refl)
form_kept (remove s) m cs h = rw h (remove_kept m.buffer m.length cs h (whole_key s))

written_end : (b : List ℕ) (n : ℕ) (cs : List Cell) (x : Ended) → (written_by b n cs x).end ≡ x
unfolding written_by written
written_end b n cs Finished = refl
written_end b n cs (Halted h l) = refl

-- and it ends as it does on the cells
pub end_kept : (e : Change) (m : LentStore) (cs : List Cell) → cells_held_by m ≡ Some cs → edit_end e m ≡ (edited (length m.buffer) e cs).end
unfolding handed_back edited put_of remove_of checked_edit
end_kept (put s) m cs h =
    ap (λ (o : Option (List Cell)). (checked_edit m.buffer m.length (put_on (length m.buffer) (whole_cell s)) o).end) h ∙ written_end m.buffer m.length _ _
end_kept (remove s) m cs h =
    ap (λ (o : Option (List Cell)). (checked_edit m.buffer m.length (remove_on (whole_key s)) o).end) h ∙ written_end m.buffer m.length _ _

-- ---- "Refused edits change nothing and hand back the old length"

-- a refused edit leaves the cells
pub refused_left : (size : ℕ) (e : Change) (cs : List Cell) → succeeded (edited size e cs).end ≡ false → (edited size e cs).left ≡ cs
unfolding edited put_on remove_on taken_out succeeded
refused_left size (put s) cs = go (whole_cell s)
  where
    by : (c : Cell) (t : Bool) → succeeded (cond t (done_on (with c cs)) (refused_on StoreFull cs)).end ≡ false → (cond t (done_on (with c cs)) (refused_on StoreFull cs)).left ≡ cs
    by c true e = absurd (true≢false e)
    by c false e = refl

    go : (o : Option Cell) → succeeded (put_on size o cs).end ≡ false → (put_on size o cs).left ≡ cs
    go None e = refl
    go (Some c) e = by c (fits size (with c cs)) e
refused_left size (remove s) cs = go (whole_key s)
  where
    by : (k : ℕ) (o : Option Cell) → succeeded (taken_out k cs o).end ≡ false → (taken_out k cs o).left ≡ cs
    by k None e = refl
    by k (Some c) e = absurd (true≢false e)

    go : (o : Option Key) → succeeded (remove_on o cs).end ≡ false → (remove_on o cs).left ≡ cs
    go None e = refl
    go (Some k) e = by (key_as_number k) (lookup (key_as_number k) cs) e

written_stays : (b : List ℕ) (n : ℕ) (cs : List Cell) (x : Ended) → succeeded (written_by b n cs x).end ≡ false → handed_on (written_by b n cs x) ≡ record { buffer = b; length = n }
unfolding written_by written succeeded
written_stays b n cs Finished e = absurd (true≢false e)
written_stays b n cs (Halted h l) e = refl

checked_stays : (b : List ℕ) (n : ℕ) (f : List Cell → CellEdit) (o : Option (List Cell)) → succeeded (checked_edit b n f o).end ≡ false → handed_on (checked_edit b n f o) ≡ record { buffer = b; length = n }
unfolding checked_edit
checked_stays b n f None = λ e. refl
checked_stays b n f (Some cs) = written_stays b n (f cs).left (f cs).end

-- A refused edit keeps every byte and the length.
pub refused_keeps : (e : Change) (m : LentStore) → accepted e m ≡ false → after_change e m ≡ m
unfolding handed_back put_of remove_of
refused_keeps (put s) m = checked_stays m.buffer m.length (put_on (length m.buffer) (whole_cell s)) (cells_held_by m)
refused_keeps (remove s) m = checked_stays m.buffer m.length (remove_on (whole_key s)) (cells_held_by m)

-- 1: "The store breaks its form": every edit is refused with it
pub out_of_form_once : (e : Change) (m : LentStore) → cells_held_by m ≡ None → handed_back e m ≡ refused_edit m.buffer m.length BadStore
unfolding handed_back put_of remove_of checked_edit
out_of_form_once (put s) m h = rw h
out_of_form_once (remove s) m h = rw h
