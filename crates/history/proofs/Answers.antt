-- Answers before and after a list of edits.
use Rattle.std.specs.Prelude.{Option, Some, None}
use mathlib.Core.Path.{◌≡◌, refl, sym, ap, ◌∙◌}
use mathlib.Core.Bool.{Bool, true, false, cond}
use mathlib.Core.List.{List, [], ◌∷◌}
use Prim.Native.Nat.{ℕ}
use lib.ListN.{length}
use borrow.Author.Tests.{eqb-false, eq-eqb, not-true}
use Rattle.meaning.specs.declared.question.Question.{Question}
use Rattle.meaning.specs.declared.refusal.Refusal.TheVariants.{StoreFull}
use Rattle.cells.specs.Cell.{Key, Cell, key_as_number, whole_cell, whole_key}
use Rattle.cells.specs.Asking.{key_asked, query_of, query_allowed, question_allowed, lookup, query_answer, answer, answered_ask, replied, ask_of}
use Rattle.cells.proofs.BigEndian.{and_true}
use Rattle.store.specs.Edit.{with, refused_on, done_on, fits, put_on, taken_out, remove_on}
use Rattle.history.specs.LentStore.{LentStore, cells_held_by, ask_in}
use Rattle.history.specs.Change.{Change, put, remove, after_change, succeeded, accepted, key_of_cell, key_named, is_key, touches, edited}
use Rattle.history.specs.History.{after_changes, untouched, cells_after, cells_held_after}
use Rattle.history.proofs.Lookup.{lookup_with_other, lookup_without_other}
use Rattle.history.proofs.Form.{form_kept, end_kept, refused_left}
use Rattle.history.proofs.Lists.{folded}

-- Stores that hold the same cells answer every question alike.
pub answers_by_cells : (m m' : LentStore) → cells_held_by m ≡ cells_held_by m' → (q : Question) → ask_in m q ≡ ask_in m' q
unfolding ask_of
answers_by_cells m m' h q = ap (replied q) h

-- a store in form gives the answer by its cells to a question within the limits
pub answered : (m : LentStore) (cs : List Cell) (q : Question) → cells_held_by m ≡ Some cs → question_allowed q ≡ true → ask_in m q ≡ answered_ask (answer q cs)
unfolding ask_of replied
answered m cs q h a = rw (h, a)

-- ---- edits of other keys

pub edited_other : (size : ℕ) (k : Key) (e : Change) (cs : List Cell) → is_key k (key_named e) ≡ false → lookup (key_as_number k) (edited size e cs).left ≡ lookup (key_as_number k) cs
unfolding key_named key_of_cell is_key edited put_on remove_on taken_out
edited_other size k (put s) cs = go (whole_cell s)
  where
    by : (c : Cell) (t : Bool) → is_key k (key_of_cell (Some c)) ≡ false → lookup (key_as_number k) (cond t (done_on (with c cs)) (refused_on StoreFull cs)).left ≡ lookup (key_as_number k) cs
    by c true e = lookup_with_other (key_as_number k) c cs (eqb-false _ _ e)
    by c false e = refl

    go : (o : Option Cell) → is_key k (key_of_cell o) ≡ false → lookup (key_as_number k) (put_on size o cs).left ≡ lookup (key_as_number k) cs
    go None e = refl
    go (Some c) e = by c (fits size (with c cs)) e
edited_other size k (remove s) cs = go (whole_key s)
  where
    by : (l : Key) (o : Option Cell) → is_key k (Some l) ≡ false → lookup (key_as_number k) (taken_out (key_as_number l) cs o).left ≡ lookup (key_as_number k) cs
    by l None e = refl
    by l (Some c) e = lookup_without_other (key_as_number k) (key_as_number l) cs (eqb-false _ _ e)

    go : (o : Option Key) → is_key k o ≡ false → lookup (key_as_number k) (remove_on o cs).left ≡ lookup (key_as_number k) cs
    go None e = refl
    go (Some l) e = by l (lookup (key_as_number l) cs) e

-- an edit that is refused, or of another key
left_other : (k : Key) (e : Change) (m : LentStore) (cs : List Cell) → cells_held_by m ≡ Some cs → touches k e m ≡ false → lookup (key_as_number k) (edited (length m.buffer) e cs).left ≡ lookup (key_as_number k) cs
unfolding touches
left_other k e m cs h u = go (accepted e m) refl
  where
    go : (t : Bool) → accepted e m ≡ t → lookup (key_as_number k) (edited (length m.buffer) e cs).left ≡ lookup (key_as_number k) cs
    go true a = edited_other (length m.buffer) k e cs (rw a at u)
    go false a = ap (lookup (key_as_number k)) (refused_left (length m.buffer) e cs (ap succeeded (sym (end_kept e m cs h)) ∙ a))

lookup_kept : (k : Key) (es : List Change) (m : LentStore) (cs : List Cell) → cells_held_by m ≡ Some cs → untouched k es m ≡ true → lookup (key_as_number k) (cells_after (length m.buffer) es cs) ≡ lookup (key_as_number k) cs
unfolding untouched cells_after
lookup_kept k [] m cs h u = refl
lookup_kept k (e ∷ es) m cs h u =
    let t = and_true _ _ u in
    let i = form_kept e m cs h in
    let ds : List Cell = (edited (length m.buffer) e cs).left in
    ap (λ (size : ℕ). lookup (key_as_number k) (cells_after size es ds)) (sym i.size) ∙ lookup_kept k es (after_change e m) ds i.held t.1 ∙ left_other k e m cs h (not-true _ t.0)

-- "Kind 1 asks for the cell of a key": its answer is that of the cell found
answer_cell : (q : Question) (cs ds : List Cell) → q.kind ≡ 1 → lookup (key_as_number (key_asked q)) cs ≡ lookup (key_as_number (key_asked q)) ds → replied q (Some cs) ≡ replied q (Some ds)
unfolding replied query_of query_allowed question_allowed query_answer answer
answer_cell q cs ds h e = rw (eq-eqb q.kind 1 h, e)

-- Edits of other keys change no answer of kind 1: for any list of edits, from any bytes, none of them an accepted put or remove
-- of that key.
pub other_key : (q : Question) (es : List Change) (m : LentStore) → q.kind ≡ 1 → untouched (key_asked q) es m ≡ true → ask_in (after_changes es m) q ≡ ask_in m q
unfolding ask_of cells_held_after
other_key q es m h u = ap (replied q) (folded es m) ∙ go (cells_held_by m) refl
  where
    go : (o : Option (List Cell)) → cells_held_by m ≡ o → replied q (cells_held_after (length m.buffer) es o) ≡ replied q o
    go None e = refl
    go (Some cs) e = answer_cell q (cells_after (length m.buffer) es cs) cs h (lookup_kept (key_asked q) es m cs e u)
