-- What a put and a remove leave to be found, whatever edits of other keys follow.
use Rattle.std.specs.Prelude.{Option, Some, None}
use mathlib.Core.Path.{◌≡◌, refl, sym, ap, ◌∙◌, subst}
use mathlib.Core.Bool.{Bool, true, false, cond, true≢false, false≢true}
use mathlib.Core.List.{List, ◌∷◌}
use Prim.Native.Nat.{ℕ}
use native.Mathlib.Omega.{arith}
use lib.ListN.{length}
use Rattle.meaning.specs.declared.refusal.Refusal.{Refusal}
use Rattle.meaning.specs.declared.refusal.Refusal.TheVariants.{StoreFull, NoCell}
use Rattle.meaning.specs.Answer.{missing, cell}
use Rattle.meaning.specs.declared.end.Ended.{Ended}
use Rattle.meaning.specs.declared.end.Ended.TheVariants.{Finished, Halted}
use Rattle.cells.specs.Cell.{Key, Cell, key_as_number, key_allowed, whole_cell, whole_key}
use Rattle.store.specs.Edit.{with, refused_on, done_on, fits, put_on, taken_out, remove_on}
use Rattle.cells.specs.Asking.{refused_with, query_of, query_allowed, question_allowed, lookup, found, query_answer, answer, answered_ask}
use Rattle.cells.proofs.CellForm.{key_allowed_law as cell-key-allowed}
use Rattle.history.specs.LentStore.{LentStore, cells_held_by, ask_in, cell_question}
use Rattle.history.specs.Change.{Change, put, remove, after_change, edit_end, succeeded, accepted, edited}
use Rattle.history.specs.History.{after_changes, untouched}
use Rattle.history.proofs.Lookup.{lookup_with, lookup_without}
use Rattle.history.proofs.Answers.{answered, other_key}
use Rattle.history.proofs.Form.{cell_allowed_law, key_allowed_law, form_kept, end_kept, out_of_form_once}

accepted_end : (x : Ended) → succeeded x ≡ true → x ≡ Finished
unfolding succeeded
accepted_end Finished e = refl
accepted_end (Halted h l) e = absurd (false≢true e)

-- an accepted edit was accepted on the cells too, and leaves those of its definition
record AcceptedOn (e : Change) (m : LentStore) : Type 0 where
  cells : List Cell
  done : (edited (length m.buffer) e cells).end ≡ Finished
  left : cells_held_by (after_change e m) ≡ Some (edited (length m.buffer) e cells).left

accepted_cells : (e : Change) (m : LentStore) → accepted e m ≡ true → AcceptedOn e m
unfolding succeeded
accepted_cells e m a = go (cells_held_by m) refl
  where
    go : (o : Option (List Cell)) → cells_held_by m ≡ o → AcceptedOn e m
    go None h = absurd (true≢false (sym a ∙ ap (λ r. succeeded r.end) (out_of_form_once e m h)))
    go (Some cs) h = record { cells = cs; done = sym (end_kept e m cs h) ∙ accepted_end (edit_end e m) a; left = (form_kept e m cs h).held }

-- the question for the cell of a key within the limits, to a store in form
cell_asked : (m : LentStore) (k : Key) (cs : List Cell) → key_allowed k ≡ true → cells_held_by m ≡ Some cs → ask_in m (cell_question k) ≡ answered_ask (found (lookup (key_as_number k) cs))
unfolding query_of query_allowed question_allowed query_answer answer
cell_asked m k cs a h = answered m cs (cell_question k) h a

-- the key that an accepted edit settles is answered so for as long as no other edit of it is accepted
settled : (e : Change) (k : Key) (o : Option Cell) (es : List Change) (m : LentStore)
    → key_allowed k ≡ true → ((cs : List Cell) → (edited (length m.buffer) e cs).end ≡ Finished → lookup (key_as_number k) (edited (length m.buffer) e cs).left ≡ o) → accepted e m ≡ true → untouched k es (after_change e m) ≡ true
    → ask_in (after_changes (e ∷ es) m) (cell_question k) ≡ answered_ask (found o)
unfolding after_changes
settled e k o es m h f a u =
    let p = accepted_cells e m a in
    other_key (cell_question k) es (after_change e m) refl u ∙ cell_asked (after_change e m) k (edited (length m.buffer) e p.cells).left h p.left ∙ ap (λ x. answered_ask (found x)) (f p.cells p.done)

refused_apart : (e : Refusal) → refused_with e ≡ Finished → ⊥
refused_apart e q = let z : ◌≡◌ {A = ℕ} 0 1 = cc in omega arith

-- a put that is accepted leaves its cell to be found, a remove that is accepted none
put_found : (size : ℕ) (c : Cell) (cs : List Cell) → (put_on size (Some c) cs).end ≡ Finished → lookup (key_as_number c.key) (put_on size (Some c) cs).left ≡ Some c
unfolding put_on
put_found size c cs = go (fits size (with c cs))
  where
    go : (t : Bool) → (cond t (done_on (with c cs)) (refused_on StoreFull cs)).end ≡ Finished → lookup (key_as_number c.key) (cond t (done_on (with c cs)) (refused_on StoreFull cs)).left ≡ Some c
    go true e = lookup_with c cs
    go false e = absurd (refused_apart StoreFull e)

remove_missing : (k : Key) (cs : List Cell) → (remove_on (Some k) cs).end ≡ Finished → lookup (key_as_number k) (remove_on (Some k) cs).left ≡ None
unfolding remove_on taken_out
remove_missing k cs = go (lookup (key_as_number k) cs)
  where
    go : (o : Option Cell) → (taken_out (key_as_number k) cs o).end ≡ Finished → lookup (key_as_number k) (taken_out (key_as_number k) cs o).left ≡ None
    go None e = absurd (refused_apart NoCell e)
    go (Some c) e = lookup_without (key_as_number k) cs

-- Demand 2: a cell put is found with its kind and value after any list of further edits, accepted or refused, none of which is
-- an accepted put or remove of that key.
pub found_after : (s : List ℕ) (c : Cell) (es : List Change) (m : LentStore)
    → whole_cell s ≡ Some c → accepted (put s) m ≡ true → untouched c.key es (after_change (put s) m) ≡ true
    → ask_in (after_changes (put s ∷ es) m) (cell_question c.key) ≡ answered_ask (cell c.value)
unfolding found edited
found_after s c es m w =
    settled (put s) c.key (Some c) es m (cell-key-allowed c (cell_allowed_law s c w))
    (λ cs. subst (λ (o : Option Cell). (put_on (length m.buffer) o cs).end ≡ Finished → lookup (key_as_number c.key) (put_on (length m.buffer) o cs).left ≡ Some c) (sym w) (put_found (length m.buffer) c cs))

-- The same of a remove: the key is missing.
pub missing_after : (s : List ℕ) (k : Key) (es : List Change) (m : LentStore)
    → whole_key s ≡ Some k → accepted (remove s) m ≡ true → untouched k es (after_change (remove s) m) ≡ true
    → ask_in (after_changes (remove s ∷ es) m) (cell_question k) ≡ answered_ask missing
unfolding found edited
missing_after s k es m w =
    settled (remove s) k None es m (key_allowed_law s k w)
    (λ cs. subst (λ (o : Option Key). (remove_on o cs).end ≡ Finished → lookup (key_as_number k) (remove_on o cs).left ≡ None) (sym w) (remove_missing k cs))
