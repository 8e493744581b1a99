-- Demand 2's cell, of the calls: a cell put is found until a later accepted edit replaces or removes it.
use Rattle.std.specs.Prelude.{Some}
use mathlib.Core.Path.{◌≡◌, ap, ◌∙◌, subst}
use mathlib.Core.Bool.{true}
use mathlib.Core.List.{List, ◌∷◌}
use Prim.Native.Nat.{ℕ}
use Rattle.meaning.specs.Answer.{Answer, missing, cell}
use Rattle.meaning.specs.declared.question.Question.{Question}
use Rattle.meaning.specs.declared.end.Ended.TheVariants.{Finished}
use Rattle.cells.specs.declared.Asked.{Asked}
use Rattle.cells.specs.Cell.{Key, Cell, whole_cell, whole_key}
use Rattle.cells.specs.Asking.{Reply, answered_ask, asked_of, meant}
use Rattle.store.specs.declared.Edited.{Edited}
use Rattle.history.specs.LentStore.{LentStore, ask_in, cell_question}
use Rattle.history.specs.Change.{put, remove, after_change, succeeded, accepted}
use Rattle.history.specs.History.{after_changes, untouched}
use Rattle.history.proofs.Found.{found_after, missing_after}
use Rattle.demands.specs.Calls.{EditCall, store_after, InTurn, last_handed, OtherKeys, AskCall, AnswersWith}
use Rattle.demands.proofs.Answering.{answer_meant}
use Rattle.demands.proofs.Editing.{changes, left_is, end_is, after_calls, untouched_calls}

answers : (m : LentStore) (q : Question) (a : Answer) (x : AskCall m q) → ask_in m q ≡ answered_ask a → AnswersWith m q a x
unfolding asked_of
answers m q a x e = record {
  finishes = ap (λ (y : Asked). y.end) x.contract ∙ ap (λ (y : Reply). y.end) e;
  answer = ap (λ (y : Asked). meant m.buffer y.answer) x.contract ∙ answer_meant m.buffer m.length q ∙ ap (λ (y : Reply). y.answer) e;
}

module _ (m : LentStore) (x : EditCall) (xs : List EditCall) (h : InTurn m (x ∷ xs)) where
  was_accepted : x.returned.end ≡ Finished → accepted x.change m ≡ true
  unfolding succeeded
  was_accepted e = ap succeeded (end_is m x h.0 ∙ e)

  kept : (k : Key) → OtherKeys k xs → untouched k (changes xs) (after_change x.change m) ≡ true
  kept k o = rw (left_is m x h.0) (untouched_calls k (store_after x) xs h.1 o)

  asked_last : (q : Question) (a : Answer) → ask_in (after_changes (x.change ∷ changes xs) m) q ≡ answered_ask a → (y : AskCall (last_handed m (x ∷ xs)) q) → AnswersWith (last_handed m (x ∷ xs)) q a y
  asked_last q a e y = answers (last_handed m (x ∷ xs)) q a y (subst (λ (n : LentStore). ask_in n q ≡ answered_ask a) (after_calls m (x ∷ xs) h) e)

-- A put that ended with 0, then any calls of put and remove, none of them an accepted edit of its key: ask hands back its cell.
pub put_is_found : (m : LentStore) (s : List ℕ) (c : Cell) (r : Edited) (b : List ℕ) (xs : List EditCall)
    → InTurn m (record { change = put s; returned = r; buffer = b } ∷ xs) → whole_cell s ≡ Some c → r.end ≡ Finished → OtherKeys c.key xs
    → (y : AskCall (last_handed m (record { change = put s; returned = r; buffer = b } ∷ xs)) (cell_question c.key))
    → AnswersWith (last_handed m (record { change = put s; returned = r; buffer = b } ∷ xs)) (cell_question c.key) (cell c.value) y
put_is_found m s c r b xs h w e o =
    asked_last m x xs h (cell_question c.key) (cell c.value) (found_after s c (changes xs) m w (was_accepted m x xs h e) (kept m x xs h c.key o))
  where
    x : EditCall
    x = record { change = put s; returned = r; buffer = b }

-- The same of a remove: missing.
pub removed_is_missing : (m : LentStore) (s : List ℕ) (k : Key) (r : Edited) (b : List ℕ) (xs : List EditCall)
    → InTurn m (record { change = remove s; returned = r; buffer = b } ∷ xs) → whole_key s ≡ Some k → r.end ≡ Finished → OtherKeys k xs
    → (y : AskCall (last_handed m (record { change = remove s; returned = r; buffer = b } ∷ xs)) (cell_question k))
    → AnswersWith (last_handed m (record { change = remove s; returned = r; buffer = b } ∷ xs)) (cell_question k) missing y
removed_is_missing m s k r b xs h w e o =
    asked_last m x xs h (cell_question k) missing (missing_after s k (changes xs) m w (was_accepted m x xs h e) (kept m x xs h k o))
  where
    x : EditCall
    x = record { change = remove s; returned = r; buffer = b }
