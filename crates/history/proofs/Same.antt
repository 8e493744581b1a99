-- Two runs across a list of edits.
use mathlib.Core.Path.{◌≡◌, sym}
use mathlib.Core.List.{List, [], ◌∷◌}
use Prim.Native.Nat.{ℕ}
use Rattle.meaning.specs.Answer.{Answer}
use Rattle.meaning.specs.Tree.{run}
use Rattle.meaning.specs.Meaning.{Meaning}
use Rattle.meaning.specs.Compare.{Agree}
use Rattle.meaning.specs.declared.question.Question.{Question}
use Rattle.meaning.proofs.Comparing.{same}
use Rattle.history.specs.LentStore.{LentStore, in_form, answer_in, AsBefore}
use Rattle.history.specs.Change.{Change}
use Rattle.history.specs.History.{after_changes}
use Rattle.history.proofs.Lists.{same_form}

-- a run is handed a store in form or one out of form both times, and the stores agree on the questions of the list
pub record SameAnswers (m m' : LentStore) (qs : List Question) : Type 0 where
  pub form : in_form m ≡ in_form m'
  pub agree : Agree (answer_in m) (answer_in m') qs

before_agree : (m m' : LentStore) (qs : List Question) → AsBefore m m' qs → Agree (answer_in m) (answer_in m') qs
before_agree m m' [] h = tt
before_agree m m' (q ∷ qs) h = (sym h.0, before_agree m m' qs h.1)

-- Towards demand 3: "one claim about the whole list of edits, the empty list included", "from the store, of any bytes, that the
-- first run was handed".
pub same_answers : (es : List Change) (m : LentStore) (qs : List Question) → AsBefore m (after_changes es m) qs → SameAnswers m (after_changes es m) qs
same_answers es m qs h = record { form = sym (same_form es m); agree = before_agree m (after_changes es m) qs h }

-- The same through any view of a store, such as a list of rights, if each question that the first run asked is answered by it as
-- before.
pub same_view : {A : Type 0} (view : LentStore → Question → Answer) (es : List Change) (m : LentStore) (places room : ℕ) (t : Meaning A)
    → Agree (view m) (view (after_changes es m)) (run (view m) places room t).asked
    → run (view m) places room t ≡ run (view (after_changes es m)) places room t
same_view view es m places room t h = same (view m) (view (after_changes es m)) places room t h

-- any tree has the same run on both, if each question that the first run asked is answered as before
pub same_run : {A : Type 0} (es : List Change) (m : LentStore) (places room : ℕ) (t : Meaning A)
    → AsBefore m (after_changes es m) (run (answer_in m) places room t).asked
    → run (answer_in m) places room t ≡ run (answer_in (after_changes es m)) places room t
same_run es m places room t h =
    same_view answer_in es m places room t (same_answers es m (run (answer_in m) places room t).asked h).agree
