-- Calls by their contracts: what each was handed, what it handed back, and the equation that it promises of both.
use Rattle.std.specs.Prelude.{◌≡◌, false, List, [], ◌∷◌, ℕ, take}
use Rattle.meaning.specs.Answer.{Answer}
use Rattle.meaning.specs.declared.question.Question.{Question}
use Rattle.meaning.specs.declared.end.Ended.TheVariants.{Finished}
use Rattle.cells.specs.declared.Asked.{Asked}
use Rattle.cells.specs.Cell.{Key}
use Rattle.cells.specs.Asking.{asked_of, meant}
use Rattle.store.specs.declared.Edited.{Edited}
use Rattle.store.specs.Edit.{put_of, remove_of, edit}
use Rattle.history.specs.LentStore.{LentStore}
use Rattle.history.specs.Change.{Change, put, remove, key_named, is_key}
use Rattle.report.specs.declared.Report.{Report}
use Rattle.report.specs.Reported.{Reported}

-- ---- report

-- a call of `report` on a store: the text buffer and the read list that it was lent, what they hold afterwards, what it returned
pub record ReportCall (t name : List ℕ) (m : LentStore) : Type 0 where
  pub text : List ℕ
  pub reads : List Question
  pub text_after : List ℕ
  pub reads_after : List Question
  pub returned : Report
  pub contract : Reported t name m.buffer m.length text reads text_after reads_after returned

-- "text printed, questions asked": as many as the call counts
abbrev pub text_printed : List ℕ → Report → List ℕ
text_printed T r = take r.bytes T

abbrev pub questions_asked : List Question → Report → List Question
questions_asked R r = take r.questions R

-- ---- put and remove

-- what was handed in, what was returned, and the store's buffer afterwards
pub record EditCall : Type 0 where
  pub change : Change
  pub returned : Edited
  pub buffer : List ℕ

-- the contracts of `put` and `remove`, on the store that they were handed
abbrev pub Promised : LentStore → Change → Edited → List ℕ → Type 0
Promised m (put s) r b = edit r b ≡ put_of m.buffer m.length s
Promised m (remove s) r b = edit r b ≡ remove_of m.buffer m.length s

-- "in the same buffer, at the length last handed back"
abbrev pub store_after : EditCall → LentStore
store_after x = record { buffer = x.buffer; length = x.returned.length }

-- calls one after the other, from a store on
abbrev pub InTurn : LentStore → List EditCall → Type 0
InTurn m [] = Unit {0}
InTurn m (x ∷ xs) = Promised m x.change x.returned x.buffer × InTurn (store_after x) xs

-- the store after the last of them, "the first run's until an edit hands one back"
abbrev pub last_handed : LentStore → List EditCall → LentStore
last_handed m [] = m
last_handed m (x ∷ xs) = last_handed (store_after x) xs

-- no call of the list is a later accepted edit of the key
abbrev pub OtherKeys : Key → List EditCall → Type 0
OtherKeys k [] = Unit {0}
OtherKeys k (x ∷ xs) = (x.returned.end ≡ Finished → is_key k (key_named x.change) ≡ false) × OtherKeys k xs

-- ---- ask

-- a call of `ask` on a store
pub record AskCall (m : LentStore) (q : Question) : Type 0 where
  pub returned : Asked
  pub contract : returned ≡ asked_of m.buffer m.length q

-- the call of ask ended with 0, and this is the answer that it hands back
pub record AnswersWith (m : LentStore) (q : Question) (a : Answer) (x : AskCall m q) : Type 0 where
  pub finishes : x.returned.end ≡ Finished
  pub answer : meant m.buffer x.returned.answer ≡ a

-- the answer that `ask` gives; a string's bytes are read in the store, where it says that they stand
abbrev pub answer_to : LentStore → Question → Answer
answer_to m q = meant m.buffer (asked_of m.buffer m.length q).answer

-- "An answer is as before if it is the one the first run got: the same kind and value, missing again, or for kinds 2 and 3 the
-- same number."
abbrev pub AnsweredAsBefore : LentStore → LentStore → Question → Type 0
AnsweredAsBefore m m' q = answer_to m' q ≡ answer_to m q
