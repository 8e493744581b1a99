-- Arguments within their limits, and $REC and $TBL, ask only questions within theirs: `ask` would answer none of them with 15.
use mathlib.Core.Path.{◌≡◌, refl}
use mathlib.Core.Bool.{Bool, true, false, cond, false≢true}
use mathlib.Core.List.{List, ◌∷◌}
use Prim.Native.Nat.{ℕ, zero, suc, ◌+◌, ◌≤◌, ◌<◌}
use native.Mathlib.Omega.{arith}
use borrow.Author.Tests.{le-leb, leb-true}
use lib.Dec.{leb}
use lib.IntN.{ℤ, pos, negsuc}
use Rattle.meaning.specs.Answer.{Answer}
use Rattle.meaning.specs.Tree.{done, stop, ask, bind}
use Rattle.meaning.specs.Meaning.{Meaning, asks_each}
use Rattle.meaning.specs.declared.question.Question.{Question}
use Rattle.meaning.specs.declared.refusal.Refusal.TheVariants.{BadIndex}
use Rattle.meaning.proofs.Yielding.{Yields}
use Rattle.meaning.proofs.Questions.{Asks, asks_bind, asks_then}
use Rattle.cells.specs.Cell.{between, key_allowed}
use Rattle.cells.specs.Asking.{question_allowed}
use Rattle.cells.specs.Inner.Tests.{unused_zero}
use Rattle.cells.proofs.Questions.{by_numbers}
use Rattle.cells.proofs.Limits.{AnswerWithin}
use Rattle.arguments.specs.declared.argument.Argument.{Argument}
use Rattle.arguments.specs.declared.argument.Filter.{Filter}
use Rattle.arguments.specs.declared.argument.Filter.TheVariants.{Unfiltered, Absolute, Truncated, UpperCase, Length, RecordCount, EntryCount}
use Rattle.arguments.specs.declared.index.Index.{Index}
use Rattle.arguments.specs.declared.index.Index.TheVariants.{Fixed}
use Rattle.arguments.specs.declared.operand.Operand.{Operand}
use Rattle.arguments.specs.declared.operand.Operand.TheVariants.{NumberLiteral, StringLiteral, IntegerVariable, DecimalVariable, StringVariable, PageNumber, LineNumber, LoopCounter, RecordElement, EntryElement, Parameter, Record, Entry}
use Rattle.arguments.specs.Admitted.{of_entries, neither, count_of, admits}
use Rattle.arguments.proofs.Parsed.{Between, OperandWithin, ArgumentWithin}
use Rattle.values.specs.declared.fetch.Along.{Along}
use Rattle.values.specs.declared.fetch.Along.TheVariants.{Records, Entries}
use Rattle.values.specs.Machine.{Machine}
use Rattle.values.specs.Indexes.{index_number, limited, index_value}
use Rattle.values.specs.Asking.{question, asks, cell_meaning}
use Rattle.values.specs.Fetching.{element_question, element_questions, count_value, first_along, asks_elements, fetch_meaning}
use Rattle.values.specs.Worth.{answered, filtered, question_kind}
use Rattle.values.specs.Meanings.{worth_of, operand_meaning, argument_meaning}

-- a question that `ask` doesn't refuse with 15
abbrev pub Allowed : Question → Type 0
Allowed q = question_allowed q ≡ true

abbrev pub AsksAllowed : {A : Type 0} → Meaning A → Type 0
AsksAllowed t = Asks AnswerWithin Allowed t

question_allowed_law : (d kind p r e : ℕ) → Between 1 35 d → Between 1 65535 p → r ≤ 999 → e ≤ 999 → unused_zero (question kind d p r e) ≡ true → Allowed (question kind d p r e)
unfolding key_allowed between
question_allowed_law d kind p r e a b i j u = rw (by_numbers (question kind d p r e), le-leb 1 d a.least, le-leb d 35 a.most, le-leb 1 p b.least, le-leb p 65535 b.most, le-leb r 999 i, le-leb e 999 j) u

-- "Unused numbers are 0.": kinds 2 and 3 are asked where |RECCNT and |ENTCNT may stand
of_parameter_law : (d p : ℕ) (f : Filter) → unused_zero (question (question_kind f) d p 0 0) ≡ true
unfolding unused_zero question_kind
of_parameter_law d p Unfiltered = refl
of_parameter_law d p Absolute = refl
of_parameter_law d p Truncated = refl
of_parameter_law d p UpperCase = refl
of_parameter_law d p Length = refl
of_parameter_law d p RecordCount = refl
of_parameter_law d p EntryCount = refl

of_record_law : (d p r : ℕ) (f : Filter) → admits f of_entries ≡ true → unused_zero (question (question_kind f) d p r 0) ≡ true
unfolding unused_zero question_kind admits
of_record_law d p r Unfiltered a = refl
of_record_law d p r Absolute a = refl
of_record_law d p r Truncated a = refl
of_record_law d p r UpperCase a = refl
of_record_law d p r Length a = refl
of_record_law d p r RecordCount a = absurd (false≢true a)
of_record_law d p r EntryCount a = refl

of_entry : (d p r e : ℕ) (f : Filter) → admits f neither ≡ true → unused_zero (question (question_kind f) d p r e) ≡ true
unfolding unused_zero question_kind admits
of_entry d p r e Unfiltered a = refl
of_entry d p r e Absolute a = refl
of_entry d p r e Truncated a = refl
of_entry d p r e UpperCase a = refl
of_entry d p r e Length a = refl
of_entry d p r e RecordCount a = absurd (false≢true a)
of_entry d p r e EntryCount a = absurd (false≢true a)

-- ---- indexes

abbrev Low : ℕ → Type 0
Low k = k ≤ 999

limited_low : (line : ℕ) (z : ℤ) → AsksAllowed (limited line z) × Yields AnswerWithin (limited line z) Low
unfolding limited
limited_low line (negsuc k) = (tt, tt)
limited_low line (pos k) = go (leb k 999) refl
  where
    go : (b : Bool) → leb k 999 ≡ b → AsksAllowed (cond {A = Meaning ℕ} b (done k) (stop BadIndex line)) × Yields AnswerWithin (cond {A = Meaning ℕ} b (done k) (stop BadIndex line)) Low
    go true e = (tt, leb-true k 999 e)
    go false e = (tt, tt)

module _ (m : Machine) (line : ℕ) where
  index_asks : (i : Index) → AsksAllowed (index_value m line i)
  unfolding index_value
  index_asks i = (limited_low line (index_number m.variables.integers m.counter i)).0

  index_low : (i : Index) → Yields AnswerWithin (index_value m line i) Low
  unfolding index_value
  index_low i = (limited_low line (index_number m.variables.integers m.counter i)).1

  -- "absent parts 0"
  absent : Yields AnswerWithin (index_value m line (Fixed 0)) (λ k. k ≡ 0)
  unfolding index_value index_number limited
  absent = refl

  -- ---- arguments

  cell_asks : (kind p : ℕ) (i j : Index) (Φ Ψ : ℕ → Type 0) → Yields AnswerWithin (index_value m line i) Φ → Yields AnswerWithin (index_value m line j) Ψ → ((r e : ℕ) → Φ r → Ψ e → Allowed (question kind m.datasource p r e)) → AsksAllowed (worth_of (cell_meaning m line kind p i j))
  unfolding worth_of cell_meaning asks
  cell_asks kind p i j Φ Ψ x y h =
      asks_then AnswerWithin Allowed (cell_meaning m line kind p i j) (λ a. done (answered a))
      (asks_bind AnswerWithin Allowed (index_value m line i) (λ r. bind (index_value m line j) (λ e. ask (question kind m.datasource p r e) line (λ a. done a))) Φ (index_asks i) x (λ r k.
      asks_bind AnswerWithin Allowed (index_value m line j) (λ e. ask (question kind m.datasource p r e) line (λ a. done a)) Ψ (index_asks j) y (λ e l. (h r e k l, λ a w. tt))))
      (λ a. tt)

  module _ (d : Between 1 35 m.datasource) (s : List ℕ) where
    operand_asks : (f : Filter) (o : Operand) → OperandWithin s o → admits f (count_of o) ≡ true → AsksAllowed (operand_meaning m s line (question_kind f) o)
    unfolding operand_meaning count_of
    operand_asks f (NumberLiteral q) b a = tt
    operand_asks f (StringLiteral x y) b a = tt
    operand_asks f (IntegerVariable n) b a = tt
    operand_asks f (DecimalVariable n) b a = tt
    operand_asks f (StringVariable n) b a = tt
    operand_asks f PageNumber b a = tt
    operand_asks f LineNumber b a = tt
    operand_asks f LoopCounter b a = tt
    operand_asks f (RecordElement n) b a = tt
    operand_asks f (EntryElement n) b a = tt
    operand_asks f (Parameter p) b a =
        cell_asks (question_kind f) p (Fixed 0) (Fixed 0) (λ k. k ≡ 0) (λ k. k ≡ 0) absent absent (λ r e x y. rw (x, y) (question_allowed_law m.datasource (question_kind f) p 0 0 d b (omega arith) (omega arith) (of_parameter_law m.datasource p f)))
    operand_asks f (Record p i) b a =
        cell_asks (question_kind f) p i (Fixed 0) Low (λ k. k ≡ 0) (index_low i) absent (λ r e x y. rw y (question_allowed_law m.datasource (question_kind f) p r 0 d b.0 x (omega arith) (of_record_law m.datasource p r f a)))
    operand_asks f (Entry p i j) b a =
        cell_asks (question_kind f) p i j Low Low (index_low i) (index_low j) (λ r e x y. question_allowed_law m.datasource (question_kind f) p r e d b.0 x y (of_entry m.datasource p r e f a))

    -- An argument within its limits asks only questions within theirs.
    pub argument_asks : (a : Argument) → ArgumentWithin s a → AsksAllowed (argument_meaning m s line a)
    unfolding argument_meaning
    argument_asks a b =
        asks_then AnswerWithin Allowed (operand_meaning m s line (question_kind a.filter) a.operand) (λ w. done (filtered a.filter w)) (operand_asks a.filter a.operand b.operand b.filter) (λ w. tt)

-- ---- $REC and $TBL

each_asks : (line : ℕ) (q : ℕ → Question) (k n : ℕ) → ((j : ℕ) → j < k + n → Allowed (q j)) → AsksAllowed (asks_each line (element_questions q k n))
unfolding asks_each element_questions
each_asks line q k zero h = tt
each_asks line q k (suc n) h =
    (h k (omega arith), λ r p. asks_then AnswerWithin Allowed (asks_each line (element_questions q (suc k) n)) (λ rest. done (r ∷ rest)) (each_asks line q (suc k) n (λ j l. h j (omega arith))) (λ l. tt))

element_allowed : (d : ℕ) (along : Along) (p r e n j : ℕ) → Between 1 35 d → Between 1 65535 p → r ≤ 999 → e ≤ 999 → first_along along r e + n ≤ 1000 → j < n → Allowed (element_question d along p r e j)
unfolding element_question first_along admits question_kind
element_allowed d Records p r e n j a b x y l k = question_allowed_law d 1 p (r + j) e a b (omega arith) y (of_entry d p (r + j) e Unfiltered refl)
element_allowed d Entries p r e n j a b x y l k = question_allowed_law d 1 p r (e + j) a b x (omega arith) (of_entry d p r (e + j) Unfiltered refl)

count_asks : (line : ℕ) (z : ℤ) → AsksAllowed (count_value line z)
unfolding count_value
count_asks line (pos n) = go (leb n 64)
  where
    go : (b : Bool) → AsksAllowed (cond {A = Meaning ℕ} b (done n) (stop BadIndex line))
    go true = tt
    go false = tt
count_asks line (negsuc n) = tt

pub fetch_asks : (m : Machine) (line : ℕ) (along : Along) (p : ℕ) (i j c : Index) → Between 1 35 m.datasource → Between 1 65535 p → AsksAllowed (fetch_meaning m line along p i j c)
unfolding fetch_meaning asks_elements
fetch_asks m line along p i j c d b =
    asks_bind AnswerWithin Allowed (index_value m line i) _ Low (index_asks m line i) (index_low m line i) (λ r x.
    asks_bind AnswerWithin Allowed (index_value m line j) _ Low (index_asks m line j) (index_low m line j) (λ e y.
    asks_then AnswerWithin Allowed (count_value line (index_number m.variables.integers m.counter c)) _ (count_asks line (index_number m.variables.integers m.counter c)) (λ n.
    by r e n x y (leb (first_along along r e + n) 1000) refl)))
  where
    by : (r e n : ℕ) → r ≤ 999 → e ≤ 999 → (t : Bool) → leb (first_along along r e + n) 1000 ≡ t → AsksAllowed (cond {A = Meaning (List Answer)} t (asks_each line (element_questions (element_question m.datasource along p r e) 0 n)) (stop BadIndex line))
    by r e n x y true q = each_asks line (element_question m.datasource along p r e) 0 n (λ k l. element_allowed m.datasource along p r e n k d b x y (leb-true (first_along along r e + n) 1000 q) (omega arith))
    by r e n x y false q = tt
