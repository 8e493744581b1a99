-- What `ask` answers: over a ready index the code's answer is the same, and every answer's value lies within its limits.
use Rattle.std.specs.Prelude.{Option, Some, None}
use Rattle.std.proofs.Common.{◌≡◌, ℕ, ◌≤◌, max, Bool, true, false, cond, eqb, leb, List, [], ◌∷◌, length, nat_abs, sym, refl, ap, ◌∙◌, arith, leb-true}
use Rattle.numbers.specs.Range.{integer_limit, decimal_limit}
use Rattle.numbers.proofs.Laws.{within_true}
use Rattle.meaning.specs.Answer.{Value, string, Answer, missing, cell, highest}
use Rattle.meaning.specs.Answer as A
use Rattle.numbers.specs.declared.Quantity.TheVariants as Q
use Rattle.meaning.specs.declared.question.Question.{Question}
use Rattle.meaning.specs.declared.refusal.Refusal.TheVariants.{BadRequest}
use Rattle.cells.specs.declared.Answered.{Answered}
use Rattle.cells.specs.Cell.{Cell, key_as_number, key_number, printable, value_allowed, cell_allowed}
use Rattle.cells.specs.Store.{cells_allowed, cells_held}
use Rattle.cells.specs.Inner.Index.{Ready, Answers}
use Rattle.cells.specs.Asking.{Query, the_cell, highest_record, highest_entry, query_of, question_allowed, lookup, found, highest_of, of_parameter, of_record, query_answer, answer, answered_ask, refused_ask, replied, ask_of, meant}
use Rattle.cells.proofs.BigEndian.{and_true}
use Rattle.cells.proofs.CellForm.{limits, key_allowed_law, value_allowed_law}
use Rattle.cells.proofs.Locating.{held_some}

refused_missing : (t : Bool) (x : Answer) → cond t x missing ≡ (cond t (answered_ask x) (refused_ask BadRequest)).answer
refused_missing true x = refl
refused_missing false x = refl

-- What the code answers over the index is what `ask` answers.
pub same_answer : (b : List ℕ) (n : ℕ) (index : List ℕ) (count : ℕ) (cs : List Cell) (q : Question) (r : Answered) → Ready b n index count cs → Answers b index count q r → meant b r ≡ (ask_of b n q).answer
unfolding ask_of replied
same_answer b n index count cs q r k h = h.answer n cs k ∙ refused_missing (question_allowed q) (answer q cs) ∙ sym (ap (λ (o : Option (List Cell)). (replied q o).answer) k.holds)

-- ---- limits

-- "Values lie within ±2,000,000,000, so within ±2×10^15 millionths"; "a length 0–16"
abbrev pub ValueWithin : Value → Type 0
ValueWithin (A.number (Q.Integer z)) = nat_abs z ≤ integer_limit
ValueWithin (A.number (Q.Decimal z)) = nat_abs z ≤ decimal_limit
ValueWithin (string s) = length s ≤ 16

-- P of a cell's value; "record 0–999, entry 0–999"
abbrev pub AnswerHas : (Value → Type 0) → Answer → Type 0
AnswerHas P missing = Unit {0}
AnswerHas P (cell v) = P v
AnswerHas P (highest n) = n ≤ 999

abbrev pub AnswerWithin : Answer → Type 0
AnswerWithin a = AnswerHas ValueWithin a

value_within : (v : Value) → value_allowed v ≡ true → ValueWithin v
unfolding value_allowed
value_within (A.number (Q.Integer z)) h = within_true integer_limit z h
value_within (A.number (Q.Decimal z)) h = within_true decimal_limit z h
value_within (string s) h = leb-true (length s) 16 (and_true (leb (length s) 16) (printable s) h).0

highest_within : (m : Cell → Bool) (f : Cell → ℕ) → ((c : Cell) → cell_allowed c ≡ true → f c ≤ 999) → (cs : List Cell) → cells_allowed cs ≡ true → highest_of m f cs ≤ 999
unfolding cells_allowed highest_of
highest_within m f g [] h = omega arith
highest_within m f g (c ∷ cs) h = go (m c) (highest_within m f g cs t.1)
  where
    t : (cell_allowed c ≡ true) × (cells_allowed cs ≡ true)
    t = and_true (cell_allowed c) (cells_allowed cs) h

    go : (b : Bool) → highest_of m f cs ≤ 999 → max (cond b (f c) 0) (highest_of m f cs) ≤ 999
    go true r = omega (arith, g c t.0)
    go false r = omega arith

-- What every allowed value has, an answer's value has, whatever the store holds.
module _ (P : Value → Type 0) (every : (v : Value) → value_allowed v ≡ true → P v) where
  lookup_has : (n : ℕ) (cs : List Cell) → cells_allowed cs ≡ true → AnswerHas P (found (lookup n cs))
  unfolding cells_allowed found lookup
  lookup_has n [] h = tt
  lookup_has n (c ∷ cs) h = go (eqb (key_number c) n) (lookup_has n cs t.1)
    where
      t : (cell_allowed c ≡ true) × (cells_allowed cs ≡ true)
      t = and_true (cell_allowed c) (cells_allowed cs) h

      go : (b : Bool) → AnswerHas P (found (lookup n cs)) → AnswerHas P (found (cond b (Some c) (lookup n cs)))
      go true r = every c.value (value_allowed_law c t.0)
      go false r = r

  query_has : (o : Option Query) (cs : List Cell) → cells_allowed cs ≡ true → AnswerHas P (query_answer o cs)
  unfolding query_answer
  query_has None cs h = tt
  query_has (Some (the_cell k)) cs h = lookup_has (key_as_number k) cs h
  query_has (Some (highest_record d p)) cs h = highest_within (of_parameter d p) (λ c. c.key.record_number) (λ c k. (limits c.key (key_allowed_law c k)).record_number) cs h
  query_has (Some (highest_entry d p r)) cs h = highest_within (of_record d p r) (λ c. c.key.entry_number) (λ c k. (limits c.key (key_allowed_law c k)).entry_number) cs h

  pub ask_has : (b : List ℕ) (n : ℕ) (q : Question) → AnswerHas P (ask_of b n q).answer
  unfolding ask_of replied answer
  ask_has b n q = go (cells_held b n) refl
    where
      by : (t : Bool) (cs : List Cell) → cells_allowed cs ≡ true → AnswerHas P (cond t (answered_ask (answer q cs)) (refused_ask BadRequest)).answer
      by true cs h = query_has (query_of q) cs h
      by false cs h = tt

      go : (o : Option (List Cell)) → cells_held b n ≡ o → AnswerHas P (replied q o).answer
      go None e = tt
      go (Some cs) e = by (question_allowed q) cs (held_some b n cs e).holds.valid.allowed

-- An answer lies within its limits.
pub ask_within : (b : List ℕ) (n : ℕ) (q : Question) → AnswerWithin (ask_of b n q).answer
ask_within = ask_has ValueWithin value_within

-- A string that is answered is "of 0x20–0x7E".
abbrev pub Lettered : Value → Type 0
Lettered (A.number q) = Unit {0}
Lettered (string s) = printable s ≡ true

value_lettered : (v : Value) → value_allowed v ≡ true → Lettered v
unfolding value_allowed
value_lettered (A.number (Q.Integer z)) h = tt
value_lettered (A.number (Q.Decimal z)) h = tt
value_lettered (string s) h = (and_true (leb (length s) 16) (printable s) h).1

pub ask_lettered : (b : List ℕ) (n : ℕ) (q : Question) → AnswerHas Lettered (ask_of b n q).answer
ask_lettered = ask_has Lettered value_lettered
