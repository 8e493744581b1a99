-- Questions: their limits as the code tests them, and the range of keys that kinds 2 and 3 speak of.
use Rattle.std.specs.Prelude.{Option, Some, None}
use Rattle.std.proofs.Common.{◌≡◌, ℕ, ◌+◌, ◌≤◌, Bool, true, false, cond, ◌&&◌, eqb, List, sym, refl, ap, ◌∙◌, arith, eq-eqb, ne_eqb, eqb-true}
use mathlib.Core.Bool.{false≢true}
use Rattle.meaning.specs.Answer.{missing, highest}
use Rattle.meaning.specs.declared.question.Question.{Question}
use Rattle.cells.specs.declared.Answered.{Answered}
use Rattle.cells.specs.declared.Answered.TheVariants.{Missing, Highest}
use Rattle.cells.specs.Bytes.{pair, pair_at}
use Rattle.cells.specs.Cell.{Key, key_of, Cell, key_allowed, key_bytes, key_as_number, cell_bytes}
use Rattle.cells.specs.Asking.{key_asked, Query, the_cell, highest_record, highest_entry, unused, query_of, query_allowed, question_allowed, lookup, found, highest_of, of_parameter, of_record, query_answer, answer, string_start, meant}
use Rattle.cells.specs.Inner.Tests.{unused_zero}
use Rattle.cells.specs.Inner.Index as I
use Rattle.cells.specs.Inner.Index.{Ready, InStore, CellAnswer, Answers, reach_of, offset_of}
use Rattle.cells.proofs.BigEndian.{and_true, both, pair_reads}
use Rattle.cells.proofs.CellForm.{key_allowed_law, Limits, limits}
use Rattle.cells.proofs.Locating.{held_some}
use Rattle.cells.proofs.Answering.{Range, highest_in}

-- ---- the range of keys of a parameter, and of a record

module _ (k : Key) (l : Limits k) (e : k.entry_number ≡ 0) where
  of_record_law : (c : Cell) → of_record k.datasource k.parameter k.record_number c ≡ true → (c.key.datasource ≡ k.datasource) × (c.key.parameter ≡ k.parameter) × (c.key.record_number ≡ k.record_number)
  unfolding of_record of_parameter
  of_record_law c t =
      let a = and_true (eqb c.key.datasource k.datasource && eqb c.key.parameter k.parameter) (eqb c.key.record_number k.record_number) t in
      let b = and_true (eqb c.key.datasource k.datasource) (eqb c.key.parameter k.parameter) a.0 in
      (eqb-true _ _ b.0, eqb-true _ _ b.1, eqb-true _ _ a.1)

  pub record_range : Range (of_record k.datasource k.parameter k.record_number) (λ c. c.key.entry_number) (key_as_number k) (key_as_number k + 65536)
  unfolding key_as_number of_record of_parameter
  record_range =
      record {
        from = λ c a t. let o = of_record_law c t in omega arith;
        below = λ c a t. let o = of_record_law c t in let m = limits c.key (key_allowed_law c a) in omega arith;
        means = λ c a h u.
            let m = limits c.key (key_allowed_law c a) in
            both
            (both (eq-eqb c.key.datasource k.datasource (omega arith)) (eq-eqb c.key.parameter k.parameter (omega arith)))
            (eq-eqb c.key.record_number k.record_number (omega arith));
        rises = λ c d a b t s h. let o = of_record_law c t in let p = of_record_law d s in omega arith;
      }

  module _ (z : k.record_number ≡ 0) where
    of_parameter_law : (c : Cell) → of_parameter k.datasource k.parameter c ≡ true → (c.key.datasource ≡ k.datasource) × (c.key.parameter ≡ k.parameter)
    unfolding of_parameter
    of_parameter_law c t =
        let b = and_true (eqb c.key.datasource k.datasource) (eqb c.key.parameter k.parameter) t in
        (eqb-true _ _ b.0, eqb-true _ _ b.1)

    pub parameter_range : Range (of_parameter k.datasource k.parameter) (λ c. c.key.record_number) (key_as_number k) (key_as_number k + 4294967296)
    unfolding key_as_number of_parameter
    parameter_range =
        record {
          from = λ c a t. let o = of_parameter_law c t in omega arith;
          below = λ c a t. let o = of_parameter_law c t in let m = limits c.key (key_allowed_law c a) in omega arith;
          means = λ c a h u.
              let m = limits c.key (key_allowed_law c a) in
              both (eq-eqb c.key.datasource k.datasource (omega arith)) (eq-eqb c.key.parameter k.parameter (omega arith));
          rises = λ c d a b t s h.
              let o = of_parameter_law c t in
              let p = of_parameter_law d s in
              let m = limits c.key (key_allowed_law c a) in
              let n = limits d.key (key_allowed_law d b) in
              omega arith;
        }

record_at_law : (c : Cell) → c.key.record_number ≡ pair_at (cell_bytes c) 4
unfolding cell_bytes key_bytes pair pair_at
record_at_law c = sym (pair_reads c.key.record_number)

entry_at : (c : Cell) → c.key.entry_number ≡ pair_at (cell_bytes c) 6
unfolding cell_bytes key_bytes pair pair_at
entry_at c = sym (pair_reads c.key.entry_number)

-- ---- what is asked, by the numbers

and_one : (x : Bool) → x && true ≡ x
and_one true = refl
and_one false = refl

and_none : (x : Bool) → x && false ≡ false
and_none true = refl
and_none false = refl

module _ (q : Question) where
  -- what holds of the three questions that the numbers can ask, and of none, holds of what they ask
  pub by_query : (P : Option Query → Type 0) → P None → P (Some (the_cell (key_asked q))) → P (Some (highest_record q.datasource q.parameter)) → P (Some (highest_entry q.datasource q.parameter q.«record»)) → P (query_of q)
  unfolding query_of unused
  by_query P n x y z = go (eqb q.kind 1) (eqb q.kind 2) (eqb q.kind 3) (eqb q.«record» 0) (eqb q.entry 0)
    where
      go : (a b c r e : Bool) → P (cond a (Some (the_cell (key_asked q))) (cond b (cond r (cond e (Some (highest_record q.datasource q.parameter)) None) None) (cond c (cond e (Some (highest_entry q.datasource q.parameter q.«record»)) None) None)))
      go true b c r e = x
      go false true c true true = y
      go false true c true false = n
      go false true c false e = n
      go false false true r true = z
      go false false true r false = n
      go false false false r e = n

  -- a question is within its limits where its four numbers are, and those that its kind doesn't use are 0
  pub by_numbers : question_allowed q ≡ key_allowed (key_asked q) && unused_zero q
  unfolding question_allowed query_of query_allowed unused unused_zero
  by_numbers = go (eqb q.kind 1) (eqb q.kind 2) (eqb q.kind 3) (eqb q.«record» 0) refl (eqb q.entry 0) refl
    where
      go : (a b c r : Bool) → eqb q.«record» 0 ≡ r → (e : Bool) → eqb q.entry 0 ≡ e → query_allowed (cond a (Some (the_cell (key_asked q))) (cond b (cond r (cond e (Some (highest_record q.datasource q.parameter)) None) None) (cond c (cond e (Some (highest_entry q.datasource q.parameter q.«record»)) None) None))) ≡ key_allowed (key_asked q) && cond a true (cond b (r && e) (cond c e false))
      go true b c r i e j = sym (and_one (key_allowed (key_asked q)))
      go false true c true i true j = rw (eqb-true q.«record» 0 i, eqb-true q.entry 0 j) (sym (and_one (key_allowed (key_of q.datasource q.parameter 0 0))))
      go false true c true i false j = sym (and_none (key_allowed (key_asked q)))
      go false true c false i e j = sym (and_none (key_allowed (key_asked q)))
      go false false true r i true j = rw (eqb-true q.entry 0 j) (sym (and_one (key_allowed (key_of q.datasource q.parameter q.«record» 0))))
      go false false true r i false j = sym (and_none (key_allowed (key_asked q)))
      go false false false r i e j = sym (and_none (key_allowed (key_asked q)))

  module _ (cs : List Cell) where
    pub answer_one : q.kind ≡ 1 → answer q cs ≡ found (lookup (key_as_number (key_asked q)) cs)
    unfolding answer query_of query_answer
    answer_one e = rw (eq-eqb _ _ e)

    module _ (a : q.kind ≡ 1 → ⊥) (z : q.entry ≡ 0) where
      pub answer_two : q.kind ≡ 2 → q.«record» ≡ 0 → answer q cs ≡ highest (highest_of (of_parameter q.datasource q.parameter) (λ c. c.key.record_number) cs)
      unfolding answer query_of unused query_answer
      answer_two e r = rw (ne_eqb _ _ a, eq-eqb _ _ e, eq-eqb _ _ r, eq-eqb _ _ z)

      pub answer_three : (q.kind ≡ 2 → ⊥) → q.kind ≡ 3 → answer q cs ≡ highest (highest_of (of_record q.datasource q.parameter q.«record») (λ c. c.key.entry_number) cs)
      unfolding answer query_of unused query_answer
      answer_three b e = rw (ne_eqb _ _ a, ne_eqb _ _ b, eq-eqb _ _ e, eq-eqb _ _ z)

-- ---- the tests of `allowed`

module _ (q : Question) (t : Bool) (k : t ≡ key_allowed (key_asked q)) where
  pub refused_limits : t ≡ false → false ≡ question_allowed q
  refused_limits n = rw (by_numbers q, sym k ∙ n)

  module _ (n : t ≡ true) where
    inside : key_allowed (key_asked q) ≡ true
    inside = sym k ∙ n

    pub allowed_rest : (u : Bool) → u ≡ unused_zero q → u ≡ question_allowed q
    allowed_rest u e = rw (by_numbers q, inside) e

-- ---- the answers of `answer`

module _ (b index : List ℕ) (count : ℕ) (q : Question) (t : Bool) (k : t ≡ question_allowed q) where
  pub answers_refused : t ≡ false → Answers b index count q Missing
  unfolding meant InStore
  answers_refused n = record { answer = λ m cs r. rw (sym k ∙ n); inside = λ m cs r. tt }

  module _ (n : t ≡ true) where
    whole : question_allowed q ≡ true
    whole = sym k ∙ n

    parts : (key_allowed (key_asked q) ≡ true) × (unused_zero q ≡ true)
    parts = and_true (key_allowed (key_asked q)) (unused_zero q) (sym (by_numbers q) ∙ whole)

    pub key_inside : key_allowed (key_asked q) ≡ true
    key_inside = parts.0

    module _ (key : ℕ) (e : key ≡ key_as_number (key_asked q)) where
      pub answers_cell : q.kind ≡ 1 → (r : Answered) → CellAnswer b index count key r → Answers b index count q r
      unfolding string_start
      answers_cell o r c = record { answer = λ m cs d. rw (whole, answer_one q cs o, ← e) (c.found m cs d); inside = λ m cs d. rw (← e) (c.inside m cs d) }

      module _ (o : q.kind ≡ 1 → ⊥) (r : ℕ) where
        answers_records : q.kind ≡ 2 → I.Highest b index count key (key + 4294967296) 4 r → Answers b index count q (Highest r)
        unfolding meant unused_zero InStore
        answers_records w h = record { answer = go; inside = λ m cs d. tt }
          where
            zeros : (q.«record» ≡ 0) × (q.entry ≡ 0)
            zeros =
                let z : eqb q.«record» 0 && eqb q.entry 0 ≡ true = rw (ne_eqb _ _ o, eq-eqb _ _ w) at parts.1 in
                let a = and_true (eqb q.«record» 0) (eqb q.entry 0) z in
                (eqb-true _ _ a.0, eqb-true _ _ a.1)

            range : Range (of_parameter q.datasource q.parameter) (λ c. c.key.record_number) key (key + 4294967296)
            range = rw e (parameter_range (key_asked q) (limits (key_asked q) key_inside) zeros.1 zeros.0)

            go : (m : ℕ) (cs : List Cell) → Ready b m index count cs → highest r ≡ cond (question_allowed q) (answer q cs) missing
            go m cs d =
                rw (whole, answer_two q cs o zeros.1 w zeros.0)
                (ap highest (highest_in (of_parameter q.datasource q.parameter) (λ c. c.key.record_number) key (key + 4294967296) 4 range record_at_law cs (held_some b m cs d.holds).holds.valid.allowed r (h.last m cs d)))

        answers_entries : (q.kind ≡ 2 → ⊥) → I.Highest b index count key (key + 65536) 6 r → Answers b index count q (Highest r)
        unfolding meant unused_zero InStore
        answers_entries w h = record { answer = go; inside = λ m cs d. tt }
          where
            third : (x : Bool) → eqb q.kind 3 ≡ x → cond x (eqb q.entry 0) false ≡ true → (q.kind ≡ 3) × (q.entry ≡ 0)
            third true t y = (eqb-true _ _ t, eqb-true _ _ y)
            third false t y = absurd (false≢true y)

            three : (q.kind ≡ 3) × (q.entry ≡ 0)
            three = third (eqb q.kind 3) refl (rw (ne_eqb _ _ o, ne_eqb _ _ w) at parts.1)

            range : Range (of_record q.datasource q.parameter q.«record») (λ c. c.key.entry_number) key (key + 65536)
            range = rw e (record_range (key_asked q) (limits (key_asked q) key_inside) three.1)

            go : (m : ℕ) (cs : List Cell) → Ready b m index count cs → highest r ≡ cond (question_allowed q) (answer q cs) missing
            go m cs d =
                rw (whole, answer_three q cs o three.1 w three.0)
                (ap highest (highest_in (of_record q.datasource q.parameter q.«record») (λ c. c.key.entry_number) key (key + 65536) 6 range entry_at cs (held_some b m cs d.holds).holds.valid.allowed r (h.last m cs d)))

        pub answers_highest : (reach offset : ℕ) → reach ≡ reach_of q.kind → offset ≡ offset_of q.kind → I.Highest b index count key (key + reach) offset r → Answers b index count q (Highest r)
        unfolding reach_of offset_of
        answers_highest reach offset u v h = go (eqb q.kind 2) refl (rw (u, v) at h)
          where
            go : (x : Bool) → eqb q.kind 2 ≡ x → I.Highest b index count key (key + cond x 4294967296 65536) (cond x 4 6) r → Answers b index count q (Highest r)
            go true y h = answers_records (eqb-true _ _ y) h
            go false y h = answers_entries (λ w. false≢true (sym y ∙ eq-eqb _ _ w)) h

pub reach_most : (kind : ℕ) → reach_of kind ≤ 4294967296
unfolding reach_of
reach_most kind = go (eqb kind 2)
  where
    go : (x : Bool) → cond x 4294967296 65536 ≤ 4294967296
    go true = omega arith
    go false = omega arith

pub offset_most : (kind : ℕ) → offset_of kind ≤ 6
unfolding offset_of
offset_most kind = go (eqb kind 2)
  where
    go : (x : Bool) → cond x 4 6 ≤ 6
    go true = omega arith
    go false = omega arith
