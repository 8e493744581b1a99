-- What a call for C hands back, from what the call below it hands back.
use Rattle.std.specs.Prelude.{Result, Ok, Err}
use mathlib.Core.Path.{◌≡◌, refl, ap, ◌∙◌, subst}
use mathlib.Core.List.{List}
use Prim.Native.Nat.{ℕ}
use lib.IntN.{ℤ, pos}
use Rattle.meaning.specs.Number.{number_of, end_of, refusal_number}
use Rattle.cells.specs.declared.Answered.{Answered}
use Rattle.cells.specs.declared.Answered.TheVariants.{Missing, Integer, Decimal, StringAt, Highest}
use Rattle.cells.specs.declared.Asked.{Asked}
use Rattle.cells.specs.Cell.{integer_kind, decimal_kind, string_kind}
use Rattle.meaning.specs.declared.refusal.Refusal.{Refusal}
use Rattle.template.specs.declared.Extent.{Extent}
use Rattle.station.specs.Checks.{ToldCheck}
use Rattle.store.specs.declared.Edited.{Edited}
use Rattle.store.specs.Edit.{Edit, edit}
use Rattle.station.specs.Answers.{kind_told, value_told, place_told, count_told, ToldParts, ToldAnswer, ToldEdit}

-- ---- questions

module _ {a : Answered} where
  pub hands_missing : a ≡ Missing → ToldParts a 0 (pos 0) 0 0
  unfolding kind_told value_told place_told count_told
  hands_missing e = rw e (record { is_kind = refl; is_value = refl; is_place = refl; is_count = refl })

  pub hands_integer : {z v : ℤ} → a ≡ Integer z → v ≡ z → ToldParts a integer_kind v 0 0
  unfolding kind_told value_told place_told count_told
  hands_integer e h = rw e (record { is_kind = refl; is_value = h; is_place = refl; is_count = refl })

  pub hands_decimal : {z v : ℤ} → a ≡ Decimal z → v ≡ z → ToldParts a decimal_kind v 0 0
  unfolding kind_told value_told place_told count_told
  hands_decimal e h = rw e (record { is_kind = refl; is_value = h; is_place = refl; is_count = refl })

  pub hands_text : {i n : ℕ} → a ≡ StringAt i n → ToldParts a string_kind (pos 0) i n
  unfolding kind_told value_told place_told count_told
  hands_text e = rw e (record { is_kind = refl; is_value = refl; is_place = refl; is_count = refl })

  pub hands_highest : {n : ℕ} → a ≡ Highest n → ToldParts a 1 (pos 0) 0 n
  unfolding kind_told value_told place_told count_told
  hands_highest e = rw e (record { is_kind = refl; is_value = refl; is_place = refl; is_count = refl })

pub told_answer : {x : Asked} (s : Asked) {k : ℕ} {v : ℤ} {i n r : ℕ} → s ≡ x → ToldParts s.answer k v i n → r ≡ number_of (end_of (tt {0}) s.end) → ToldAnswer x k v i n r
told_answer s {k = k} {v = v} {i = i} {n = n} e h q = record {
  number = q ∙ ap (λ (y : Asked). number_of (end_of (tt {0}) y.end)) e;
  answer = subst (λ (y : Asked). ToldParts y.answer k v i n) e h;
}

-- ---- edits

pub told_edit : {x : Edit} {b : List ℕ} (s : Edited) {r : ℕ} → edit s b ≡ x → r ≡ number_of (end_of (tt {0}) s.end) → ToldEdit x b s.length r
told_edit s e q = record {
  number = q ∙ ap (λ (y : Edit). number_of (end_of (tt {0}) y.end)) e;
  left = ap (λ (y : Edit). y.length) e;
  buffer = ap (λ (y : Edit). y.buffer) e;
}

-- ---- checks

pub check_accepted : {x y : (Result Extent (Refusal × ℕ))} {run : Extent} {s : ℕ} → y ≡ x → y ≡ Ok run → s ≡ run.line → ToldCheck x 0 s 0
check_accepted e h q = record { number = rw (← e, h); line = rw (← e, h); start = rw (← e, h) q }

pub check_refused : {x y : (Result Extent (Refusal × ℕ))} {e : Refusal} {l r : ℕ} → y ≡ x → y ≡ Err (e, l) → r ≡ refusal_number e → ToldCheck x l 0 r
check_refused p h q = record { number = rw (← p, h) q; line = rw (← p, h); start = rw (← p, h) }
