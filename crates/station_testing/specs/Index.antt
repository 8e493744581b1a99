-- What the calls for tests hand back of the index of a store, and of a question over it.
use Rattle.std.specs.Prelude.{cond, List, ℕ, ltb, ℤ, length, Option, Some, None}
use Rattle.std.proofs.lemmas.List.Edits.{sets}
use Rattle.meaning.specs.Answer.{missing}
use Rattle.meaning.specs.declared.question.Question.{Question}
use Rattle.cells.specs.Cell.{Cell}
use Rattle.cells.specs.Asking.{question_allowed, answer, string_start, handed}
use Rattle.cells.specs.Inner.Index.{Ready, offsets}
use Rattle.station.specs.Answers.{ToldParts}

-- what station_index hands back: its number, the count and the places, whole
pub record Listing : Type 0 where
  pub number : ℕ
  pub count : ℕ
  pub starts : List ℕ

abbrev pub listing : ℕ → ℕ → List ℕ → Listing
listing r n i = record { number = r; count = n; starts = i }

-- 1 for a store out of form, 16 for fewer places than cells, and then all is left as it was; else 0, the number of the cells, and
-- the place of each
unfoldable pub listed : List ℕ → ℕ → Option (List Cell) → Listing
listed i n None = listing 1 n i
listed i n (Some cs) = cond (ltb (length i) (length cs)) (listing 16 n i) (listing 0 (length cs) (sets i 0 (offsets 0 cs)))

-- over the index of a store in form, the answer of its cells
pub record ToldLookUp (b starts : List ℕ) (count : ℕ) (q : Question) (k : ℕ) (v : ℤ) (i n : ℕ) : Type 0 where
  pub answer : (len : ℕ) (cs : List Cell) → Ready b len starts count cs → ToldParts (handed (string_start q (Some cs)) (cond (question_allowed q) (answer q cs) missing)) k v i n
