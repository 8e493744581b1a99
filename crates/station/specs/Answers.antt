-- What the calls for C hand back of an answer and of an edit.
use Rattle.std.specs.Prelude.{◌≡◌, List, ℕ, ℤ, pos}
use Rattle.meaning.specs.declared.question.Question.{Question}
use Rattle.meaning.specs.Number.{number_of, end_of}
use Rattle.cells.specs.Cell.{integer_kind, decimal_kind, string_kind}
use Rattle.cells.specs.declared.Answered.{Answered}
use Rattle.cells.specs.declared.Answered.TheVariants.{Missing, Integer, Decimal, StringAt, Highest}
use Rattle.cells.specs.declared.Asked.{Asked}
use Rattle.store.specs.Edit.{Edit}

-- a question by its five numbers
abbrev pub question_of : ℕ → ℕ → ℕ → ℕ → ℕ → Question
question_of k d p r e = record { kind = k; datasource = d; parameter = p; «record» = r; entry = e }

-- the kinds of station.h: 0 is missing, then a cell's kinds, 1 a highest number
unfoldable pub kind_told : Answered → ℕ
kind_told Missing = 0
kind_told (Integer z) = integer_kind
kind_told (Decimal z) = decimal_kind
kind_told (StringAt i n) = string_kind
kind_told (Highest n) = 1

-- a number, else 0
unfoldable pub value_told : Answered → ℤ
value_told Missing = pos 0
value_told (Integer z) = z
value_told (Decimal z) = z
value_told (StringAt i n) = pos 0
value_told (Highest n) = pos 0

-- where a string's bytes begin in the store, else 0
unfoldable pub place_told : Answered → ℕ
place_told Missing = 0
place_told (Integer z) = 0
place_told (Decimal z) = 0
place_told (StringAt i n) = i
place_told (Highest n) = 0

-- a string's length or a highest number, else 0
unfoldable pub count_told : Answered → ℕ
count_told Missing = 0
count_told (Integer z) = 0
count_told (Decimal z) = 0
count_told (StringAt i n) = n
count_told (Highest n) = n

-- what is handed back of an answer: a kind, a value, a place and a count
pub record ToldParts (a : Answered) (kind : ℕ) (value : ℤ) (place count : ℕ) : Type 0 where
  pub is_kind : kind ≡ kind_told a
  pub is_value : value ≡ value_told a
  pub is_place : place ≡ place_told a
  pub is_count : count ≡ count_told a

-- r is the number that ask ends with, with the parts of its answer
pub record ToldAnswer (x : Asked) (k : ℕ) (v : ℤ) (i n r : ℕ) : Type 0 where
  pub number : r ≡ number_of (end_of (tt {0}) x.end)
  pub answer : ToldParts x.answer k v i n

-- r is the number that the edit ends with, n the length and b the buffer that it hands back
pub record ToldEdit (x : Edit) (b : List ℕ) (n r : ℕ) : Type 0 where
  pub number : r ≡ number_of (end_of (tt {0}) x.end)
  pub left : n ≡ x.length
  pub buffer : b ≡ x.buffer
