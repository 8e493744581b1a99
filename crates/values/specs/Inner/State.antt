-- The code's state, and the machine that it stands for.
use Rattle.std.specs.Prelude.{List, [], ◌∷◌, map, ℕ, zero, suc, ◌+◌, ◌/◌, ◌%◌, ℤ, take, drop}
use Rattle.meaning.specs.Answer.{Answer}
use Rattle.meaning.specs.declared.question.Question.{Question}
use Rattle.values.specs.Inner.Texts.{row_of}
use Rattle.values.specs.declared.scene.Scene.{Scene}
use Rattle.values.specs.declared.fetch.Along.{Along}
use Rattle.values.specs.declared.fetch.Along.TheVariants.{Records, Entries}
use Rattle.values.specs.Inner.Word.{questions}
use Rattle.values.specs.Machine.{Variables, Machine}

-- SV1, SV2, …: as many bytes of each row as its length says, from the row behind k on
unfoldable pub texts : List (List ℕ) → ℕ → List ℕ → List (List ℕ)
texts rows k [] = []
texts rows k (n ∷ ns) = take n (row_of rows (suc k)) ∷ texts rows (suc k) ns

-- what $REC or $TBL fetched is kept as one number: the word of its first element's question, times 128, and its count
abbrev pub first_word : ℕ → ℕ
first_word f = f / 128

abbrev pub fetch_count : ℕ → ℕ
fetch_count f = f % 128

-- from one element's word to the next: the record is counted up, or the entry
unfoldable pub step_of : Along → ℕ
step_of Records = 1024
step_of Entries = 1

unfoldable pub words_from : ℕ → ℕ → ℕ → List ℕ
words_from step w zero = []
words_from step w (suc n) = w ∷ words_from step (w + step) n

-- the answers that such a number stands for: those that the store gives now, since it doesn't change during a run
unfoldable pub fetched : (Question → Answer) → Along → ℕ → List Answer
fetched source along f = map source (questions (words_from (step_of along) (first_word f) (fetch_count f)))

-- a part of a row: n from a place on
unfoldable pub bank : {A : Type 0} → ℕ → ℕ → List A → List A
bank from n l = take n (drop from l)

-- the rows that are lent: IV and FV; SV's bytes; the lengths of SV, R, T, headings, open tables and remembered jumps
pub record Held : Type 0 where
  pub numbers : List ℤ
  pub rows : List (List ℕ)
  pub words : List ℕ

abbrev pub held : List ℤ → List (List ℕ) → List ℕ → Held
held numbers rows words = record { numbers = numbers; rows = rows; words = words }

-- Numbers are IV, then FV; words are the lengths of SV, then R, T and the headings, each as one number, the open tables, each as
-- four, and the remembered jumps, which no variable and no state shows.
abbrev pub integers_in : List ℤ → List ℤ
integers_in numbers = bank 0 99 numbers

abbrev pub decimals_in : List ℤ → List ℤ
decimals_in numbers = bank 99 99 numbers

abbrev pub lengths_in : List ℕ → List ℕ
lengths_in words = bank 0 99 words

abbrev pub records_in : List ℕ → List ℕ
records_in words = bank 99 10 words

abbrev pub entries_in : List ℕ → List ℕ
entries_in words = bank 109 10 words

abbrev pub headings_in : List ℕ → List ℕ
headings_in words = bank 119 9 words

abbrev pub tables_in : List ℕ → List ℕ
tables_in words = bank 128 20 words

abbrev pub jumps_in : List ℕ → List ℕ
jumps_in words = bank 148 64 words

-- the variables that the rows stand for, with the source that R and T were answered by
abbrev pub variables_of : (Question → Answer) → Held → Variables
variables_of source h =
    record {
      integers = integers_in h.numbers;
      decimals = decimals_in h.numbers;
      strings = texts h.rows 0 (lengths_in h.words);
      records = map (fetched source Records) (records_in h.words);
      entries = map (fetched source Entries) (entries_in h.words);
    }

-- the machine that the code's state stands for
abbrev pub machine : (Question → Answer) → Held → Scene → Machine
machine source h s =
    record { variables = variables_of source h; counter = s.turn; datasource = s.datasource; page = s.page; row = s.row }
