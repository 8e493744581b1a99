-- "A question has a kind and four numbers."
use Rattle.std.specs.Prelude.{ℕ, ◌+◌, max, Bool, false, cond, ◌&&◌, List, [], ◌∷◌, length, take, drop, ◌==◌, Option, Some, None, Result, Ok, Err}
use Rattle.numbers.specs.declared.Quantity.TheVariants as Q
use Rattle.meaning.specs.Answer as A
use Rattle.meaning.specs.Answer.{integer, decimal, string, Answer, missing, cell, highest}
use Rattle.meaning.specs.declared.question.Question.{Question}
use Rattle.meaning.specs.declared.refusal.Refusal.{Refusal}
use Rattle.meaning.specs.declared.refusal.Refusal.TheVariants.{BadStore, BadRequest}
use Rattle.meaning.specs.declared.end.Halt.TheVariants.{Refused}
use Rattle.meaning.specs.declared.end.Ended.{Ended}
use Rattle.meaning.specs.declared.end.Ended.TheVariants.{Finished, Halted}
use Rattle.cells.specs.declared.Answered.{Answered}
use Rattle.cells.specs.declared.Answered.TheVariants.{Missing, Integer, Decimal, StringAt, Highest}
use Rattle.cells.specs.declared.Asked.{Asked}
use Rattle.cells.specs.Cell.{Key, key_of, Cell, key_as_number, key_number, key_allowed, cell_bytes}
use Rattle.cells.specs.Store.{cells_held}

-- the key that the four numbers are
abbrev pub key_asked : Question → Key
key_asked q = key_of q.datasource q.parameter q.«record» q.entry

-- What is asked, by its kind, with the numbers that are used for it.
pub data Query : Type 0 where
  -- "Kind 1 asks for the cell of a key"
  the_cell : Key → Query
  -- "Kind 2 asks for a parameter's highest record number in a datasource"
  highest_record : (datasource parameter : ℕ) → Query
  -- "kind 3 for the highest entry number in one record"
  highest_entry : (datasource parameter record_number : ℕ) → Query

-- "Unused numbers are 0."
unfoldable pub unused : ℕ → Option Query → Option Query
unused n o = cond (n == 0) o None

-- what the five numbers ask, or none
unfoldable pub query_of : Question → Option Query
query_of q =
    cond
    (q.kind == 1)
    (Some (the_cell (key_asked q)))
    (cond
    (q.kind == 2)
    (unused q.«record» (unused q.entry (Some (highest_record q.datasource q.parameter))))
    (cond (q.kind == 3) (unused q.entry (Some (highest_entry q.datasource q.parameter q.«record»))) None))

-- the numbers that are used lie within the limits of a key
unfoldable pub query_allowed : Option Query → Bool
query_allowed None = false
query_allowed (Some (the_cell k)) = key_allowed k
query_allowed (Some (highest_record d p)) = key_allowed (key_of d p 0 0)
query_allowed (Some (highest_entry d p r)) = key_allowed (key_of d p r 0)

-- 15 "An edit's or question's key, kind, unused number or value breaks a limit above."
unfoldable pub question_allowed : Question → Bool
question_allowed q = query_allowed (query_of q)

-- the cell of a key
unfoldable pub lookup : ℕ → List Cell → Option Cell
lookup n [] = None
lookup n (c ∷ cs) = cond (key_number c == n) (Some c) (lookup n cs)

-- the cell's "kind and value, or missing"
unfoldable pub found : Option Cell → Answer
found None = missing
found (Some c) = cell c.value

-- the highest of a number over the cells that are meant, "0 if there is none"
unfoldable pub highest_of : (Cell → Bool) → (Cell → ℕ) → List Cell → ℕ
highest_of meant n [] = 0
highest_of meant n (c ∷ cs) = max (cond (meant c) (n c) 0) (highest_of meant n cs)

-- cells of a parameter in a datasource, and those in one record
unfoldable pub of_parameter : ℕ → ℕ → Cell → Bool
of_parameter d p c = c.key.datasource == d && c.key.parameter == p

unfoldable pub of_record : ℕ → ℕ → ℕ → Cell → Bool
of_record d p r c = of_parameter d p c && c.key.record_number == r

-- "Kind 1 asks for the cell of a key .. Kind 2 asks for a parameter's highest record number in a datasource, kind 3 for
-- the highest entry number in one record"
unfoldable pub query_answer : Option Query → List Cell → Answer
query_answer None cs = missing
query_answer (Some (the_cell k)) cs = found (lookup (key_as_number k) cs)
query_answer (Some (highest_record d p)) cs = highest (highest_of (of_parameter d p) (λ c. c.key.record_number) cs)
query_answer (Some (highest_entry d p r)) cs = highest (highest_of (of_record d p r) (λ c. c.key.entry_number) cs)

unfoldable pub answer : Question → List Cell → Answer
answer q cs = query_answer (query_of q) cs

-- "every end of ask, put and remove give line 0"
abbrev pub refused_with : Refusal → Ended
refused_with e = Halted (Refused e) 0

-- What ask hands back. "a refused ask answers missing"
pub record Reply : Type 0 where
  pub end : Ended
  pub answer : Answer

abbrev pub refused_ask : Refusal → Reply
refused_ask e = record { end = refused_with e; answer = missing }

abbrev pub answered_ask : Answer → Reply
answered_ask a = record { end = Finished; answer = a }

-- "Ask, put and remove check 1, 15, 16, 17."
unfoldable pub replied : Question → Option (List Cell) → Reply
replied q None = refused_ask BadStore
replied q (Some cs) = cond (question_allowed q) (answered_ask (answer q cs)) (refused_ask BadRequest)

unfoldable pub ask_of : List ℕ → ℕ → Question → Reply
ask_of b n q = replied q (cells_held b n)

-- where the cell of a key begins in the store: behind the cells before it
unfoldable pub cell_start : ℕ → List Cell → ℕ
cell_start n [] = 0
cell_start n (c ∷ cs) = cond (key_number c == n) 0 (length (cell_bytes c) + cell_start n cs)

-- "A cell is one byte of kind, a 7-byte key, a value"; a string is "a length 0–16, then 16 bytes": where the bytes of the
-- string that is answered begin in the store
unfoldable pub string_start : Question → Option (List Cell) → ℕ
string_start q None = 0
string_start q (Some cs) = cell_start (key_as_number (key_asked q)) cs + (1 + 7 + 1)

-- an answer as it is handed back: a string as a part of the store, by its place and its length
unfoldable pub handed : ℕ → Answer → Answered
handed i missing = Missing
handed i (cell (A.number (Q.Integer z))) = Integer z
handed i (cell (A.number (Q.Decimal z))) = Decimal z
handed i (cell (string s)) = StringAt i (length s)
handed i (highest n) = Highest n

-- what ask hands back, by the code's answer or refusal
unfoldable pub asked_as : Result Answered Refusal → Asked
asked_as (Ok x) = record { end = Finished; answer = x }
asked_as (Err e) = record { end = refused_with e; answer = Missing }

-- "Ask answers one question."
unfoldable pub asked_of : List ℕ → ℕ → Question → Asked
asked_of b n q = record { end = (ask_of b n q).end; answer = handed (string_start q (cells_held b n)) (ask_of b n q).answer }

-- what an answer of the code means: a string is a part of the store
unfoldable pub meant : List ℕ → Answered → Answer
meant b Missing = missing
meant b (Integer z) = cell (integer z)
meant b (Decimal z) = cell (decimal z)
meant b (StringAt i n) = cell (string (take n (drop i b)))
meant b (Highest n) = highest n
