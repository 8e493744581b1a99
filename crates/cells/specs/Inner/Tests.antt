-- The form of a cell as the code tests it, by places in the bytes; and the numbers of a question.
use Rattle.std.specs.Prelude.{◌≡◌, ℕ, ◌+◌, ◌-◌, ◌<◌, ◌≤◌, Bool, true, false, cond, ◌&&◌, List, length, take, drop, ◌==◌, nat_le, slice_index, Option, Some, None}
use Rattle.std.proofs.Math.Option as M
use Rattle.meaning.specs.declared.question.Question.{Question}
use Rattle.numbers.specs.Range.{integer_limit, decimal_limit, within}
use Rattle.cells.specs.declared.form.ValueKind.{ValueKind}
use Rattle.cells.specs.declared.form.ValueKind.TheVariants as K
use Rattle.cells.specs.Bytes.{quad_from, octet_at, from_complement, word_range, long_range}
use Rattle.cells.specs.Cell.{between, each, printable, Kind, kinds, row_in, integer_row, decimal_row, string_row, integer_kind, decimal_kind, string_kind, Cell, cell_bytes, front}

-- how many bytes a cell of a kind has: the byte of kind, the key, the value; 0 where there is no such kind
unfoldable pub size_by : M.Option Kind → ℕ
size_by M.none = 0
size_by (M.some k) = 8 + k.size

unfoldable pub size_of : ℕ → ℕ
size_of k = size_by (row_in kinds k)

-- the kind of the code that a byte tells, and how many bytes a cell of a kind has
unfoldable pub kind_of : ℕ → Option ValueKind
kind_of b = cond (b == integer_kind) (Some K.Integer) (cond (b == decimal_kind) (Some K.Decimal) (cond (b == string_kind) (Some K.String) None))

unfoldable pub kind_size : ValueKind → ℕ
kind_size K.Integer = 8 + integer_row.size
kind_size K.Decimal = 8 + decimal_row.size
kind_size K.String = 8 + string_row.size

abbrev pub zeros : List ℕ → Bool
zeros s = each (between 0 0) s

unfoldable pub string_formed : List ℕ → Bool
string_formed s =
    nat_le (slice_index s 8) 16
    && (printable (take (slice_index s 8) (drop 9 s)) && zeros (take (16 - slice_index s 8) (drop (9 + slice_index s 8) s)))

unfoldable pub value_formed : List ℕ → Bool
value_formed s =
    cond
    (slice_index s 0 == integer_kind)
    (within integer_limit (from_complement word_range (quad_from s 8)))
    (cond (slice_index s 0 == decimal_kind) (within decimal_limit (from_complement long_range (octet_at s 8))) (string_formed s))

-- how many bytes the cell has that s begins with, 0 where there is none
unfoldable pub size_found : Option Cell → ℕ
size_found None = 0
size_found (Some c) = length (cell_bytes c)

unfoldable pub front_size : List ℕ → ℕ
front_size s = size_found (front s)

-- r is the size of the cell that s begins with
pub record Sized (s : List ℕ) (r : ℕ) : Type 0 where
  pub size : r ≡ front_size s
  pub inside : r ≤ length s
  pub least : 0 < r → 12 ≤ r

-- r is the size of the cell that s begins with, if it begins with one
unfoldable pub FrontSized : List ℕ → Option ℕ → Type 0
FrontSized s None = Sized s 0
FrontSized s (Some n) = Sized s n × (0 < n)

-- the numbers that a question doesn't use, by its kind
unfoldable pub unused_zero : Question → Bool
unused_zero q =
    cond
    (q.kind == 1)
    true
    (cond (q.kind == 2) (q.«record» == 0 && q.entry == 0) (cond (q.kind == 3) (q.entry == 0) false))
