-- Small stores, read and asked by the definitions.
use Rattle.std.specs.Prelude.{◌≡◌, ℕ, true, List, [], ◌∷◌, ◌++◌, replicate, pos, negsuc, refl, Some, None}
use Rattle.meaning.specs.Answer.{Value, integer, decimal, string, missing, cell, highest}
use Rattle.meaning.specs.declared.question.Question.{Question}
use Rattle.numbers.specs.Range.{within}
use Rattle.cells.specs.Bytes.{pair, quad, octet, pair_at, quad_from, octet_at, in_complement, from_complement, begins}
use Rattle.cells.specs.Cell.{Key, key_of, Cell, between, key_allowed, key_bytes, key_as_number, each, value_allowed, cell_allowed, kind_byte, value_bytes, cell_bytes, key_at, cell_by, cell_of, passing, front}
use Rattle.cells.specs.Store.{encode, above, rising, with_first, cell_run, ordered, cells}
use Rattle.cells.specs.Asking.{lookup, found, unused, query_of, query_allowed, question_allowed, highest_of, of_parameter, of_record, query_answer, answer, cell_start, string_start}

abbrev cell_with : Key → Value → Cell
cell_with k v = record { key = k; value = v }

abbrev question_by : ℕ → ℕ → ℕ → ℕ → ℕ → Question
question_by k d p r e = record { kind = k; datasource = d; parameter = p; «record» = r; entry = e }

-- an integer -2, a string "Cs", a decimal 0.5
abbrev sample : List Cell
sample =
    cell_with (key_of 1 258 3 4) (integer (negsuc 1))
    ∷ cell_with (key_of 1 258 7 0) (string (67 ∷ 115 ∷ []))
    ∷ cell_with (key_of 35 1 999 999) (decimal (pos 500000))
    ∷ []

abbrev sample_bytes : List ℕ
sample_bytes =
    (73 ∷ 1 ∷ 1 ∷ 2 ∷ 0 ∷ 3 ∷ 0 ∷ 4 ∷ 255 ∷ 255 ∷ 255 ∷ 254 ∷ [])
    ++ ((83 ∷ 1 ∷ 1 ∷ 2 ∷ 0 ∷ 7 ∷ 0 ∷ 0 ∷ 2 ∷ 67 ∷ 115 ∷ replicate 14 0)
    ++ (70 ∷ 35 ∷ 0 ∷ 1 ∷ 3 ∷ 231 ∷ 3 ∷ 231 ∷ 0 ∷ 0 ∷ 0 ∷ 0 ∷ 0 ∷ 7 ∷ 161 ∷ 32 ∷ []))

abbrev Rows : Type 0
Rows =
    (encode sample ≡ sample_bytes)
    × (cells sample_bytes ≡ Some sample)
    × (cells [] ≡ Some [])
    -- a cell cut short, an unknown kind, keys that do not rise
    × (cells (73 ∷ 1 ∷ 0 ∷ 1 ∷ 0 ∷ 0 ∷ 0 ∷ 0 ∷ 0 ∷ 0 ∷ 0 ∷ []) ≡ None)
    × (cells (74 ∷ 1 ∷ 0 ∷ 1 ∷ 0 ∷ 0 ∷ 0 ∷ 0 ∷ 0 ∷ 0 ∷ 0 ∷ 0 ∷ []) ≡ None)
    × (cells (encode (cell_with (key_of 1 2 0 0) (integer (pos 0)) ∷ cell_with (key_of 1 1 0 0) (integer (pos 0)) ∷ [])) ≡ None)
    -- datasource 36, 2,000,000,001, a byte behind the string that isn't zero
    × (front (cell_bytes (cell_with (key_of 36 1 0 0) (integer (pos 0)))) ≡ None)
    × (front (cell_bytes (cell_with (key_of 1 1 0 0) (integer (pos 2000000001)))) ≡ None)
    × (front (83 ∷ 1 ∷ 0 ∷ 1 ∷ 0 ∷ 0 ∷ 0 ∷ 0 ∷ 0 ∷ 65 ∷ replicate 15 0) ≡ None)
    -- the three kinds of question
    × (answer (question_by 1 1 258 7 0) sample ≡ cell (string (67 ∷ 115 ∷ [])))
    × (answer (question_by 1 1 258 7 1) sample ≡ missing)
    × (answer (question_by 2 1 258 0 0) sample ≡ highest 7)
    × (answer (question_by 2 2 258 0 0) sample ≡ highest 0)
    × (answer (question_by 3 1 258 3 0) sample ≡ highest 4)
    × (question_allowed (question_by 2 1 258 0 0) ≡ true)
    -- "Cs" stands behind the 12 bytes of the integer's cell and 9 bytes of its own
    × (string_start (question_by 1 1 258 7 0) (Some sample) ≡ 21)

-- The rows hold.
pub rows : Rows
unfolding
    pair
    quad
    octet
    pair_at
    quad_from
    octet_at
    in_complement
    from_complement
    begins
    between
    key_allowed
    key_bytes
    key_as_number
    each
    value_allowed
    cell_allowed
    kind_byte
    value_bytes
    cell_bytes
    key_at
    cell_by
    cell_of
    passing
    front
    encode
    above
    rising
    with_first
    cell_run
    ordered
    cells
    unused
    query_of
    query_allowed
    question_allowed
    lookup
    found
    highest_of
    of_parameter
    of_record
    query_answer
    answer
    cell_start
    string_start
    within
rows = (refl, refl, refl, refl, refl, refl, refl, refl, refl, refl, refl, refl, refl, refl, refl, refl)
