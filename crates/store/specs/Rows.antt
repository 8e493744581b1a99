-- Small edits, by the definitions.
use Rattle.std.specs.Prelude.{◌≡◌, refl, List, [], ◌∷◌, ◌++◌, ℕ, replicate}
use Rattle.meaning.specs.declared.refusal.Refusal.TheVariants.{BadStore, BadRequest, StoreFull, NoCell}
use Rattle.meaning.specs.declared.end.Ended.TheVariants.{Finished}
use Rattle.numbers.specs.Range.{within}
use Rattle.cells.specs.Bytes.{pair, quad, octet, pair_at, quad_from, octet_at, in_complement, from_complement, begins, equal_bytes}
use Rattle.cells.specs.Cell.{between, key_allowed, key_bytes, key_as_number, each, value_allowed, cell_allowed, kind_byte, value_bytes, cell_bytes, key_at, cell_by, cell_of, passing, front, whole_cell, whole_key}
use Rattle.cells.specs.Store.{encode, above, rising, with_first, cell_run, ordered, cells, cells_held}
use Rattle.cells.specs.Asking.{lookup}
use Rattle.store.specs.Edit.{lower, higher, with, without, refused_edit, written, fits, put_on, taken_out, remove_on, written_by, checked_edit, put_of, remove_of}

-- two integers, and a string with the first one's key
abbrev first_cell : List ℕ
first_cell = 73 ∷ 1 ∷ 0 ∷ 1 ∷ 0 ∷ 0 ∷ 0 ∷ 0 ∷ 0 ∷ 0 ∷ 0 ∷ 5 ∷ []

abbrev second_cell : List ℕ
second_cell = 73 ∷ 1 ∷ 0 ∷ 2 ∷ 0 ∷ 0 ∷ 0 ∷ 0 ∷ 0 ∷ 0 ∷ 0 ∷ 6 ∷ []

abbrev string_cell : List ℕ
string_cell = 83 ∷ 1 ∷ 0 ∷ 1 ∷ 0 ∷ 0 ∷ 0 ∷ 0 ∷ 1 ∷ 65 ∷ replicate 15 0

abbrev first_key : List ℕ
first_key = 1 ∷ 0 ∷ 1 ∷ 0 ∷ 0 ∷ 0 ∷ 0 ∷ []

abbrev Rows : Type 0
Rows =
    -- into an empty store; before a cell; in place of one, with a longer and a shorter value
    (put_of (replicate 14 9) 0 second_cell ≡ record { end = Finished; length = 12; buffer = second_cell ++ (9 ∷ 9 ∷ []) })
    × (put_of (second_cell ++ replicate 12 9) 12 first_cell ≡ record { end = Finished; length = 24; buffer = first_cell ++ second_cell })
    × (put_of (first_cell ++ replicate 14 9) 12 string_cell ≡ record { end = Finished; length = 25; buffer = string_cell ++ (9 ∷ []) })
    × (put_of (string_cell ++ (9 ∷ [])) 25 first_cell ≡ record { end = Finished; length = 12; buffer = first_cell ++ (replicate 13 0 ++ (9 ∷ [])) })
    -- 1, 15, 16
    × (put_of (first_cell ++ second_cell) 11 first_cell ≡ refused_edit (first_cell ++ second_cell) 11 BadStore)
    × (put_of first_cell 13 first_cell ≡ refused_edit first_cell 13 BadStore)
    × (put_of first_cell 12 (second_cell ++ (0 ∷ [])) ≡ refused_edit first_cell 12 BadRequest)
    × (put_of (first_cell ++ replicate 11 9) 12 second_cell ≡ refused_edit (first_cell ++ replicate 11 9) 12 StoreFull)
    -- removes, and 17
    × (remove_of (first_cell ++ second_cell) 24 first_key ≡ record { end = Finished; length = 12; buffer = second_cell ++ replicate 12 0 })
    × (remove_of second_cell 12 first_key ≡ refused_edit second_cell 12 NoCell)
    × (remove_of second_cell 12 [] ≡ refused_edit second_cell 12 BadRequest)

-- The rows hold.
pub rows : Rows
unfolding
    pair
    quad
    octet
    pair_at
    quad_from
    octet_at
    in_complement
    from_complement
    begins
    equal_bytes
    between
    key_allowed
    key_bytes
    key_as_number
    each
    value_allowed
    cell_allowed
    kind_byte
    value_bytes
    cell_bytes
    key_at
    cell_by
    cell_of
    passing
    front
    whole_cell
    whole_key
    encode
    above
    rising
    with_first
    cell_run
    ordered
    cells
    cells_held
    lookup
    lower
    higher
    with
    without
    written
    fits
    put_on
    taken_out
    remove_on
    written_by
    checked_edit
    put_of
    remove_of
    within
rows = (refl, refl, refl, refl, refl, refl, refl, refl, refl, refl, refl)
