-- A short list of edits, by the definitions.
use Rattle.std.specs.Prelude.{◌≡◌, refl, List, [], ◌∷◌, ◌++◌, ℕ, pos, replicate}
use Rattle.meaning.specs.Answer.{integer, string, missing, cell}
use Rattle.meaning.specs.declared.refusal.Refusal.TheVariants.{BadStore, BadRequest, StoreFull, NoCell}
use Rattle.meaning.specs.declared.end.Ended.TheVariants.{Finished}
use Rattle.numbers.specs.Range.{within}
use Rattle.cells.specs.Bytes.{pair, quad, octet, pair_at, quad_from, octet_at, in_complement, from_complement, begins, equal_bytes}
use Rattle.cells.specs.Cell.{Key, between, key_allowed, key_bytes, key_as_number, each, value_allowed, cell_allowed, kind_byte, value_bytes, cell_bytes, key_at, cell_by, cell_of, passing, front, whole_cell, whole_key}
use Rattle.cells.specs.Store.{encode, above, rising, with_first, cell_run, ordered, cells, cells_held}
use Rattle.cells.specs.Asking.{unused, query_of, query_allowed, question_allowed, lookup, found, query_answer, answer, replied, ask_of, refused_with}
use Rattle.store.specs.Edit.{lower, higher, with, without, written, fits, put_on, taken_out, remove_on, written_by, checked_edit, put_of, remove_of}
use Rattle.history.specs.LentStore.{LentStore, answer_in, cell_question}
use Rattle.history.specs.Change.{put, remove, handed_back}
use Rattle.history.specs.History.{after_changes, ends}

-- an integer 5, a string "A" with the same key, and a string with another
abbrev five_cell : List ℕ
five_cell = 73 ∷ 1 ∷ 0 ∷ 1 ∷ 0 ∷ 0 ∷ 0 ∷ 0 ∷ 0 ∷ 0 ∷ 0 ∷ 5 ∷ []

abbrev letter_cell : List ℕ
letter_cell = 83 ∷ 1 ∷ 0 ∷ 1 ∷ 0 ∷ 0 ∷ 0 ∷ 0 ∷ 1 ∷ 65 ∷ replicate 15 0

abbrev other_cell : List ℕ
other_cell = 83 ∷ 1 ∷ 0 ∷ 2 ∷ 0 ∷ 0 ∷ 0 ∷ 0 ∷ 1 ∷ 65 ∷ replicate 15 0

abbrev sample_key : Key
sample_key = record { datasource = 1; parameter = 1; record_number = 0; entry_number = 0 }

abbrev sample_key_bytes : List ℕ
sample_key_bytes = 1 ∷ 0 ∷ 1 ∷ 0 ∷ 0 ∷ 0 ∷ 0 ∷ []

-- an empty store in 26 bytes of 9
abbrev blank : LentStore
blank = record { buffer = replicate 26 9; length = 0 }

-- one byte of it taken for a store
abbrev broken : LentStore
broken = record { buffer = replicate 26 9; length = 1 }

abbrev Rows : Type 0
Rows =
    -- a put; replaced by another kind; removed, with zeros up to the old length
    (after_changes (put five_cell ∷ []) blank ≡ record { buffer = five_cell ++ replicate 14 9; length = 12 })
    × (after_changes (put five_cell ∷ put letter_cell ∷ []) blank ≡ record { buffer = letter_cell ++ (9 ∷ []); length = 25 })
    × (after_changes (put five_cell ∷ put letter_cell ∷ remove sample_key_bytes ∷ []) blank ≡ record { buffer = replicate 25 0 ++ (9 ∷ []); length = 0 })
    -- the answers after them
    × (answer_in (after_changes (put five_cell ∷ []) blank) (cell_question sample_key) ≡ cell (integer (pos 5)))
    × (answer_in (after_changes (put five_cell ∷ put letter_cell ∷ []) blank) (cell_question sample_key) ≡ cell (string (65 ∷ [])))
    × (answer_in (after_changes (put five_cell ∷ put letter_cell ∷ remove sample_key_bytes ∷ []) blank) (cell_question sample_key) ≡ missing)
    -- refused edits in between: 17, 15, 16; and from a store out of form
    × (ends (remove sample_key_bytes ∷ put five_cell ∷ put sample_key_bytes ∷ put other_cell ∷ []) blank ≡ refused_with NoCell ∷ Finished ∷ refused_with BadRequest ∷ refused_with StoreFull ∷ [])
    × (ends (put five_cell ∷ remove sample_key_bytes ∷ []) broken ≡ refused_with BadStore ∷ refused_with BadStore ∷ [])
    × (after_changes (put five_cell ∷ remove sample_key_bytes ∷ []) broken ≡ broken)

-- The rows hold.
pub rows : Rows
unfolding
    pair
    quad
    octet
    pair_at
    quad_from
    octet_at
    in_complement
    from_complement
    begins
    equal_bytes
    between
    key_allowed
    key_bytes
    key_as_number
    each
    value_allowed
    cell_allowed
    kind_byte
    value_bytes
    cell_bytes
    key_at
    cell_by
    cell_of
    passing
    front
    whole_cell
    whole_key
    encode
    above
    rising
    with_first
    cell_run
    ordered
    cells
    cells_held
    unused
    query_of
    query_allowed
    question_allowed
    lookup
    found
    query_answer
    answer
    replied
    ask_of
    lower
    higher
    with
    without
    written
    fits
    put_on
    taken_out
    remove_on
    written_by
    checked_edit
    put_of
    remove_of
    within
    handed_back
    after_changes
    ends
rows = (refl, refl, refl, refl, refl, refl, refl, refl, refl)
