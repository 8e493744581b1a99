-- "Put adds or replaces the cell of a key, whichever kind it had. Remove takes it out.": an edit by the bytes handed in.
use Rattle.std.specs.Prelude.{Bool, true, false, ◌&&◌, List, ℕ, eqb, Option, Some, None}
use Rattle.meaning.specs.declared.end.Ended.{Ended}
use Rattle.meaning.specs.declared.end.Ended.TheVariants.{Finished, Halted}
use Rattle.cells.specs.Cell.{Key, Cell, key_as_number, whole_cell, whole_key}
use Rattle.store.specs.Edit.{CellEdit, put_on, remove_on, Edit, put_of, remove_of}
use Rattle.history.specs.LentStore.{LentStore}

-- the bytes of a cell, or of a key: any bytes
pub data Change : Type 0 where
  put : List ℕ → Change
  remove : List ℕ → Change

-- what the edit hands back
unfoldable pub handed_back : Change → LentStore → Edit
handed_back (put s) m = put_of m.buffer m.length s
handed_back (remove s) m = remove_of m.buffer m.length s

-- the store for the next call: "in the same buffer, at the length last handed back"
abbrev pub handed_on : Edit → LentStore
handed_on r = record { buffer = r.buffer; length = r.length }

abbrev pub after_change : Change → LentStore → LentStore
after_change e m = handed_on (handed_back e m)

-- how the edit ended; "0 is success", and an edit with that end is accepted
abbrev pub edit_end : Change → LentStore → Ended
edit_end e m = (handed_back e m).end

unfoldable pub succeeded : Ended → Bool
succeeded Finished = true
succeeded (Halted h l) = false

abbrev pub accepted : Change → LentStore → Bool
accepted e m = succeeded (edit_end e m)

-- the key that an edit names, none where the bytes are no cell or key
unfoldable pub key_of_cell : Option Cell → Option Key
key_of_cell None = None
key_of_cell (Some c) = Some c.key

unfoldable pub key_named : Change → Option Key
key_named (put s) = key_of_cell (whole_cell s)
key_named (remove s) = whole_key s

-- keys are compared as numbers
unfoldable pub is_key : Key → Option Key → Bool
is_key k None = false
is_key k (Some l) = eqb (key_as_number l) (key_as_number k)

-- an accepted put or remove of key k
unfoldable pub touches : Key → Change → LentStore → Bool
touches k e m = accepted e m && is_key k (key_named e)

-- the key is one of the parameter in the datasource that k names
unfoldable pub of_its_parameter : Key → Option Key → Bool
of_its_parameter k None = false
of_its_parameter k (Some l) = eqb l.datasource k.datasource && eqb l.parameter k.parameter

-- an accepted put or remove of a cell of that parameter
unfoldable pub touches_parameter : Key → Change → LentStore → Bool
touches_parameter k e m = accepted e m && of_its_parameter k (key_named e)

-- the same edit on the cells alone, in a buffer of `size` bytes
unfoldable pub edited : ℕ → Change → List Cell → CellEdit
edited size (put s) cs = put_on size (whole_cell s) cs
edited size (remove s) cs = remove_on (whole_key s) cs
