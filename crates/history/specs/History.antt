-- "the whole list of edits, the empty list included"
use Rattle.std.specs.Prelude.{Bool, true, not, ◌&&◌, List, [], ◌∷◌, ℕ, length, replicate, Option, Some, None}
use Rattle.meaning.specs.declared.refusal.Refusal.TheVariants.{BadStore}
use Rattle.meaning.specs.declared.end.Ended.{Ended}
use Rattle.cells.specs.Asking.{refused_with}
use Rattle.cells.specs.Cell.{Key, Cell}
use Rattle.history.specs.LentStore.{LentStore}
use Rattle.history.specs.Change.{Change, after_change, edit_end, touches, touches_parameter, edited}

-- the store after the edits, one after the other
unfoldable pub after_changes : List Change → LentStore → LentStore
after_changes [] m = m
after_changes (e ∷ es) m = after_changes es (after_change e m)

-- how each of them ended
unfoldable pub ends : List Change → LentStore → List Ended
ends [] m = []
ends (e ∷ es) m = edit_end e m ∷ ends es (after_change e m)

-- none of them is an accepted put or remove of key k
unfoldable pub untouched : Key → List Change → LentStore → Bool
untouched k [] m = true
untouched k (e ∷ es) m = not (touches k e m) && untouched k es (after_change e m)

-- none of them is an accepted put or remove of a cell of the parameter that k names
unfoldable pub outside : Key → List Change → LentStore → Bool
outside k [] m = true
outside k (e ∷ es) m = not (touches_parameter k e m) && outside k es (after_change e m)

-- the same edits on a list of cells, in a buffer of `size` bytes: the cells that they leave, and how each ends
unfoldable pub cells_after : ℕ → List Change → List Cell → List Cell
cells_after size [] cs = cs
cells_after size (e ∷ es) cs = cells_after size es (edited size e cs).left

unfoldable pub ends_on : ℕ → List Change → List Cell → List Ended
ends_on size [] cs = []
ends_on size (e ∷ es) cs = (edited size e cs).end ∷ ends_on size es (edited size e cs).left

-- "The list starts from the store, of any bytes": out of form there are no cells, before or after, and every edit ends in 1
unfoldable pub cells_held_after : ℕ → List Change → Option (List Cell) → Option (List Cell)
cells_held_after size es None = None
cells_held_after size es (Some cs) = Some (cells_after size es cs)

unfoldable pub ends_after : ℕ → List Change → Option (List Cell) → List Ended
ends_after size es None = replicate (length es) (refused_with BadStore)
ends_after size es (Some cs) = ends_on size es cs
