-- How edits end, and what they leave, is told by the cells and the length of the buffer alone.
use mathlib.Core.Path.{◌≡◌, sym, ap₂, ◌∙◌}
use mathlib.Core.List.{List}
use lib.ListN.{length}
use Rattle.history.specs.LentStore.{LentStore, cells_held_by}
use Rattle.history.specs.Change.{Change}
use Rattle.history.specs.History.{after_changes, ends, cells_held_after, ends_after}
use Rattle.history.proofs.Lists.{folded, ends_are}

-- stores that hold the same cells in buffers equally long: every list of edits ends alike in both
pub ends_by_cells : (es : List Change) (m m' : LentStore) → length m.buffer ≡ length m'.buffer → cells_held_by m ≡ cells_held_by m' → ends es m ≡ ends es m'
ends_by_cells es m m' l h = ends_are es m ∙ ap₂ (λ size o. ends_after size es o) l h ∙ sym (ends_are es m')

-- and leaves the same cells
pub cells_by_cells : (es : List Change) (m m' : LentStore) → length m.buffer ≡ length m'.buffer → cells_held_by m ≡ cells_held_by m' → cells_held_by (after_changes es m) ≡ cells_held_by (after_changes es m')
cells_by_cells es m m' l h = folded es m ∙ ap₂ (λ size o. cells_held_after size es o) l h ∙ sym (folded es m')
