-- A field of a cell without entry and filter, read at once.
use Rattle.std.specs.Prelude.{◌≡◌, List, ℕ, Option, Some}
use Rattle.arguments.specs.declared.argument.Argument.{Argument}
use Rattle.arguments.specs.declared.operand.Operand.{Operand}
use Rattle.arguments.specs.Inner.CellArgument.{CellOperand, unfiltered}
use Rattle.texts.specs.declared.text.Field.{Field}
use Rattle.texts.specs.declared.cell_field.CellField as C
use Rattle.texts.specs.Readers.Text.{field_at}

abbrev pub field_with : Argument → ℕ → Option ℕ → Field
field_with a w p = record { argument = a; width = w; places = p }

-- the field at a place of a line is this one
pub record CellShown (l : List ℕ) (at : ℕ) (c : C.CellField) : Type 0 where
  pub operand : Operand
  pub cell : CellOperand c.parameter c.index operand
  pub field : field_at l at ≡ Some (field_with (unfiltered operand) c.width c.places, c.next)

-- another field, or the one that stands there
pub record ReadsField (l : List ℕ) (at : ℕ) (r : Option C.CellField) : Type 0 where
  pub reads : (c : C.CellField) → r ≡ Some c → CellShown l at c
