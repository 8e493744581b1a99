-- A cell without entry and filter, read at once where the comma of a field follows.
use Rattle.std.specs.Prelude.{◌≡◌, cond, List, ℕ, ◌+◌, Option, Some}
use Rattle.scan.specs.Line.{byte_at, byte_is}
use Rattle.arguments.specs.declared.index.Index.{Index}
use Rattle.arguments.specs.declared.index.Index.TheVariants.{Fixed}
use Rattle.arguments.specs.declared.operand.Operand.{Operand}
use Rattle.arguments.specs.declared.operand.Operand.TheVariants.{Parameter, Record}
use Rattle.arguments.specs.declared.argument.Argument.{Argument}
use Rattle.arguments.specs.declared.argument.Filter.TheVariants.{Unfiltered}
use Rattle.arguments.specs.Readers.Index.{index_at}
use Rattle.arguments.specs.Readers.Argument.{argument_at}

-- an index behind a point, or 0 where there is no point
unfoldable pub record_at : List ℕ → ℕ → Option (Index × ℕ)
record_at l at = cond (byte_is l at ".") (index_at l (at + 1)) (Some (Fixed 0, at))

-- an operand is the cell Pn.i, or Pn where i is 0
pub data CellOperand (n : ℕ) (i : Index) (o : Operand) : Type 0 where
  indexed : o ≡ Record n i → CellOperand n i o
  alone : o ≡ Parameter n → i ≡ Fixed 0 → CellOperand n i o

abbrev pub unfiltered : Operand → Argument
unfiltered o = record { operand = o; filter = Unfiltered }

-- the argument at a place of a line is this cell, and a comma follows
pub record CellArgument (l : List ℕ) (at n : ℕ) (i : Index) (next : ℕ) : Type 0 where
  pub operand : Operand
  pub cell : CellOperand n i operand
  pub argument : argument_at l at ≡ Some (unfiltered operand, next)
  pub comma : byte_at l next ≡ 44

-- another argument, or the one that stands there
pub record ReadsCell (l : List ℕ) (at : ℕ) (r : Option (ℕ × Index × ℕ)) : Type 0 where
  pub reads : (n : ℕ) (i : Index) (next : ℕ) → r ≡ Some (n, i, next) → CellArgument l at n i next
