-- The kind says how many bytes the cell has.
use Rattle.std.proofs.Common.{sym, ◌∙◌}
use Rattle.cells.proofs.CellForm.{kind_some}
use Rattle.cells.proofs.Values.{size_in, size_none}
use Rattle.cells.proofs.find.size_at.Goals as goal

pub returns-in-Some : goal.returns-in-Some
returns-in-Some c = size_in _ _ _ (c.size.ensures ∙ sym (kind_some _ _ (sym c.at.ensures.told ∙ c.in-Some.is)))

pub returns-in-None : goal.returns-in-None
returns-in-None c = size_none _ _ (sym c.at.ensures.told ∙ c.in-None.is)
