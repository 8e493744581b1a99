-- The question, and what its answer is worth.
use Rattle.values.proofs.Cells.{cell_valued}
use mir.ValLaws.{to_z-of_z}
use mir.Val.{SFits}
use mir.Syntax.{w64}
use borrow.Author.Rules.{rules}
use Rattle.values.proofs.value.cell_value.Goals as goal

pub returns : goal.returns
returns c = let f : SFits w64 c.args.scene.turn = search rules in cell_valued _ _ _ _ _ _ _ _ _ _ _ _ c.valued.ensures (to_z-of_z w64 _ f) c.index_place-r.ensures c.ask_cell.ensures
