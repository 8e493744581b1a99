-- Each test says what stands there, and the last what follows.
use mathlib.Core.Path.{sym, ◌∙◌}
use Rattle.arguments.proofs.CellLaws.{argument_there, cell_reads}
use Rattle.arguments.proofs.cell.cell_at.Goals as goal

pub returns : goal.returns
returns c =
    cell_reads _ _ _ _ _ (argument_there _ _ _ _
    (sym c.byte.ensures.value ∙ c.if-byte-ne80.false)
    (sym c.number_at.ensures ∙ c.in_ok-n.was)
    _ _
    (sym c.record_at.ensures ∙ c.in_ok-r.was)
    (sym c.byte-2.ensures.value ∙ c.if-byte-ne44.false))
