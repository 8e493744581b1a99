-- The cell at the position has the key, or none has.
use Rattle.cells.proofs.Answering.{cell_past, cell_found, cell_other}
use Rattle.cells.proofs.question.cell_answer.Goals.{else-position-count-via-then-position-count+else-has_key, else-position-count-via-else-position-count}
use Rattle.cells.proofs.question.cell_answer.Goals as goal

pub returns-then-has_key : goal.returns-then-has_key
returns-then-has_key c =
    cell_found _ _ _ _ _ c.near-position.ensures c.if-position-count.true _ _ c.place_of-at.ensures c.has_key.ensures c.if-has_key.true _ c.value_at-answer.ensures

pub returns-else-position-count : goal.returns-else-position-count
returns-else-position-count c =
    elim c.else-position-count.branch [
      | else-position-count-via-then-position-count+else-has_key w ↦ cell_other _ _ _ _ _ c.near-position.ensures w.if-position-count.true _ _ c.place_of-at.ensures w.has_key.ensures w.if-has_key.false
      | else-position-count-via-else-position-count w ↦ cell_past _ _ _ _ _ c.near-position.ensures w.if-position-count.false
    ]
