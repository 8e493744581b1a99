-- The bytes are one cell just when the cell that they begin with is as long as they are.
use Rattle.std.proofs.Common.{arith}
use Rattle.cells.proofs.CellForm.{front_none, front_sized}
use Rattle.cells.proofs.Requests.{request_none, request_more, request_cell}
use Rattle.cells.proofs.request.cell_request.Goals as goal

pub returns-in_err-size : goal.returns-in_err-size
returns-in_err-size c = rw c.from_residual.ensures (request_none _ 0 (front_none _ _ c.cell_size.ensures c.in_err-size.was) (omega arith))

pub returns-then-size-cell : goal.returns-then-size-cell
returns-then-size-cell c = request_more _ _ (front_sized _ _ _ c.cell_size.ensures c.in_ok-size.was).0 c.if-size-cell.true

pub key_number-requires : goal.key_number-requires
key_number-requires c = let (s, h) = front_sized _ _ _ c.cell_size.ensures c.in_ok-size.was in omega (arith, s.least h, s.inside)

pub returns : goal.returns
returns c =
    let (s, h) = front_sized _ _ _ c.cell_size.ensures c.in_ok-size.was in
    request_cell _ _ s h c.if-size-cell.false _ c.key_number.ensures.0
