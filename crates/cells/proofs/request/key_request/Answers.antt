-- The bytes are a key just when there are 7 of them, within the limits.
use Rattle.std.proofs.Common.{arith}
use Rattle.cells.proofs.Requests.{key_unlike, key_out, key_in}
use Rattle.cells.proofs.request.key_request.Goals.{else-key-eq7-via-then-key-eq7+else-key_allowed, else-key-eq7-via-else-key-eq7}
use Rattle.cells.proofs.request.key_request.Goals as goal

pub returns-then-key_allowed : goal.returns-then-key_allowed
returns-then-key_allowed c =
    key_in _ _ c.key_allowed.ensures c.if-key_allowed.true (λ i. (c.type_inv.key i).fits) (omega arith) (omega arith) _ c.key_number.ensures.0

pub returns : goal.returns
returns c =
    elim c.else-key-eq7.branch [
      | else-key-eq7-via-then-key-eq7+else-key_allowed w ↦ key_out _ _ w.key_allowed.ensures w.if-key_allowed.false
      | else-key-eq7-via-else-key-eq7 w ↦ key_unlike _ w.if-key-eq7.false
    ]
