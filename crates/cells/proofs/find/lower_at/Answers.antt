-- What was read there, compared with the bound.
use Rattle.std.proofs.Common.{sym, arith}
use Rattle.cells.proofs.Halving.{is_below, not_below, lower_at}
use Rattle.cells.proofs.find.lower_at.Goals as goal

pub returns-then-key_and_byte-bound : goal.returns-then-key_and_byte-bound
returns-then-key_and_byte-bound c = lower_at _ _ _ _ _ _ _ c.from-at.ensures c.key_and_byte.ensures (omega arith) (λ _ _. sym (is_below _ _ c.if-key_and_byte-bound.true))

pub returns : goal.returns
returns c = lower_at _ _ _ _ _ _ _ c.from-at.ensures c.key_and_byte.ensures (omega arith) (λ _ _. sym (not_below _ _ c.if-key_and_byte-bound.false))
