-- The sum of the test would overflow; the difference does not.
use mathlib.Core.Path.{sym, ◌∙◌}
use native.Mathlib.Omega.{arith}
use borrow.Author.Tests.{lt-leb}
use Rattle.buffers.proofs.Laws.{room_tail, room_false}
use Rattle.buffers.proofs.has_room.Goals as goal

pub returns-then-at-buffer : goal.returns-then-at-buffer
returns-then-at-buffer c = room_tail _ _ _ c.if-at-buffer.true

pub returns-else-at-buffer : goal.returns-else-at-buffer
returns-else-at-buffer c = lt-leb _ _ c.if-at-buffer.false ∙ sym (room_false _ _ _ (omega arith))
