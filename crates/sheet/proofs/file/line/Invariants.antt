-- Of the bytes read so far each is kept.
use Rattle.std.proofs.Common.{◌≤◌}
use Rattle.sheet.proofs.file.line.Given as goal

abbrev pub invariant-loop-slot : goal.invariant-loop-slot
invariant-loop-slot g l = l.n ≤ l.slot-index
