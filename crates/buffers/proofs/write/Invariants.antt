use mathlib.Core.Path.{◌≡◌}
use lib.ListN.{length, take}
use lib.Seq.{sets}
use Rattle.buffers.proofs.write.Given as goal

abbrev pub invariant-loop-i : goal.invariant-loop-i
invariant-loop-i l = (l.buffer ≡ sets l.initial.buffer l.at (take l.i l.bytes)) × (length l.buffer ≡ length l.initial.buffer)
