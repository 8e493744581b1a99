use mathlib.Core.Path.{◌≡◌}
use mathlib.Core.List.{map}
use lib.ListN.{take}
use lib.Seq.{sets}
use Rattle.buffers.specs.Buffer.{part}
use Rattle.values.specs.Letters.{upper}
use Rattle.pages.proofs.field.raise.Given as goal

abbrev pub invariant-loop-j : goal.invariant-loop-j
invariant-loop-j l = l.buffer ≡ sets l.initial.buffer l.at (take l.j (map upper (part l.initial.buffer l.at l.count)))
