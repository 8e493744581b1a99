use mathlib.Core.Path.{◌≡◌}
use lib.ListN.{take}
use lib.Seq.{sets}
use Rattle.values.specs.Inner.Texts.{zeros, cased}
use Rattle.commands.proofs.string.copied.Given as goal

abbrev pub invariant-loop-j : goal.invariant-loop-j
invariant-loop-j l = l.row ≡ sets zeros 0 (take l.j (cased l.raised l.bytes))
