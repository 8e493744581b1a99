use mathlib.Core.Path.{◌≡◌}
use Prim.Native.Nat.{◌-◌}
use lib.Seq.{sets}
use Rattle.fields.specs.Digits.{digits}
use Rattle.fields.proofs.digits.put_digits.Given as goal

abbrev pub invariant-loop-written : goal.invariant-loop-written
invariant-loop-written l = sets l.buffer l.at (digits (l.count - l.written) l.m) ≡ sets l.initial.buffer l.at (digits l.count l.n)
