use mathlib.Core.Path.{◌≡◌}
use Prim.Native.Nat.{◌+◌, ◌^◌, ◌<◌}
use lib.ListN.{length, drop}
use Rattle.scan.specs.declared.run.Class.TheVariants.{Digit}
use Rattle.scan.specs.Run.{span}
use Rattle.scan.specs.Value.{value_from}
use Rattle.scan.proofs.digits.digits_of.Given as goal

abbrev pub invariant-loop-count : goal.invariant-loop-count
invariant-loop-count l = record {
  counted : l.count + length (span Digit (drop l.count l.s)) ≡ length (span Digit l.s);
  valued : value_from l.value (span Digit (drop l.count l.s)) ≡ value_from 0 (span Digit l.s);
  below : l.value < 10 ^ l.count;
}
