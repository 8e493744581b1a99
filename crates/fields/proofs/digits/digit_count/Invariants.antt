use mathlib.Core.Path.{◌≡◌}
use Prim.Native.Nat.{◌+◌, ◌≤◌}
use Rattle.fields.specs.Digits.{digit_count}
use Rattle.fields.proofs.digits.digit_count.Given as goal

abbrev pub invariant-loop-m : goal.invariant-loop-m
invariant-loop-m l = (l.count + digit_count l.m ≡ 1 + digit_count l.n) × (l.count + l.m ≤ l.n + 1)

abbrev pub decreases-loop-m : goal.decreases-loop-m
decreases-loop-m l = l.m
