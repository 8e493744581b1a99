use mathlib.Core.Path.{◌≡◌}
use Prim.Native.Nat.{◌-◌, ◌≤◌}
use lib.ListN.{length, drop}
use Rattle.template.specs.Lines.{lines_of}
use Rattle.template.specs.Seek.{skip_from}
use Rattle.template.proofs.seek.lines_passed.Given as goal

abbrev pub invariant-loop-at : goal.invariant-loop-at
invariant-loop-at l = (skip_from l.sought l.depth l.at l.lines (lines_of (drop l.at l.rest)) ≡ skip_from l.sought 0 0 0 (lines_of l.rest)) × (l.lines ≤ l.at) × (l.depth ≤ l.lines)

abbrev pub decreases-loop-at : goal.decreases-loop-at
decreases-loop-at l = length l.rest - l.at
