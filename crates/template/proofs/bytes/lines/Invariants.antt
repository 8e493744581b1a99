use mathlib.Core.Path.{◌≡◌}
use Prim.Native.Nat.{◌+◌, ◌-◌, ◌<◌, ◌≤◌}
use lib.ListN.{length, drop}
use Rattle.scan.specs.Inner.Bytes.{first_refused}
use Rattle.template.specs.Lines.{lines_of}
use Rattle.template.specs.Verdicts.{first_fault, line_allowed}
use Rattle.template.proofs.bytes.lines.Given as goal

abbrev pub invariant-loop-at : goal.invariant-loop-at
invariant-loop-at l = (first_fault line_allowed l.number (lines_of (drop l.at l.template)) ≡ first_fault line_allowed 1 (lines_of l.template)) × (l.number ≤ l.at + 1) × (l.at < length l.template → l.at ≤ first_refused l.template)

abbrev pub decreases-loop-at : goal.decreases-loop-at
decreases-loop-at l = length l.template - l.at
