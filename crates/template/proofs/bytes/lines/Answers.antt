use mathlib.Core.Path.{◌≡◌}
use native.Mathlib.Omega.{arith}
use Rattle.scan.specs.Line.{line_at}
use Rattle.template.specs.Verdicts.{line_allowed}
use Rattle.template.proofs.LineLaws.{part_line}
use Rattle.template.proofs.VerdictLaws.{judged_fine, judged_fault, none_left, found_long, found_refused, next_line_law, next_fine}
use Rattle.template.proofs.bytes.lines.Goals as goal
use Rattle.template.proofs.bytes.lines.Goals.{then-length-gt-LONGEST_LINE-via-then-length-gt-LONGEST_LINE, then-length-gt-LONGEST_LINE-via-else-length-gt-LONGEST_LINE+then-refused-at}

pub returns-then-length-gt-LONGEST_LINE : goal.returns-then-length-gt-LONGEST_LINE
returns-then-length-gt-LONGEST_LINE c =
    let split : c.line_of-line.result.now ≡ line_at c.args.template.now c.loop-at.at = part_line c.args.template.now _ c.loop-at.at c.line_of-line.ensures in
    let i = c.loop-at.invariant in
    judged_fault _ _ _
    (elim c.then-length-gt-LONGEST_LINE.branch [
      | then-length-gt-LONGEST_LINE-via-then-length-gt-LONGEST_LINE w ↦ found_long _ _ _ _ 0 i.0 c.loop-at-test.true (split) w.if-length-gt-LONGEST_LINE.true
      | then-length-gt-LONGEST_LINE-via-else-length-gt-LONGEST_LINE+then-refused-at w ↦ found_refused _ _ _ _ _ i.0 c.loop-at-test.true (split) (i.2 c.loop-at-test.true) c.requires.1 w.if-length-gt-LONGEST_LINE.false w.if-refused-at.true
    ])

pub loop-at-preserved : goal.loop-at-preserved
loop-at-preserved c =
    let split : c.line_of-line.result.now ≡ line_at c.args.template.now c.loop-at.at = part_line c.args.template.now _ c.loop-at.at c.line_of-line.ensures in
    let i = c.loop-at.invariant in
    let e = split in
    let b = i.2 c.loop-at-test.true in
    let r = c.requires.1 in
    (next_line_law _ _ _ _ _ i.0 c.loop-at-test.true e b r c.if-length-gt-LONGEST_LINE.false c.if-refused-at.false, omega arith, next_fine _ _ _ _ _ i.0 c.loop-at-test.true e b r c.if-length-gt-LONGEST_LINE.false c.if-refused-at.false)

pub returns : goal.returns
returns c = judged_fine _ _ (none_left line_allowed _ _ _ c.loop-at.invariant.0 c.loop-at-test.false)
