-- The loop keeps: the lines from its place on, counted on, give what the lines from the start do.
use mathlib.Core.Path.{sym, ap, ◌∙◌}
use native.Mathlib.Omega.{arith}
use Rattle.template.specs.Shape.{is_formed}
use Rattle.template.proofs.LineLaws.{part_line}
use Rattle.template.proofs.VerdictLaws.{judged_fine, judged_fault, none_left, fault_here, passed_later}
use Rattle.template.proofs.forms.formed_from.Goals as goal

pub returns-then-not-is_formed : goal.returns-then-not-is_formed
returns-then-not-is_formed c =
    let e = part_line c.args.template.now _ c.loop-at.at c.line_of-line.ensures in
    judged_fault _ _ _ (fault_here is_formed _ _ _ c.loop-at.invariant.0 c.loop-at-test.true (ap is_formed (sym e) ∙ sym c.is_formed.ensures ∙ c.if-not-is_formed.true))

pub loop-at-preserved : goal.loop-at-preserved
loop-at-preserved c =
    let e = part_line c.args.template.now _ c.loop-at.at c.line_of-line.ensures in
    (passed_later is_formed _ _ _ c.loop-at.invariant.0 _ c.loop-at-test.true e (sym c.is_formed.ensures ∙ c.if-not-is_formed.false), omega arith)

pub returns : goal.returns
returns c = judged_fine _ _ (none_left is_formed _ _ _ c.loop-at.invariant.0 c.loop-at-test.false)
