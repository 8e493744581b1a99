-- The loop keeps: the search from its place on finds what the search from the start finds.
use native.Mathlib.Omega.{arith}
use Rattle.template.specs.Inner.Within.{Within}
use Rattle.template.proofs.LineLaws.{part_line}
use Rattle.template.proofs.SectionLaws.{section_none, section_here, section_later}
use Rattle.template.proofs.sections.section_from.Goals as goal

pub returns-then-selects_line : goal.returns-then-selects_line
unfolding Within
returns-then-selects_line c =
    (section_here _ _ _ _ c.loop-at.invariant.0 _ c.loop-at-test.true (part_line c.args.template.now _ c.loop-at.at c.line_of-line.ensures) _ c.selects_line.ensures c.if-selects_line.true, (c.loop-at-test.true, omega arith))

pub loop-at-preserved : goal.loop-at-preserved
loop-at-preserved c =
    (section_later _ _ _ _ c.loop-at.invariant.0 _ c.loop-at-test.true (part_line c.args.template.now _ c.loop-at.at c.line_of-line.ensures) _ c.selects_line.ensures c.if-selects_line.false, omega arith)

pub returns : goal.returns
unfolding Within
returns c = (section_none _ _ _ _ c.loop-at.invariant.0 c.loop-at-test.false, tt)
