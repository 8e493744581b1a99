-- The loop keeps: the lines from its place on, with what is open inside, give what the whole part gives.
use mathlib.Core.Path.{sym, ◌∙◌}
use native.Mathlib.Omega.{arith}
use Rattle.template.proofs.LineLaws.{part_line}
use Rattle.template.proofs.SeekLaws.{past_bound, skip_end, skip_here, skip_on}
use Rattle.template.proofs.seek.lines_passed.Goals as goal

pub returns-in_default : goal.returns-in_default
returns-in_default c =
    skip_here _ _ _ _ _ c.loop-at.invariant.0 _ _ _ _ c.loop-at-test.true (part_line c.args.rest.now _ c.loop-at.at c.line_of-line.ensures) c.shape_by_word-shape.ensures c.role_of-role.ensures c.way_past.ensures c.in_default.is

pub loop-at-preserved : goal.loop-at-preserved
loop-at-preserved c =
    let p = c.way_past.ensures in
    let g = c.in-Some.is in
    (skip_on _ _ _ _ _ c.loop-at.invariant.0 _ _ _ _ c.loop-at-test.true (part_line c.args.rest.now _ c.loop-at.at c.line_of-line.ensures) c.shape_by_word-shape.ensures c.role_of-role.ensures p _ g, omega arith, omega (arith, past_bound _ _ _ (sym p ∙ g)))

pub returns : goal.returns
returns c = skip_end _ _ _ _ _ c.loop-at.invariant.0 c.loop-at-test.false
