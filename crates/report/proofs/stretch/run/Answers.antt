-- Each turn of the loop executes a line. The loop keeps where the lines so far led, and what the rest of the run needs.
use mathlib.Core.Path.{◌≡◌, refl}
use lib.ListN.{length}
use native.Mathlib.Omega.{arith}
use Rattle.report.proofs.Stretching.{going_start, asked_fit, run_ends, run_exceeds, run_full, line_ready, asked_next, text_next, run_halts, going_next}
use borrow.Author.Rules.{rules}
use Rattle.report.proofs.stretch.run.Goals as goal

pub slice_bounds-part-count : goal.slice_bounds-part-count
slice_bounds-part-count c = omega arith

pub slice_bounds-part-end : goal.slice_bounds-part-end
slice_bounds-part-end c = c.requires.stored

pub overflow_sub-log : goal.overflow_sub-log
overflow_sub-log c = c.requires.asked

pub loop-left-init : goal.loop-left-init
loop-left-init c = let e : length c.args.s.saved.words ≡ 212 = search (rules, c.well_formed.1.1.1.1.1.0.1.1.1.1.1.0.1.1) in going_start _ _ _ _ _ c.args.s c.requires e

pub over-requires : goal.over-requires
over-requires c = search (rules, asked_fit)

pub shape_of-text-then-end-at : goal.shape_of-text-then-end-at
shape_of-text-then-end-at c = c.loop-left.invariant.text_same

pub returns-then-end-at : goal.returns-then-end-at
returns-then-end-at c = (run_ends _ _ _ _ _ c.args.s c.requires _ _ _ _ _ _ c.loop-left.invariant _ c.if-end-at.true c.over.ensures, refl)

pub overflow_add-next : goal.overflow_add-next
overflow_add-next c = search (rules, asked_fit)

pub full-requires : goal.full-requires
full-requires c = tt

pub shape_of-text-then-log-gt180 : goal.shape_of-text-then-log-gt180
shape_of-text-then-log-gt180 c = c.loop-left.invariant.text_same

pub returns-then-log-gt180 : goal.returns-then-log-gt180
returns-then-log-gt180 c = (run_full _ _ _ _ _ c.args.s c.requires _ _ _ _ _ _ c.loop-left.invariant _ _ _ refl c.if-log-gt180.true c.full.ensures, refl)

pub line-ended-requires : goal.line-ended-requires
line-ended-requires c = line_ready _ _ _ _ _ c.args.s c.requires _ _ _ _ _ _ c.loop-left.invariant c.loop-left-test.true c.if-end-at.false c.if-log-gt180.false

pub over-requires-in-Err : goal.over-requires-in-Err
over-requires-in-Err c = let h = asked_next _ _ _ _ _ c.args.s c.requires _ _ _ _ _ _ c.loop-left.invariant c.loop-left-test.true c.if-end-at.false c.if-log-gt180.false _ _ _ _ _ _ c.in-Err.ensures in search (rules, h)

pub shape_of-text-in-Err : goal.shape_of-text-in-Err
shape_of-text-in-Err c = text_next _ _ _ _ _ c.args.s c.requires _ _ _ _ _ _ c.loop-left.invariant c.loop-left-test.true c.if-end-at.false c.if-log-gt180.false _ _ _ _ _ _ c.in-Err.ensures

pub returns-in-Err : goal.returns-in-Err
returns-in-Err c = (run_halts _ _ _ _ _ c.args.s c.requires _ _ _ _ _ _ c.loop-left.invariant c.loop-left-test.true c.if-end-at.false c.if-log-gt180.false _ _ _ _ _ _ c.in-Err.ensures _ c.over-in-Err.ensures, refl)

pub overflow_sub-left : goal.overflow_sub-left
overflow_sub-left c = c.loop-left-test.true

pub loop-left-smaller : goal.loop-left-smaller
loop-left-smaller c = omega (arith, c.loop-left-test.true)

pub loop-left-preserved : goal.loop-left-preserved
loop-left-preserved c = going_next _ _ _ _ _ c.args.s c.requires _ _ _ _ _ _ c.loop-left.invariant c.loop-left-test.true c.if-end-at.false c.if-log-gt180.false _ _ _ _ _ _ c.in-Ok.ensures

pub over-requires-then-due-end : goal.over-requires-then-due-end
over-requires-then-due-end c = search (rules, asked_fit)

pub shape_of-text-then-due-end : goal.shape_of-text-then-due-end
shape_of-text-then-due-end c = c.loop-left.invariant.text_same

pub returns-then-due-end : goal.returns-then-due-end
returns-then-due-end c = (run_exceeds _ _ _ _ _ c.args.s c.requires _ _ _ _ _ _ c.loop-left.invariant _ _ c.refused-stop.ensures c.loop-left-test.false c.if-due-end.true c.over-then-due-end.ensures, refl)

pub over-requires-2 : goal.over-requires-2
over-requires-2 c = search (rules, asked_fit)

pub shape_of-text : goal.shape_of-text
shape_of-text c = c.loop-left.invariant.text_same

pub returns : goal.returns
returns c = (run_ends _ _ _ _ _ c.args.s c.requires _ _ _ _ _ _ c.loop-left.invariant _ c.if-due-end.false c.over-2.ensures, refl)

pub slice_bounds-cells-count : goal.slice_bounds-cells-count
slice_bounds-cells-count c = omega arith

pub slice_bounds-cells-end : goal.slice_bounds-cells-end
slice_bounds-cells-end c = c.requires.counted
