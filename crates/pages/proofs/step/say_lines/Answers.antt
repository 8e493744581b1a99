-- The loop keeps where it stands in the list of lines due: what is left of it, the whole does from the start.
use Rattle.std.proofs.Common.{◌≡◌, Err, rules}
use Rattle.pages.proofs.Heads.{nine_headings}
use Rattle.pages.proofs.Stepping.{lines_begin, line_row, line_ready, line_over, line_next, lines_said}
use Rattle.pages.specs.Inner.Packed.{headings_of}
use Rattle.values.specs.Inner.State.{headings_in}
use native.Mathlib.Omega.{arith}
use Rattle.pages.proofs.step.say_lines.Goals as goal

pub loop-k-init : goal.loop-k-init
loop-k-init c = let a = c.args in lines_begin _ a.scene _ _ (headings_of (headings_in a.words.now)) a.line _ _ _ _ c.requires c.leading-lead.ensures.0 (nine_headings a.words.now)

pub text_line-requires : goal.text_line-requires
text_line-requires c =
    let h = line_ready c.loop-k.invariant c.loop-k-test.true c.line_due-next.ensures c.scene_on-here.ensures c.part-body.ensures in
    record { sayable = h.0; room = h.1 }

pub returns-in_err-text_line : goal.returns-in_err-text_line
returns-in_err-text_line c =
    let e : c.from_residual.result ≡ Err c.in_err-text_line.field-0.0 = search rules in
    rw e (line_over c.loop-k.invariant c.loop-k-test.true c.line_due-next.ensures c.scene_on-here.ensures c.part-body.ensures c.in_err-text_line.ensures)

pub advanced-requires : goal.advanced-requires
advanced-requires c = omega (arith, line_row c.loop-k.invariant c.loop-k-test.true c.line_due-next.ensures)

pub loop-k-preserved : goal.loop-k-preserved
loop-k-preserved c = line_next c.loop-k.invariant c.loop-k-test.true c.line_due-next.ensures c.scene_on-here.ensures c.part-body.ensures c.in_ok-text_line.ensures _ c.advanced.ensures

pub returns : goal.returns
returns c = lines_said c.loop-k.invariant c.loop-k-test.false
