use Rattle.std.proofs.Common.{◌≡◌, Err, rules}
use Rattle.pages.specs.Inner.Packed.{headings_of}
use Rattle.pages.proofs.Stepping.{step_over, step_lines_ready, steps}
use Rattle.values.specs.Inner.State.{headings_in}
use Rattle.pages.proofs.step.step.Goals as goal

pub returns-in_err-turn : goal.returns-in_err-turn
returns-in_err-turn c =
    let a = c.args in
    let e : c.from_residual.result ≡ Err c.in_err-turn.field-0.0 = search rules in
    rw e (step_over _ a.scene _ _ (headings_of (headings_in a.words.now)) a.feeds a.line _ _ a.log.now c.requires _ _ _ _ c.in_err-turn.ensures)

pub say_lines-requires : goal.say_lines-requires
say_lines-requires c =
    let a = c.args in
    step_lines_ready _ a.scene _ _ (headings_of (headings_in a.words.now)) a.feeds a.line _ _ a.log.now c.requires _ _ _ _ c.in_ok-turn.ensures

pub returns : goal.returns
returns c =
    let a = c.args in
    steps _ a.scene _ _ (headings_of (headings_in a.words.now)) a.feeds a.line _ _ a.log.now c.requires _ _ _ _ c.in_ok-turn.ensures _ _ _ _ _ c.say_lines.ensures
