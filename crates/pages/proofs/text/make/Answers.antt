use Rattle.std.proofs.Common.{◌≡◌, Err, Ok, rules, ap}
use mathlib.Core.Path.{refl, ◌∙◌}
use Rattle.pages.proofs.Making.{begins, refused, onward, run_small, run_onward, run, field_room, field_small, field_ready, field, over, makes}
use native.Mathlib.Omega.{arith}
use Rattle.pages.proofs.text.make.Goals as goal

pub loop-at-init : goal.loop-at-init
loop-at-init c = begins _ c.args.scene _ _ _ _ c.requires.sayable c.requires.whole

pub overflow_add-filled : goal.overflow_add-filled
overflow_add-filled c = let h = run_small c.loop-at.invariant c.loop-at-test.true _ c.plain_run-run.ensures in omega (arith, h.0)

pub overflow_add-at : goal.overflow_add-at
overflow_add-at c = let h = run_small c.loop-at.invariant c.loop-at-test.true _ c.plain_run-run.ensures in omega (arith, h.1)

pub loop-at-smaller-then-run-gt0 : goal.loop-at-smaller-then-run-gt0
loop-at-smaller-then-run-gt0 c = run_onward c.loop-at.invariant c.loop-at-test.true _ c.plain_run-run.ensures c.if-run-gt0.true

pub loop-at-preserved-then-run-gt0 : goal.loop-at-preserved-then-run-gt0
loop-at-preserved-then-run-gt0 c = run c.loop-at.invariant c.loop-at-test.true _ c.plain_run-run.ensures _ c.write.ensures.buffer

pub field_value-requires : goal.field_value-requires
field_value-requires c = field_ready c.loop-at.invariant c.loop-at-test.true _ c.plain_run-run.ensures c.if-run-gt0.false

pub returns-in_default : goal.returns-in_default
returns-in_default c = refused c.loop-at.invariant c.loop-at-test.true _ c.plain_run-run.ensures c.if-run-gt0.false _ (c.field_value.ensures.none (c.in_ok-found.was ∙ ap Ok c.in_default.is))

pub returns-in_err-found : goal.returns-in_err-found
returns-in_err-found c =
    let e : c.from_residual.result ≡ Err c.in_err-found.field-0.0 = search rules in
    let s = c.in_err-found.ensures.stops _ refl in
    rw e (over c.loop-at.invariant c.loop-at-test.true _ c.plain_run-run.ensures c.if-run-gt0.false _ _ s.is.field s.is.value)

pub put_field-requires : goal.put_field-requires
put_field-requires c = field_room c.loop-at.invariant c.loop-at-test.true _ c.plain_run-run.ensures c.if-run-gt0.false _ _ (c.field_value.ensures.some _ (c.in_ok-found.was ∙ ap Ok c.in-Some.is)).field

pub overflow_add-filled-else-run-gt0 : goal.overflow_add-filled-else-run-gt0
overflow_add-filled-else-run-gt0 c = let h = field_small c.loop-at.invariant c.loop-at-test.true _ c.plain_run-run.ensures c.if-run-gt0.false _ _ (c.field_value.ensures.some _ (c.in_ok-found.was ∙ ap Ok c.in-Some.is)).field in omega (arith, h)

pub loop-at-smaller : goal.loop-at-smaller
loop-at-smaller c = onward c.loop-at.invariant c.loop-at-test.true _ c.plain_run-run.ensures c.if-run-gt0.false _ _ (c.field_value.ensures.some _ (c.in_ok-found.was ∙ ap Ok c.in-Some.is)).field

pub loop-at-preserved : goal.loop-at-preserved
loop-at-preserved c = field c.loop-at.invariant c.loop-at-test.true _ c.plain_run-run.ensures c.if-run-gt0.false _ _ (c.field_value.ensures.some _ (c.in_ok-found.was ∙ ap Ok c.in-Some.is)).field (c.field_value.ensures.some _ (c.in_ok-found.was ∙ ap Ok c.in-Some.is)).value _ _ c.put_field.ensures c.or_wrong-wrong.ensures

pub returns : goal.returns
returns c = makes c.loop-at.invariant c.loop-at-test.false
