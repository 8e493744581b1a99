-- The line is split and parsed, its arguments are worked out, and it is executed in its form.
use Rattle.std.proofs.Common.{◌≡◌, Err, rules}
use Rattle.executed_line.proofs.Lining.{past_ready, has_form, form_parsed, form_ready, inputs_ready, line_over, line_follows}
use Rattle.control.specs.Inner.Forms.{parsed_inputs}
use Rattle.executed_line.proofs.line.line.Goals as goal

pub unwrap-form-requires : goal.unwrap-form-requires
unwrap-form-requires c = has_form c.requires c.line_of-body.ensures _ c.form_of.ensures

pub past-requires : goal.past-requires
past-requires c = past_ready c.requires c.line_of-body.ensures

pub work_out-requires : goal.work_out-requires
unfolding parsed_inputs
work_out-requires c = inputs_ready c.requires c.line_of-body.ensures c.scene_of-scene.ensures c.past.ensures (form_parsed c.requires c.line_of-body.ensures _ c.form_of.ensures c.unwrap-form.ensures) _ c.inputs_of-arguments.ensures

pub returns-in_err-first : goal.returns-in_err-first
unfolding parsed_inputs
returns-in_err-first c =
    let e : c.from_residual.result ≡ Err c.in_err-first.field-0.0 = search rules in
    rw e (line_over c.requires c.line_of-body.ensures c.scene_of-scene.ensures c.past.ensures (form_parsed c.requires c.line_of-body.ensures _ c.form_of.ensures c.unwrap-form.ensures) _ c.inputs_of-arguments.ensures _ _ c.in_err-first.ensures, c.requires.remembered)

pub execute-requires : goal.execute-requires
execute-requires c = form_ready c.requires c.line_of-body.ensures c.scene_of-scene.ensures c.past.ensures (form_parsed c.requires c.line_of-body.ensures _ c.form_of.ensures c.unwrap-form.ensures) _ c.work_out.ensures.few

pub returns : goal.returns
unfolding parsed_inputs
returns c = (line_follows c.requires c.line_of-body.ensures c.scene_of-scene.ensures c.past.ensures (form_parsed c.requires c.line_of-body.ensures _ c.form_of.ensures c.unwrap-form.ensures) _ c.inputs_of-arguments.ensures _ _ _ c.in_ok-first.ensures _ _ _ _ _ _ c.execute.ensures, c.execute.ensures.remembered)
