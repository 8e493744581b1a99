-- No argument, a number, one or two: one law for each way that they end.
use Rattle.std.proofs.Common.{◌≡◌, Err, rules}
use Rattle.values.proofs.Inputs.{askable_one, askable_first, askable_second, works_none, works_literal, works_one, one_over, first_over, works_two, second_over}
use Rattle.values.proofs.working.work_out.Goals as goal

pub returns-in-None : goal.returns-in-None
returns-in-None c = works_none _ _ _ _ _ _ _ c.in-None.is

pub returns-in-Some : goal.returns-in-Some
returns-in-Some c = works_literal _ _ _ _ _ _ _ _ _ _ _ _ c.literal_of.ensures c.in-Some.is c.in-One.is

pub argument_value-requires : goal.argument_value-requires
argument_value-requires c = (askable_one _ _ _ c.requires.0 _ c.in-One.is, c.requires.1)

pub returns-in_err-v-in-One : goal.returns-in_err-v-in-One
returns-in_err-v-in-One c =
    let e : c.from_residual.result ≡ Err c.in_err-v-in-One.field-0.0 = search rules in
    rw e (one_over _ _ _ _ _ _ _ _ _ _ c.in_err-v-in-One.ensures c.in-One.is)

pub returns-in_ok-v-in-One : goal.returns-in_ok-v-in-One
returns-in_ok-v-in-One c = works_one _ _ _ _ _ _ _ _ _ _ c.in_ok-v-in-One.ensures c.in-One.is

pub argument_value-requires-in-Two : goal.argument_value-requires-in-Two
argument_value-requires-in-Two c = (askable_first _ _ _ c.requires.0 _ _ c.in-Two.is, c.requires.1)

pub returns-in_err-v-in-Two : goal.returns-in_err-v-in-Two
returns-in_err-v-in-Two c =
    let e : c.from_residual-in_err-v-in-Two.result ≡ Err c.in_err-v-in-Two.field-0.0 = search rules in
    rw e (first_over _ _ _ _ _ _ _ _ _ _ c.in-Two.is _ c.in_err-v-in-Two.ensures)

pub argument_value-requires-in-Two-2 : goal.argument_value-requires-in-Two-2
argument_value-requires-in-Two-2 c = (askable_second _ _ _ c.requires.0 _ _ _ c.in-Two.is c.in_ok-v-in-Two.ensures.yields.few, c.requires.1)

pub returns-in_err-w-in-Two : goal.returns-in_err-w-in-Two
returns-in_err-w-in-Two c =
    let e : c.from_residual-in_err-w-in-Two.result ≡ Err c.in_err-w-in-Two.field-0.0 = search rules in
    rw e (second_over _ _ _ _ _ _ _ _ _ _ c.in-Two.is _ c.in_ok-v-in-Two.ensures _ _ c.in_err-w-in-Two.ensures)

pub returns-in_ok-w-in-Two : goal.returns-in_ok-w-in-Two
returns-in_ok-w-in-Two c = works_two _ _ _ _ _ _ _ _ _ _ c.in-Two.is _ c.in_ok-v-in-Two.ensures _ _ c.in_ok-w-in-Two.ensures
