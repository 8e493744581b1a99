-- No field, or its argument.
use Rattle.std.proofs.Common.{◌≡◌, Err, rules}
use mathlib.Core.Path.{sym, ◌∙◌}
use Rattle.pages.proofs.FieldValues.{field_there, field_stops, no_field}
use Rattle.pages.proofs.text.any_field.Goals as goal

pub returns-in_default : goal.returns-in_default
returns-in_default c = no_field _ _ _ _ _ _ _ _ _ _ _ c.field_at.ensures c.in_default.is

pub argument_value-requires : goal.argument_value-requires
argument_value-requires c = (c.requires.asks _ _ (sym c.field_at.ensures ∙ c.in-Some.is), c.requires.sized)

pub returns-in_err-worth : goal.returns-in_err-worth
returns-in_err-worth c =
    let e : c.from_residual.result ≡ Err c.in_err-worth.field-0.0 = search rules in
    rw e (field_stops _ _ _ _ _ _ _ _ _ _ _ c.field_at.ensures _ _ c.in-Some.is _ c.in_err-worth.ensures)

pub returns : goal.returns
returns c = field_there _ _ _ _ _ _ _ _ _ _ _ c.field_at.ensures _ _ c.in-Some.is _ c.in_ok-worth.ensures
