-- A cell's field, or any.
use Rattle.std.proofs.Common.{◌≡◌, Err, rules}
use Rattle.pages.proofs.FieldValues.{cell_askable, cell_there, cell_stops}
use Rattle.pages.proofs.text.field_value.Goals as goal

pub cell_value-requires : goal.cell_value-requires
cell_value-requires c = cell_askable _ _ _ _ _ _ c.requires (c.cell_field_at.ensures.reads _ c.in-Some.is)

pub returns-in_err-worth : goal.returns-in_err-worth
returns-in_err-worth c =
    let e : c.from_residual.result ≡ Err c.in_err-worth.field-0.0 = search rules in
    rw e (cell_stops _ _ _ _ _ _ _ _ _ _ _ (c.cell_field_at.ensures.reads _ c.in-Some.is) _ c.in_err-worth.ensures)

pub returns : goal.returns
returns c = cell_there _ _ _ _ _ _ _ _ _ _ _ (c.cell_field_at.ensures.reads _ c.in-Some.is) _ c.in_ok-worth.ensures
