-- The cell, then what stands behind its comma.
use mathlib.Core.Path.{refl, sym, ◌∙◌}
use native.Mathlib.Omega.{arith}
use Rattle.scan.proofs.RunLaws.{byte_within}
use Rattle.texts.proofs.CellFieldLaws.{field_reads}
use Rattle.texts.proofs.cell_field.cell_field_at.Goals as goal

pub overflow_add-comma : goal.overflow_add-comma
overflow_add-comma c = omega (arith, byte_within _ _ _ _ refl (c.cell_at.ensures.reads _ _ _ c.in_ok-parameter.was).comma (omega arith))

pub returns : goal.returns
returns c =
    field_reads _ _ _ _ _ (c.cell_at.ensures.reads _ _ _ c.in_ok-parameter.was) _ _ _ _
    (sym c.number_at.ensures ∙ c.in_ok-width.was)
    (sym c.places_at.ensures ∙ c.in_ok-places.was)
