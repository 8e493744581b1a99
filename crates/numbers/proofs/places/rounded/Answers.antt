-- A quantity that is in range is divided by the unit, with the half added.
use mathlib.Core.Path.{sym, ap, ◌∙◌}
use native.Mathlib.Omega.{arith}
use Rattle.std.specs.Prelude.{Some}
use Rattle.numbers.proofs.Rounding.{rounded_half}
use Rattle.numbers.proofs.Laws.{coarser}
use Rattle.numbers.proofs.places.rounded.Goals as goal

pub returns : goal.returns
returns c =
    rw c.power-unit.ensures (sym (coarser _ _ _ (sym c.millionths.ensures ∙ c.in_ok-m.was) (omega arith) ∙ ap Some (rounded_half _ _)))
