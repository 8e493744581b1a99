use mathlib.Core.Path.{refl}
use Rattle.nesting.proofs.OpenLaws.{closed_by}
use Rattle.nesting.proofs.all_closed.Goals as goal

pub returns : goal.returns
returns c = record { told = refl; closed = λ s h. closed_by s h }
