use mathlib.Core.Path.{refl}
use Rattle.report.specs.Inner.Start.{full_at}
use Rattle.report.proofs.ends.full.Goals as goal

pub returns : goal.returns
unfolding full_at
returns c = refl
