use mathlib.Core.Path.{refl}
use Rattle.report.specs.Inner.Start.{no_log}
use Rattle.report.proofs.start.no_log.Goals as goal

pub returns : goal.returns
unfolding no_log
returns c = refl
