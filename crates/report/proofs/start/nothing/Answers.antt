use Rattle.report.specs.Inner.Start.{nothing_saved}
use Rattle.report.proofs.start.nothing.Goals as goal

pub returns : goal.returns
unfolding nothing_saved
returns c = c.saved.ensures
