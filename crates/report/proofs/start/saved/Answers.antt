use Rattle.report.specs.Inner.Start.{start_saved}
use Rattle.report.proofs.start.saved.Goals as goal

pub returns : goal.returns
unfolding start_saved
returns c = rw c.flow-f.ensures
