use Rattle.report.specs.Inner.Start.{start_flow}
use Rattle.report.proofs.start.flow.Goals as goal

pub returns : goal.returns
unfolding start_flow
returns c = rw c.new-page.ensures
