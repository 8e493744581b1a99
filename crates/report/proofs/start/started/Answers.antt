use Rattle.report.specs.Inner.Start.{started_at}
use Rattle.report.proofs.start.started.Goals as goal

pub returns : goal.returns
unfolding started_at
returns c = rw (c.no_log-log.ensures, c.saved-v.ensures)
