use Rattle.report.specs.Inner.Start.{refused_at}
use Rattle.report.proofs.start.refused.Goals as goal

pub returns : goal.returns
unfolding refused_at
returns c = rw (c.number.ensures, c.no_log-log.ensures, c.nothing-v.ensures)
