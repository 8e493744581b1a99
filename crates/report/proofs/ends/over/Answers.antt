use Rattle.report.specs.Inner.Start.{over_at}
use Rattle.report.proofs.ends.over.Goals as goal

pub returns : goal.returns
unfolding over_at
returns c = rw (c.line.ensures, c.number.ensures, c.nothing-saved.ensures)
