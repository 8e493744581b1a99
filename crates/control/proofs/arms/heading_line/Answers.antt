use Rattle.control.proofs.Following.{heads}
use Rattle.control.proofs.arms.heading_line.Goals as goal

pub returns : goal.returns
returns c = heads _ _ _ _ _ c.packed-word.ensures c.put.ensures
