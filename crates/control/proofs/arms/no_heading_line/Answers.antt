use Rattle.control.proofs.Following.{heads}
use mathlib.Core.Path.{refl}
use Rattle.pages.specs.Inner.Packed.{heading_in}
use Rattle.control.proofs.arms.no_heading_line.Goals as goal

pub returns : goal.returns
unfolding heading_in
returns c = heads _ _ _ 0 _ refl c.put.ensures
