-- The loop keeps: the first j bytes are in upper case.
use mathlib.Core.Path.{refl}
use Rattle.pages.proofs.Shows.{raise_more, raise_all}
use Rattle.pages.proofs.field.raise.Goals as goal

pub loop-j-init : goal.loop-j-init
loop-j-init c = refl

pub loop-j-preserved : goal.loop-j-preserved
loop-j-preserved c = raise_more _ _ _ _ _ c.loop-j.invariant c.requires _ c.loop-j-test.true c.upper.ensures

pub returns : goal.returns
returns c = raise_all _ _ _ _ _ c.loop-j.invariant c.requires c.loop-j-test.false
