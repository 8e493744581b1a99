use Rattle.values.proofs.Fetches.{noted_start, noted_next}
use Rattle.values.proofs.fetch.note.Goals as goal

pub loop-k-init : goal.loop-k-init
loop-k-init c = noted_start _ _ _

pub loop-k-preserved : goal.loop-k-preserved
loop-k-preserved c = noted_next _ _ _ _ _ _ _ c.loop-k.invariant c.note.ensures c.behind.ensures
