-- Each of the three writes has room, so that together they make the buffer of the definition.
use Rattle.store.proofs.Replacing.{replaced_is}
use Rattle.store.proofs.replace.replace.Goals as goal

pub returns : goal.returns
returns c =
    replaced_is _ _ _ _ _ c.requires.0 c.requires.1 c.requires.2 _ _ _ _ _ _ c.shift.ensures c.write.ensures _ c.saturating_sub.ensures c.fill.ensures
