-- The position tells the cells with lower keys from the others.
use Rattle.store.proofs.Slots.{slot_past, slot_found, slot_free}
use Rattle.store.proofs.locate.Goals as goal

pub returns-then-count-i : goal.returns-then-count-i
returns-then-count-i c = slot_past _ _ _ _ _ _ c.position-i.ensures c.if-count-i.true

pub returns-then-has_key : goal.returns-then-has_key
returns-then-has_key c =
    slot_found _ _ _ _ _ _ c.position-i.ensures c.if-count-i.false _ _ c.place_of-at.ensures c.has_key.ensures c.if-has_key.true _ c.size_at-size.ensures

pub returns : goal.returns
returns c =
    slot_free _ _ _ _ _ _ c.position-i.ensures c.if-count-i.false _ _ c.place_of-at.ensures c.has_key.ensures c.if-has_key.false
