-- Where there is room the loop keeps: the buffer is the first one with the first i bytes stored. Else nothing is done.
use mathlib.Core.Path.{refl, sym, ◌∙◌}
use lib.ListN.{length-set}
use Rattle.buffers.proofs.Laws.{copied_more, copied_all, room_fits, stored_told, stored_refused}
use Rattle.buffers.proofs.write.Goals as goal

pub returns-then-not-has_room : goal.returns-then-not-has_room
returns-then-not-has_room c = stored_refused _ _ _ _ refl (sym c.has_room.ensures ∙ c.if-not-has_room.true)

pub loop-i-init : goal.loop-i-init
loop-i-init c = (refl, refl)

pub loop-i-preserved : goal.loop-i-preserved
loop-i-preserved c =
    let l = c.loop-i.invariant in
    (copied_more _ _ _ _ _ l.0 _ c.loop-i-test.true, simp length-set l.1)

pub returns : goal.returns
returns c =
    stored_told _ _ _ _ refl _ (sym c.has_room.ensures ∙ c.if-not-has_room.false) (copied_all _ _ _ _ _ c.loop-i.invariant.0 c.loop-i-test.false)
