-- Where there is room the bytes are filled in, else nothing is done.
use mathlib.Core.Path.{sym, ◌∙◌}
use lib.ListN.{length-replicate}
use Rattle.buffers.proofs.Laws.{room_fits, stored_told, stored_refused, filled}
use Rattle.buffers.proofs.fill.Goals as goal

pub returns-then-not-has_room : goal.returns-then-not-has_room
returns-then-not-has_room c =
    stored_refused _ _ _ _ (length-replicate _ _) (sym c.has_room.ensures ∙ c.if-not-has_room.true)

pub returns : goal.returns
returns c =
    let room = sym c.has_room.ensures ∙ c.if-not-has_room.false in
    stored_told _ _ _ _ (length-replicate _ _) _ room (filled _ _ _ _ _ (c.fill.ensures.after (λ y e. e)) (room_fits _ _ _ room))
