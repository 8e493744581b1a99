-- Where both stretches lie in the buffer the one is copied over the other, else nothing is done.
use mathlib.Core.Path.{sym, ◌∙◌}
use Rattle.buffers.proofs.Laws.{room_fits, shifted_told, shifted_from, shifted_to, moved}
use Rattle.buffers.proofs.shift.Goals as goal
use Rattle.buffers.proofs.shift.Goals.{then-not-has_room-via-then-not-has_room, then-not-has_room-via-else-not-has_room+then-not-has_room-2}

pub returns-then-not-has_room : goal.returns-then-not-has_room
returns-then-not-has_room c =
    elim c.then-not-has_room.branch [
      | then-not-has_room-via-then-not-has_room w ↦ shifted_from _ _ _ _ (sym c.has_room.ensures ∙ w.if-not-has_room.true)
      | then-not-has_room-via-else-not-has_room+then-not-has_room-2 w ↦
          shifted_to _ _ _ _ (sym c.has_room.ensures ∙ w.if-not-has_room.false) (sym w.has_room-else-not-has_room.ensures ∙ w.if-not-has_room-2.true)
    ]

pub returns : goal.returns
returns c =
    let from_in = sym c.has_room.ensures ∙ c.if-not-has_room.false in
    let to_in = sym c.has_room-else-not-has_room.ensures ∙ c.if-not-has_room-2.false in
    shifted_told _ _ _ _ _ from_in to_in (c.copy_within.ensures.after ∙ moved _ _ _ _ (room_fits _ _ _ from_in) (room_fits _ _ _ to_in))
