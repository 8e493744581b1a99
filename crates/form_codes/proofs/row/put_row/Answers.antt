-- With 16 places the row is copied in, with fewer nothing is done.
use mathlib.Core.Path.{refl, sym}
use native.Mathlib.Omega.{arith}
use Rattle.std.proofs.lemmas.List.Edits.{sets-eq}
use Rattle.buffers.proofs.Laws.{room_true, room_false, stored_told, stored_refused}
use Rattle.form_codes.specs.Row.{row_numbers}
use Rattle.form_codes.proofs.row.put_row.Goals as goal

pub returns-then-numbers-lt16 : goal.returns-then-numbers-lt16
returns-then-numbers-lt16 c = stored_refused _ _ _ 16 refl (room_false _ _ _ c.if-numbers-lt16.true)

pub returns : goal.returns
returns c =
    stored_told _ _ _ 16 refl _ (room_true _ _ _ c.if-numbers-lt16.false)
    (rw c.copy_from_slice.ensures.after (sym (sets-eq (row_numbers c.args.row) c.args.numbers.now 0 (omega arith))))
