-- The loop keeps what `Walked` says: the bytes passed are those of cells in form, whose places are written down.
use Rattle.std.proofs.Common.{arith}
use Rattle.cells.proofs.CellForm.{front_none, front_sized}
use Rattle.cells.proofs.Walking.{walk_start, walk_end, walk_no_cell, walk_low_key, walk_more}
use Rattle.cells.proofs.index.walk.Goals as goal

pub loop-at-init : goal.loop-at-init
loop-at-init c = walk_start _ _

pub returns-in_err-size : goal.returns-in_err-size
returns-in_err-size c =
    let l = c.loop-at in
    rw c.from_residual.ensures (walk_no_cell _ _ _ _ _ _ l.invariant c.loop-at-test.true 0 (front_none _ _ c.cell_size.ensures c.in_err-size.was) (omega arith))

pub key_number-key-requires : goal.key_number-key-requires
key_number-key-requires c = let (s, h) = front_sized _ _ _ c.cell_size.ensures c.in_ok-size.was in omega (arith, s.least h, s.inside)

pub returns-then-key-least : goal.returns-then-key-least
returns-then-key-least c =
    let l = c.loop-at in
    walk_low_key _ _ _ _ _ _ l.invariant c.loop-at-test.true _ (front_sized _ _ _ c.cell_size.ensures c.in_ok-size.was).0 _ c.key_number-key.ensures.0 c.if-key-least.true

pub overflow_add-at : goal.overflow_add-at
overflow_add-at c = let (s, h) = front_sized _ _ _ c.cell_size.ensures c.in_ok-size.was in omega (arith, s.inside)

pub loop-at-smaller : goal.loop-at-smaller
loop-at-smaller c = let (s, h) = front_sized _ _ _ c.cell_size.ensures c.in_ok-size.was in omega (arith, s.inside, h)

pub loop-at-preserved : goal.loop-at-preserved
loop-at-preserved c =
    let (s, h) = front_sized _ _ _ c.cell_size.ensures c.in_ok-size.was in
    walk_more _ _ _ _ _ _ c.loop-at.invariant c.loop-at-test.true _ s _ c.key_number-key.ensures.0 h c.if-key-least.false _ c.note.ensures

pub returns : goal.returns
returns c = walk_end _ _ _ _ _ _ c.loop-at.invariant c.loop-at-test.false
