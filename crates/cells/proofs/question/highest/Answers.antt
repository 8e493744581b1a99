-- The cell before the position is the last whose key is below the end.
use Rattle.std.proofs.Common.{arith}
use Rattle.cells.proofs.Answering.{highest_first, highest_none_in, highest_last}
use Rattle.cells.proofs.question.highest.Goals as goal

pub returns-then-i-lt1 : goal.returns-then-i-lt1
returns-then-i-lt1 c = highest_first _ _ _ _ _ _ _ c.position-i.ensures c.if-i-lt1.true

pub returns-then-key_and_byte-low : goal.returns-then-key_and_byte-low
returns-then-key_and_byte-low c =
    let low = c.args.low in
    highest_none_in _ _ _ low _ _ _ c.position-i.ensures c.if-i-lt1.false _ _ c.place_of-at.ensures c.key_and_byte.ensures (omega (arith, c.if-key_and_byte-low.true))

pub returns : goal.returns
returns c =
    highest_last _ _ _ c.args.low _ _ _ c.position-i.ensures c.if-i-lt1.false _ _ c.place_of-at.ensures c.key_and_byte.ensures (omega (arith, c.if-key_and_byte-low.false)) c.requires.0 _ c.number_at.ensures
