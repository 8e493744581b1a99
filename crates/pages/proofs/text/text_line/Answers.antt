use Rattle.std.proofs.Common.{◌≡◌, Err, rules}
use Rattle.pages.proofs.Telling.{front_length, tells_over, tells_wrong, tells_line, tells_full}
use Rattle.pages.proofs.text.text_line.Goals as goal

pub returns-in_err-made : goal.returns-in_err-made
returns-in_err-made c =
    let e : c.from_residual.result ≡ Err c.in_err-made.field-0.0 = search rules in
    rw e (tells_over _ _ c.requires.room c.in_err-made.ensures)

pub returns-then-made : goal.returns-then-made
returns-then-made c = tells_wrong c.in_ok-made.ensures _ _ c.requires.room _ c.refused.ensures c.if-made.true

pub slice_bounds-write-end : goal.slice_bounds-write-end
slice_bounds-write-end c = front_length c.in_ok-made.ensures

pub returns-then-not-write : goal.returns-then-not-write
returns-then-not-write c = tells_full c.in_ok-made.ensures _ _ c.requires.room c.if-made.false _ _ c.write.ensures _ c.cut.ensures c.if-not-write.true

pub returns : goal.returns
returns c = tells_line c.in_ok-made.ensures _ _ c.requires.room c.if-made.false _ _ c.write.ensures c.if-not-write.false
