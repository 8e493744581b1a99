-- The loop keeps: what is still to be written to the buffer gives what it gets in all.
use Rattle.fields.proofs.DigitLaws.{digit_put, digits_put}
use Rattle.fields.proofs.digits.put_digits.Goals as goal

pub loop-written-preserved : goal.loop-written-preserved
loop-written-preserved c =
    let a = c.args in
    let l = c.loop-written in
    digit_put _ _ a.at a.count a.n l.written l.m l.invariant c.loop-written-test.true

pub returns : goal.returns
returns c =
    let a = c.args in
    let l = c.loop-written in
    digits_put _ _ a.at a.count a.n l.written l.m l.invariant c.loop-written-test.false
