-- The loop keeps: the count so far and the digits of what is left are one more than the digits of the number.
use native.Mathlib.Omega.{arith}
use Rattle.fields.proofs.DigitLaws.{counted_more, counted_all}
use Rattle.fields.proofs.digits.digit_count.Goals as goal

pub loop-m-preserved : goal.loop-m-preserved
loop-m-preserved c =
    let l = c.loop-m in
    (counted_more _ _ _ l.invariant.0 c.loop-m-test.true, omega arith)

pub returns : goal.returns
returns c = counted_all _ _ _ c.loop-m.invariant.0 c.loop-m-test.false
