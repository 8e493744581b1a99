-- The loop keeps: the value so far with the digits of the rest is the value of the whole; it is below 10 to the count.
use mathlib.Core.Path.{◌≡◌, sym, ◌∙◌}
use lib.ListN.{length, get_or}
use native.Mathlib.Omega.{arith}
use Rattle.scan.specs.declared.run.Class.TheVariants.{Digit}
use Rattle.scan.proofs.RunLaws.{counted_end, counted_stop, counted_more}
use Rattle.scan.proofs.DigitLaws.{digit_told, digit_bounds, value_end, value_stop, value_more, bound_more, bound_ten}
use Rattle.scan.proofs.digits.digits_of.Goals as goal

pub returns-then-not-is_ascii_digit : goal.returns-then-not-is_ascii_digit
returns-then-not-is_ascii_digit c =
    let l = c.loop-count in
    let e = digit_told _ c.is_ascii_digit.ensures.value c.if-not-is_ascii_digit.true in
    let h = c.loop-count-test.true in
    rw (← counted_stop Digit _ l.count l.invariant.counted h e, ← l.invariant.valued, value_stop _ l.count l.value h e)

pub overflow_mul-value : goal.overflow_mul-value
overflow_mul-value c = let l = c.loop-count in omega (arith, bound_ten l.value l.count l.invariant.below (omega arith))

pub overflow_add-value : goal.overflow_add-value
overflow_add-value c =
    let l = c.loop-count in
    let d = digit_bounds _ (digit_told (get_or c.args.s.now l.count 0) c.is_ascii_digit.ensures.value c.if-not-is_ascii_digit.false) in
    omega (arith, bound_ten l.value l.count l.invariant.below (omega arith), d.1, c.from.ensures)

pub loop-count-preserved : goal.loop-count-preserved
loop-count-preserved c =
    let l = c.loop-count in
    let e = digit_told _ c.is_ascii_digit.ensures.value c.if-not-is_ascii_digit.false in
    let h = c.loop-count-test.true in
    let d = digit_bounds _ e in
    record {
      counted = counted_more Digit _ l.count l.invariant.counted h e;
      valued = rw c.from.ensures (sym (value_more _ l.count l.value h e) ∙ l.invariant.valued);
      below = rw c.from.ensures (bound_more l.value _ l.count l.invariant.below d.0 d.1);
    }

pub returns : goal.returns
returns c =
    let l = c.loop-count in
    let h = c.loop-count-test.false in
    let q : l.count ≡ length c.args.s.now = omega (arith, l.auto.count-end) in
    rw (← counted_end Digit _ l.count l.invariant.counted h, ← l.invariant.valued, value_end _ l.count l.value h, q)
