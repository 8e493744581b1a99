-- The lengths of the three pieces add up to the length of the text, which decides between asterisks and spaces.
use mathlib.Core.Path.{◌≡◌, ap, ◌∙◌}
use Prim.Native.Nat.{ℕ, ◌/◌, ◌^◌, ◌≤◌}
use native.Mathlib.Omega.{arith}
use native.Mathlib.Nat.{one-le-pow, div-le_self}
use Rattle.numbers.proofs.Laws.{scale_power}
use Rattle.fields.proofs.DigitLaws.{count_bound}
use Rattle.fields.proofs.FieldLaws.{spaced, sign_short, fraction_short}
use Rattle.fields.proofs.text.put_units.Goals as goal

pub nonzero_div-whole : goal.nonzero_div-whole
nonzero_div-whole c = rw (c.scale.ensures ∙ scale_power _ c.requires.1) (one-le-pow _ _ (omega arith))

pub overflow_add-length : goal.overflow_add-length
overflow_add-length c =
    let few : c.digit_count-count.result ≤ 20 = omega (arith, c.digit_count-count.ensures, count_bound 19 (c.args.u / c.scale.result) (omega (arith, div-le_self c.args.u c.scale.result))) in
    omega (arith, c.sign_length-sign.ensures, sign_short c.args.below c.args.u, few)

pub overflow_add-length-2 : goal.overflow_add-length-2
overflow_add-length-2 c =
    let few : c.digit_count-count.result ≤ 20 = omega (arith, c.digit_count-count.ensures, count_bound 19 (c.args.u / c.scale.result) (omega (arith, div-le_self c.args.u c.scale.result))) in
    omega (arith, c.fraction_length.ensures, fraction_short _ 0 c.requires.1, c.sign_length-sign.ensures, sign_short c.args.below c.args.u, few)

pub returns : goal.returns
returns c =
    let whole : c.args.u / c.scale.result ≡ c.args.u / 10 ^ c.args.d = ap (λ (n : ℕ). c.args.u / n) (c.scale.ensures ∙ scale_power _ c.requires.1) in
    spaced _ _ _ _ _ _ _ c.sign_length-sign.ensures c.digit_count-count.ensures (whole) c.fraction_length.ensures _ _ _ _ _ c.requires.0 c.if-width-length.false c.fill-2.ensures.buffer c.put_text.ensures
