-- Refused, k below 1, ended, or again.
use Rattle.commands.proofs.Tabling.{end_low, end_over, end_again, closed_few, exceeded_not}
use Rattle.numbers.proofs.Machine.{read}
use lib.IntN.{pos, nat_abs}
use lib.Signed.{lt_z, nat_abs-le}
use mathlib.Core.Path.{refl}
use mir.Syntax.{w32, w64}
use mir.Val.{Fits, SFits}
use native.Mathlib.Omega.{arith}
use Prim.Native.Nat.{◌≤◌, ◌+◌}
use borrow.Author.Rules.{rules}
use Rattle.commands.proofs.table.end_table.Goals as goal

pub returns-then-below_one : goal.returns-then-below_one
returns-then-below_one c = let f : SFits w64 c.in_ok-k.k = search rules in end_low _ _ _ _ c.in_ok-k.was _ (read (λ z. lt_z z (pos 1)) f c.below_one.ensures) c.if-below_one.true

pub overflow_add-counter : goal.overflow_add-counter
overflow_add-counter c = let f : SFits w64 c.in_ok-k.k = search rules in let h : nat_abs c.in_ok-k.k ≤ 9223372036854775808 = nat_abs-le c.in_ok-k.k f.sfits in let k : Fits w32 c.innermost-table.result.counter = search rules in omega (arith, h, k, read nat_abs f c.magnitude.ensures)

pub returns-then-exceeds : goal.returns-then-exceeds
returns-then-exceeds c = let f : SFits w64 c.in_ok-k.k = search rules in end_over _ _ _ _ c.in_ok-k.was _ (read (λ z. lt_z z (pos 1)) f c.below_one.ensures) c.if-below_one.false _ c.innermost-table.ensures _ _ (read nat_abs f c.magnitude.ensures) refl _ c.exceeds.ensures c.if-exceeds.true

pub overflow_cast-counter-2 : goal.overflow_cast-counter-2
overflow_cast-counter-2 c = let h : c.innermost-table.result.counter + c.magnitude.result ≤ 2000000000 = exceeded_not _ _ _ c.exceeds.ensures c.if-exceeds.false in omega (arith, h)

pub pushed-requires : goal.pushed-requires
pushed-requires c = closed_few _ _ _ c.requires c.less-rest.ensures

pub returns : goal.returns
returns c = let f : SFits w64 c.in_ok-k.k = search rules in end_again _ _ _ _ c.in_ok-k.was _ (read (λ z. lt_z z (pos 1)) f c.below_one.ensures) c.if-below_one.false _ c.innermost-table.ensures _ _ (read nat_abs f c.magnitude.ensures) refl _ c.exceeds.ensures c.if-exceeds.false _ c.less-rest.ensures _ c.again.ensures _ c.pushed.ensures
