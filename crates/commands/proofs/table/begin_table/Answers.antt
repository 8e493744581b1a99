-- Refused, skipped, or opened.
use borrow.Author.Rules.{rules}
use lib.IntN.{pos, nat_abs}
use lib.Signed.{lt_z}
use mir.Syntax.{w64}
use mir.Val.{SFits}
use Rattle.numbers.proofs.Machine.{read}
use Rattle.commands.proofs.Tabling.{begin_skips, begin_opens}
use Rattle.commands.proofs.table.begin_table.Goals as goal

pub returns-then-below_one : goal.returns-then-below_one
returns-then-below_one c =
    let f : SFits w64 c.in_ok-z.z = search rules in
    begin_skips _ _ _ _ _ _ c.in_ok-z.was _ (read (λ z. lt_z z (pos 1)) f c.below_one.ensures) c.if-below_one.true

pub returns : goal.returns
returns c =
    let f : SFits w64 c.in_ok-z.z = search rules in
    begin_opens _ _ _ _ _ _ c.in_ok-z.was _ (read (λ z. lt_z z (pos 1)) f c.below_one.ensures) c.if-below_one.false _ (read nat_abs f c.magnitude.ensures) _ c.pushed.ensures
