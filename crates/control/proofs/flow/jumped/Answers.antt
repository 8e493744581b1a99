-- Behind the end nothing is passed over; else the skip is remembered, or looked for.
use Rattle.control.proofs.Following.{jumped_outside}
use Rattle.control.proofs.Remembering.{remembers_all, known_sums, jumped_known, jump_holdable, found_sums, jumped_found}
use Rattle.control.proofs.flow.jumped.Goals as goal

pub returns-then-template-at : goal.returns-then-template-at
returns-then-template-at c = (jumped_outside _ _ _ c.if-template-at.true, remembers_all c.requires.remembered)

pub skipping-requires : goal.skipping-requires
skipping-requires c = known_sums _ _ _ c.requires c.if-template-at.false _ _ c.skip_in.ensures

pub returns-then-known-mark : goal.returns-then-known-mark
returns-then-known-mark c = jumped_known _ _ _ _ c.requires _ c.jump_mark-mark.ensures c.if-known-mark.true _ c.skip_in.ensures _ c.skipping.ensures

pub jump_word-requires : goal.jump_word-requires
jump_word-requires c = jump_holdable _ _ _ _ c.requires _ c.jump_mark-mark.ensures c.if-template-at.false _ c.skip_lines-skip.ensures

pub skipping-requires-2 : goal.skipping-requires-2
skipping-requires-2 c = found_sums _ _ _ _ c.requires _ c.jump_mark-mark.ensures c.if-template-at.false _ c.skip_lines-skip.ensures

pub returns : goal.returns
returns c = jumped_found _ _ _ _ c.requires _ c.jump_mark-mark.ensures c.if-template-at.false _ c.skip_lines-skip.ensures _ c.jump_word.ensures _ c.skipping-2.ensures
