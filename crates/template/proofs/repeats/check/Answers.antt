-- The loop keeps: the lines from its place on, counted on, give what the whole template gives, and the names before stand in the row.
use mathlib.Core.Path.{refl, sym, ◌∙◌}
use borrow.Author.Tests.{eqb-true, eqb-false}
use Prim.Native.Nat.{ℕ, zero-le}
use native.Mathlib.Omega.{arith}
use lib.ListN.{length-replicate}
use Rattle.template.specs.Checks.{name_step, name_end, name_check}
use Rattle.template.proofs.LineLaws.{part_line}
use Rattle.template.proofs.VerdictLaws.{judged_fine, judged_fault}
use Rattle.template.proofs.WalkLaws.{walk_end, walk_here, walk_later}
use Rattle.template.proofs.NameLaws.{name_unnamed, name_repeated, name_fresh}
use Rattle.template.proofs.SectionNames.{section_length}
use Rattle.template.proofs.SortedLaws.{listed_start, stands_before, room_left, lines_on_law, listed_same, listed_more}
use Rattle.template.proofs.repeats.check.Goals as goal

pub loop-at-init : goal.loop-at-init
unfolding name_check
loop-at-init c = (refl, refl, listed_start _ _ (length-replicate {A = ℕ} 4681 0), zero-le, zero-le)

pub loop-at-preserved-then-is_empty : goal.loop-at-preserved-then-is_empty
loop-at-preserved-then-is_empty c =
    let i = c.loop-at.invariant in
    let n = c.loop-at.lines in
    let h = c.loop-at-test.true in
    let e = part_line c.args.template.now _ c.loop-at.at c.line_of-line.ensures in
    let o = c.name_of-name.ensures in
    let z = eqb-true _ _ (sym c.is_empty.ensures ∙ c.if-is_empty.true) in
    (walk_later (name_step _) name_end _ _ _ _ i.0 _ h e _ (name_unnamed _ _ _ _ o z), lines_on_law _ _ _ n i.1 h e, listed_same _ _ _ n i.1 h e _ _ i.2 _ o z, omega arith, omega arith)

pub returns-then-stands_in : goal.returns-then-stands_in
returns-then-stands_in c =
    let i = c.loop-at.invariant in
    let e = part_line c.args.template.now _ c.loop-at.at c.line_of-line.ensures in
    let z = eqb-false _ _ (sym c.is_empty.ensures ∙ c.if-is_empty.false) in
    let q = stands_before _ _ _ _ i.2 _ _ c.position-i.ensures z _ c.stands_in.ensures in
    judged_fault _ _ _ (walk_here (name_step _) name_end _ _ _ _ i.0 _ c.loop-at-test.true e (name_repeated _ _ _ _ _ c.name_of-name.ensures z q c.if-stands_in.true))

pub insert-requires : goal.insert-requires
insert-requires c =
    let i = c.loop-at.invariant in
    let e = part_line c.args.template.now _ c.loop-at.at c.line_of-line.ensures in
    (room_left _ _ _ e _ c.name_of-name.ensures (eqb-false _ _ (sym c.is_empty.ensures ∙ c.if-is_empty.false)) c.requires c.loop-at.places _ i.2.size i.4, omega (arith, c.position-i.ensures.within), omega arith)

pub loop-at-preserved : goal.loop-at-preserved
loop-at-preserved c =
    let i = c.loop-at.invariant in
    let n = c.loop-at.lines in
    let h = c.loop-at-test.true in
    let e = part_line c.args.template.now _ c.loop-at.at c.line_of-line.ensures in
    let o = c.name_of-name.ensures in
    let z = eqb-false _ _ (sym c.is_empty.ensures ∙ c.if-is_empty.false) in
    let p = c.position-i.ensures in
    let q = stands_before _ _ _ _ i.2 _ _ p z _ c.stands_in.ensures in
    let r = room_left _ _ _ e _ o z c.requires c.loop-at.places _ i.2.size i.4 in
    (walk_later (name_step _) name_end _ _ _ _ i.0 _ h e _ (name_fresh _ _ _ _ _ o z q c.if-stands_in.false), lines_on_law _ _ _ n i.1 h e, listed_more _ _ _ n i.1 h e _ _ i.2 _ o z _ p _ c.insert.ensures r, omega arith, omega (arith, i.4, section_length _ _ o z))

pub returns : goal.returns
unfolding name_end
returns c = judged_fine _ _ (walk_end (name_step _) name_end _ _ _ _ c.loop-at.invariant.0 c.loop-at-test.false)
