-- The loop keeps: the rest of the text from here on fits behind what was measured where the whole does.
use mathlib.Core.Path.{refl, sym, ◌∙◌}
use native.Mathlib.Omega.{arith}
use Rattle.texts.specs.Readers.Text.{text_fits}
use Rattle.texts.proofs.PieceLaws.{piece_ends}
use Rattle.texts.proofs.TextLaws.{too_wide, fits_end, fits_refused, fits_more}
use borrow.Author.Rules.{rules}
use Rattle.texts.proofs.text.text_fits.Goals as goal

pub returns-then-from-gt132 : goal.returns-then-from-gt132
unfolding text_fits
returns-then-from-gt132 c = sym (too_wide _ _ c.if-from-gt132.true)

pub loop-at-init : goal.loop-at-init
unfolding text_fits
loop-at-init c = (refl, search rules)

pub returns-in_default : goal.returns-in_default
returns-in_default c =
    let l = c.loop-at in
    sym (fits_refused _ l.at l.width c.loop-at-test.true (sym c.piece_at.ensures ∙ c.in_default.is)) ∙ l.invariant.0

pub returns-then-width-w : goal.returns-then-width-w
returns-then-width-w c =
    let l = c.loop-at in
    let e = sym c.piece_at.ensures ∙ c.in-Some.is in
    sym (fits_more _ l.at l.width _ _ c.loop-at-test.true e ∙ too_wide _ _ (omega (arith, c.width_of-w.ensures, c.if-width-w.true))) ∙ l.invariant.0

pub loop-at-smaller : goal.loop-at-smaller
loop-at-smaller c =
    let l = c.loop-at in
    let e = sym c.piece_at.ensures ∙ c.in-Some.is in
    omega (arith, piece_ends _ l.at _ _ e)

pub loop-at-preserved : goal.loop-at-preserved
loop-at-preserved c =
    let l = c.loop-at in
    let e = sym c.piece_at.ensures ∙ c.in-Some.is in
    (rw c.width_of-w.ensures (sym (fits_more _ l.at l.width _ _ c.loop-at-test.true e) ∙ l.invariant.0), search rules)

pub returns : goal.returns
returns c =
    let l = c.loop-at in
    sym (fits_end _ l.at l.width l.invariant.1 c.loop-at-test.false) ∙ l.invariant.0
