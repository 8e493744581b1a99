-- The loop keeps both verdicts: the lines from its place on, counted on, give what the whole template gives in 3 and in 4.
use mathlib.Core.Path.{refl, sym, ap, ◌∙◌}
use Prim.Native.Nat.{zero-le}
use native.Mathlib.Omega.{arith}
use Rattle.std.proofs.lemmas.Result.{err_from_is_err_and}
use Rattle.meaning.specs.declared.refusal.Refusal.TheVariants.{BadLine}
use Rattle.template.specs.Verdicts.{fault_refused}
use Rattle.template.specs.Shape.{is_formed}
use Rattle.template.specs.Checks.{form_check}
use Rattle.template.proofs.LineLaws.{part_line}
use Rattle.template.proofs.VerdictLaws.{judged_none, none_left, fault_here, passed_later}
use Rattle.template.proofs.NestLaws.{nest_start, nest_here, nest_later, nest_closed, nest_open}
use Rattle.template.proofs.FormLaws.{formed_by, form_fault, nesting_fault, no_faults, later_fault}
use Rattle.template.proofs.forms.check.Goals as goal

pub loop-at-init : goal.loop-at-init
unfolding form_check
loop-at-init c = let (x, e) = nest_start c.args.template.now in (x, e, refl, zero-le)

pub returns-then-not-has_form : goal.returns-then-not-has_form
returns-then-not-has_form c =
    let e = part_line c.args.template.now _ c.loop-at.at c.line_of-line.ensures in
    let f = formed_by _ _ _ c.shape_of-shape.ensures c.has_form.ensures in
    form_fault _ _ _ (fault_here is_formed _ _ _ c.loop-at.invariant.2 c.loop-at-test.true (ap is_formed (sym e) ∙ sym f ∙ c.if-not-has_form.true))

pub returns-in_default : goal.returns-in_default
returns-in_default c =
    let i = c.loop-at.invariant in
    let e = part_line c.args.template.now _ c.loop-at.at c.line_of-line.ensures in
    let n = judged_none _ _ (sym c.formed_from.ensures ∙ c.in_ok-formed_from.was) in
    nesting_fault _ _ _ (sym n ∙ i.2) (nest_here _ _ _ _ i.0 i.1 _ _ _ c.loop-at-test.true e c.shape_of-shape.ensures c.after_line.ensures c.in_default.is)

pub returns-in_err-formed_from : goal.returns-in_err-formed_from
returns-in_err-formed_from c =
    let p = err_from_is_err_and c.from_residual.result c.from_residual.ensures.1 in
    let f = ap (fault_refused BadLine) (sym c.loop-at.invariant.2) ∙ sym c.formed_from.ensures ∙ c.in_err-formed_from.was in
    rw (p.1, p.2) (later_fault _ _ _ f)

pub loop-at-preserved : goal.loop-at-preserved
loop-at-preserved c =
    let i = c.loop-at.invariant in
    let e = part_line c.args.template.now _ c.loop-at.at c.line_of-line.ensures in
    let q = c.shape_of-shape.ensures in
    let f = formed_by _ _ _ q c.has_form.ensures in
    let (y, w) = nest_later _ _ _ _ i.0 i.1 _ _ _ c.loop-at-test.true e q c.after_line.ensures _ c.in-Some.is in
    (y, w, passed_later is_formed _ _ _ i.2 _ c.loop-at-test.true e (sym f ∙ c.if-not-has_form.false), omega arith)

pub returns-then-not-all_closed : goal.returns-then-not-all_closed
returns-then-not-all_closed c =
    let i = c.loop-at.invariant in
    let h = c.loop-at-test.false in
    nesting_fault _ _ _ (none_left is_formed _ _ _ i.2 h) (nest_open _ _ _ _ i.0 i.1 h _ c.all_closed.ensures c.if-not-all_closed.true)

pub returns : goal.returns
returns c =
    let i = c.loop-at.invariant in
    let h = c.loop-at-test.false in
    no_faults _ _ (none_left is_formed _ _ _ i.2 h) (nest_closed _ _ _ _ i.0 i.1 h _ c.all_closed.ensures c.if-not-all_closed.false)
