use mathlib.Core.Path.{◌≡◌}
use Rattle.std.proofs.Common.{Some, None, arith}
use Rattle.std.proofs.lemmas.Result.{err_from_is_err_and}
use Rattle.meaning.specs.declared.refusal.Refusal.TheVariants.{NoSection}
use Rattle.template.proofs.OrderLaws.{no_section, a_section}
use Rattle.template.proofs.SectionLaws.{within_at}
use Rattle.template.proofs.sections.select.Goals as goal

pub returns-in_err-start : goal.returns-in_err-start
returns-in_err-start c =
    let p = err_from_is_err_and c.from_residual.result c.from_residual.ensures.1 in
    let e : c.section_from.result ≡ None = grind arith in
    let k : c.in_err-start.field-0.0 ≡ (NoSection, 0) = grind arith in
    rw (p.1, p.2, k) (no_section _ _ _ c.section_from.ensures.0 e)

pub section_end-until-requires : goal.section_end-until-requires
section_end-until-requires c =
    let e : c.section_from.result ≡ Some (c.in_ok-start.start, c.in_ok-start.line) = grind arith in
    let (a, b) = within_at _ _ _ _ c.section_from.ensures.1 e in
    (c.requires, a, b)

pub returns : goal.returns
returns c =
    let e : c.section_from.result ≡ Some (c.in_ok-start.start, c.in_ok-start.line) = grind arith in
    a_section _ _ _ c.section_from.ensures.0 _ _ _ e c.section_end-until.ensures
