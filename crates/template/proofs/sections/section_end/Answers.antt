use mathlib.Core.Path.{sym, ◌∙◌}
use borrow.Author.Tests.{eqb-true, eqb-false}
use Rattle.template.proofs.LineLaws.{part_line}
use Rattle.template.proofs.SectionLaws.{end_of_all, end_at_next, end_of_last}
use Rattle.template.proofs.sections.section_end.Goals as goal

pub returns-then-is_empty : goal.returns-then-is_empty
returns-then-is_empty c = end_of_all _ _ _ _ (eqb-true _ _ (sym c.is_empty.ensures ∙ c.if-is_empty.true))

pub returns-in-None : goal.returns-in-None
returns-in-None c =
    let a = c.args in
    end_of_last _ _ _ _ (eqb-false _ _ (sym c.is_empty.ensures ∙ c.if-is_empty.false)) _ (part_line a.template.now _ a.at c.line_of-first.ensures) _ c.section_from.ensures.0 c.in-None.is

pub returns-in-Some : goal.returns-in-Some
returns-in-Some c =
    let a = c.args in
    end_at_next _ _ _ _ (eqb-false _ _ (sym c.is_empty.ensures ∙ c.if-is_empty.false)) _ (part_line a.template.now _ a.at c.line_of-first.ensures) _ c.section_from.ensures.0 _ _ c.in-Some.is
