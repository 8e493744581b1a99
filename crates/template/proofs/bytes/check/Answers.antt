-- A template within its length is fault_refused line by line.
use mathlib.Core.Path.{sym, ap, ◌∙◌}
use Rattle.meaning.specs.declared.refusal.Refusal.TheVariants.{BadTemplate}
use Rattle.template.specs.Verdicts.{fault_refused}
use Rattle.template.proofs.VerdictLaws.{judged_fault, too_long, not_too_long}
use Rattle.template.proofs.bytes.check.Goals as goal

pub returns-then-template-gt-LONGEST_TEMPLATE : goal.returns-then-template-gt-LONGEST_TEMPLATE
returns-then-template-gt-LONGEST_TEMPLATE c = judged_fault _ _ _ (sym (too_long _ c.if-template-gt-LONGEST_TEMPLATE.true))

pub returns : goal.returns
returns c = c.lines.ensures ∙ ap (fault_refused BadTemplate) (sym (not_too_long _ c.if-template-gt-LONGEST_TEMPLATE.false))
