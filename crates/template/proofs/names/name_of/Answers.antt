use mathlib.Core.Path.{sym, ◌∙◌}
use Rattle.scan.specs.Words.{stands_at}
use Rattle.template.proofs.SectionNames.{named, unnamed}
use Rattle.template.proofs.names.name_of.Goals as goal

pub returns-then-begins_with : goal.returns-then-begins_with
unfolding stands_at
returns-then-begins_with c = c.part.ensures ∙ sym (named _ _ c.begins_with.ensures.value c.if-begins_with.true)

pub returns : goal.returns
unfolding stands_at
returns c = sym (unnamed _ _ c.begins_with.ensures.value c.if-begins_with.false)
