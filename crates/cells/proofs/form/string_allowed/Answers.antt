-- The bytes behind the length are tested in two stretches.
use Rattle.std.proofs.Common.{◌∙◌}
use Rattle.cells.proofs.Laws.{text_long, text_unprintable, text_all}
use Rattle.cells.proofs.form.string_allowed.Goals as goal

pub returns-then-n-gt16 : goal.returns-then-n-gt16
returns-then-n-gt16 c = text_long _ _ c.from-n.ensures c.if-n-gt16.true

pub returns-else-all_between : goal.returns-else-all_between
returns-else-all_between c =
    c.if-all_between.false ∙ text_unprintable _ _ c.from-n.ensures c.if-n-gt16.false _ c.all_between.ensures c.if-all_between.false

pub returns-then-all_between : goal.returns-then-all_between
returns-then-all_between c =
    text_all _ _ c.from-n.ensures c.if-n-gt16.false _ c.all_between.ensures c.if-all_between.true _ c.all_between-then-all_between.ensures
