-- `all` tests byte after byte.
use Rattle.std.proofs.Common.{◌∙◌, rules, tests}
use Rattle.std.proofs.lemmas.Iterator.{YieldsList-from_slice}
use Rattle.std.proofs.lemmas.Iterator.Search.{all_from_yields_List}
use Rattle.cells.specs.Cell.{between}
use Rattle.cells.proofs.Laws.{each_all}
use Rattle.cells.proofs.form.all_between.Goals as goal

pub returns : goal.returns
unfolding between
returns c =
    all_from_yields_List (between c.args.low c.args.high) _ _ c.all.result c.all.ensures.ran (YieldsList-from_slice c.args.s.now cc) (λ x b q k. search (rules, tests))
    ∙ each_all (between c.args.low c.args.high) c.args.s.now
