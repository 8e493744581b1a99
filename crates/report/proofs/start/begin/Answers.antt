use Rattle.report.proofs.Beginning.{bad_store, template_refused, may_start}
use borrow.Author.Rules.{rules}
use Rattle.report.proofs.start.begin.Goals as goal

pub returns-in_default : goal.returns-in_default
returns-in_default c = bad_store _ _ _ _ _ _ _ _ c.build.ensures _ c.in_default.is c.refused.ensures

pub returns-in-Err : goal.returns-in-Err
returns-in-Err c = template_refused _ _ _ _ _ _ _ _ c.build.ensures _ _ c.in-Some.is (search rules) _ c.check-checked.ensures _ _ c.in-Err.is c.refused-in-Err.ensures

pub returns-in-Ok : goal.returns-in-Ok
returns-in-Ok c = may_start _ _ _ _ _ _ _ _ c.build.ensures _ _ c.in-Some.is (search rules) _ c.check-checked.ensures _ c.in-Ok.is c.started.ensures
