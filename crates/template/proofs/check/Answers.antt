-- The first check that finds a fault is handed on; where none does, the section is selected.
use mathlib.Core.Path.{sym, ◌∙◌}
use Rattle.std.proofs.lemmas.Result.{err_from_is_err_and}
use Rattle.template.specs.Order.{template_checked, forms_checked, nesting_checked, names_checked}
use Rattle.template.proofs.OrderLaws.{no_fault, a_fault, no_faults_met, a_fault_met, within_length}
use Rattle.template.proofs.check.Goals as goal

pub returns-in_err-check : goal.returns-in_err-check
unfolding template_checked
returns-in_err-check c =
    let p = err_from_is_err_and c.from_residual.result c.from_residual.ensures.1 in
    rw (p.1, p.2) (a_fault _ _ _ _ (sym c.check.ensures ∙ c.in_err-check.was))

pub check-requires-2 : goal.check-requires-2
check-requires-2 c = within_length _ (sym c.check.ensures ∙ c.in_ok-check.was)

pub returns-in_err-check-2 : goal.returns-in_err-check-2
unfolding template_checked forms_checked nesting_checked
returns-in_err-check-2 c =
    let p = err_from_is_err_and c.from_residual-in_err-check-2.result c.from_residual-in_err-check-2.ensures.1 in
    no_fault _ _ _ _ (sym c.check.ensures ∙ c.in_ok-check.was)
    (rw (p.1, p.2) (a_fault_met _ _ _ _ (sym c.check-2.ensures ∙ c.in_err-check-2.was)))

pub check-requires-3 : goal.check-requires-3
check-requires-3 c = within_length _ (sym c.check.ensures ∙ c.in_ok-check.was)

pub returns-in_err-check-3 : goal.returns-in_err-check-3
unfolding template_checked forms_checked nesting_checked names_checked
returns-in_err-check-3 c =
    let p = err_from_is_err_and c.from_residual-in_err-check-3.result c.from_residual-in_err-check-3.ensures.1 in
    no_fault _ _ _ _ (sym c.check.ensures ∙ c.in_ok-check.was)
    (no_faults_met _ _ _ _ (sym c.check-2.ensures ∙ c.in_ok-check-2.was)
    (rw (p.1, p.2) (a_fault _ _ _ _ (sym c.check-3.ensures ∙ c.in_err-check-3.was))))

pub select-requires : goal.select-requires
select-requires c = within_length _ (sym c.check.ensures ∙ c.in_ok-check.was)

pub returns : goal.returns
unfolding template_checked forms_checked nesting_checked names_checked
returns c =
    no_fault _ _ _ _ (sym c.check.ensures ∙ c.in_ok-check.was)
    (no_faults_met _ _ _ _ (sym c.check-2.ensures ∙ c.in_ok-check-2.was)
    (no_fault _ _ _ _ (sym c.check-3.ensures ∙ c.in_ok-check-3.was) c.select.ensures))
