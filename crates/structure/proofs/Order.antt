-- The checks of a template are those with the names in the forms of the lines, whatever the template: where check 5 is reached,
-- check 3 has accepted.
use Rattle.std.specs.Prelude.{Option, Some, None}
use mathlib.Core.Path.{◌≡◌, refl, ap}
use mathlib.Core.List.{List, []}
use Prim.Native.Nat.{ℕ}
use Rattle.meaning.specs.declared.refusal.Refusal.TheVariants.{BadTemplate, BadLine, BadNesting, RepeatedSection}
use Rattle.template.specs.Lines.{lines_of}
use Rattle.template.specs.Verdicts.{bytes_check}
use Rattle.template.specs.Checks.{form_check, nest_check}
use Rattle.template.specs.Order.{unless_fault, accepted_run, section_checked, names_checked, nesting_checked, forms_checked, template_checked}
use Rattle.structure.specs.Sections.{repeated_from, chosen_run}
use Rattle.structure.specs.Order.{checked_in_order}
use Rattle.structure.proofs.Names.{names_by_form, run_by_form}

-- The checks of every template, for every name that a caller gives.
pub checked_in_order_law : (t caller : List ℕ) → template_checked t caller ≡ checked_in_order t caller
unfolding template_checked forms_checked nesting_checked names_checked section_checked checked_in_order unless_fault
checked_in_order_law t caller = ap (unless_fault BadTemplate (bytes_check t)) (by (form_check t) refl)
  where
    by : (v : Option ℕ) → form_check t ≡ v → unless_fault BadLine v (nesting_checked t caller) ≡ unless_fault BadLine v (unless_fault BadNesting (nest_check t) (unless_fault RepeatedSection (repeated_from 1 [] (lines_of t)) (accepted_run (chosen_run t caller))))
    by None e = rw (names_by_form t e, run_by_form caller t e)
    by (Some n) e = refl
