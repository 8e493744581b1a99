-- The checks in their order, with the names in the forms of the lines: "Checks 2–5 each cover the whole template, then the next."
use Rattle.std.specs.Prelude.{List, [], ℕ, Result}
use Rattle.meaning.specs.declared.refusal.Refusal.{Refusal}
use Rattle.meaning.specs.declared.refusal.Refusal.TheVariants.{BadTemplate, BadLine, BadNesting, RepeatedSection}
use Rattle.template.specs.declared.Extent.{Extent}
use Rattle.template.specs.Lines.{lines_of}
use Rattle.template.specs.Verdicts.{bytes_check}
use Rattle.template.specs.Checks.{form_check, nest_check}
use Rattle.template.specs.Order.{unless_fault, accepted_run}
use Rattle.structure.specs.Sections.{repeated_from, chosen_run}

-- 2 to 5, each with its number where it is at fault, then 6 or the run
unfoldable pub checked_in_order : List ℕ → List ℕ → Result Extent (Refusal × ℕ)
checked_in_order t caller =
    unless_fault BadTemplate (bytes_check t)
    (unless_fault BadLine (form_check t)
    (unless_fault BadNesting (nest_check t)
    (unless_fault RepeatedSection (repeated_from 1 [] (lines_of t))
    (accepted_run (chosen_run t caller)))))
