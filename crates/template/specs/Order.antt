-- "Checks 2–5 each cover the whole template, then the next."
use Rattle.std.specs.Prelude.{List, ℕ, Option, Some, None, Result, Ok, Err}
use Rattle.meaning.specs.declared.refusal.Refusal.{Refusal}
use Rattle.meaning.specs.declared.refusal.Refusal.TheVariants.{BadTemplate, BadLine, BadNesting, RepeatedSection, NoSection}
use Rattle.template.specs.declared.Extent.{Extent}
use Rattle.template.specs.Verdicts.{bytes_check}
use Rattle.template.specs.Checks.{form_check, nest_check, name_check}
use Rattle.template.specs.Sections.{selected}

-- a check's fault, or else what follows it
unfoldable pub unless_fault : Refusal → Option ℕ → Result Extent (Refusal × ℕ) → Result Extent (Refusal × ℕ)
unless_fault e None next = next
unless_fault e (Some line) next = Err (e, line)

-- "6 .. line 0"
unfoldable pub accepted_run : Option Extent → Result Extent (Refusal × ℕ)
accepted_run (Some run) = Ok run
accepted_run None = Err (NoSection, 0)

unfoldable pub section_checked : List ℕ → List ℕ → Result Extent (Refusal × ℕ)
section_checked t name = accepted_run (selected t name)

unfoldable pub names_checked : List ℕ → List ℕ → Result Extent (Refusal × ℕ)
names_checked t name = unless_fault RepeatedSection (name_check t) (section_checked t name)

unfoldable pub nesting_checked : List ℕ → List ℕ → Result Extent (Refusal × ℕ)
nesting_checked t name = unless_fault BadNesting (nest_check t) (names_checked t name)

unfoldable pub forms_checked : List ℕ → List ℕ → Result Extent (Refusal × ℕ)
forms_checked t name = unless_fault BadLine (form_check t) (nesting_checked t name)

unfoldable pub template_checked : List ℕ → List ℕ → Result Extent (Refusal × ℕ)
template_checked t name = unless_fault BadTemplate (bytes_check t) (forms_checked t name)
