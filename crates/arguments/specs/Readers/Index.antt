-- Indexes.
use Rattle.std.specs.Prelude.{cond, List, ℕ, ◌+◌, eqb, Option, Some, None}
use Rattle.arguments.specs.declared.index.Index.{Index}
use Rattle.scan.specs.Ascii.{ascii}
use Rattle.scan.specs.Readers.Digits.{digits_at, number_at}
use Rattle.scan.specs.Words.{stands_at}
use Rattle.arguments.specs.declared.index.Index.TheVariants.{Fixed, Variable, Loop}

abbrev pub loop_word : List ℕ
loop_word = ascii "LOOP"

abbrev pub variable_word : List ℕ
variable_word = ascii "IV"

-- "IVn .. (n 1–99)"
unfoldable pub variable_index : Option (ℕ × ℕ) → Option (Index × ℕ)
variable_index (Some (n, next)) = Some (Variable n, next)
variable_index None = None

-- "An index .. is 1–3 digits, IVn or LOOP"
unfoldable pub index_at : List ℕ → ℕ → Option (Index × ℕ)
index_at l at =
    cond (eqb (digits_at l at 3).count 0)
    (cond (stands_at loop_word l at) (Some (Loop, at + 4))
    (cond (stands_at variable_word l at) (variable_index (number_at l (at + 2) 99))
    None))
    (Some (Fixed (digits_at l at 3).value, at + (digits_at l at 3).count))
