-- Rows of 16 numbers: what a line or a piece is, its number, and two arguments of seven numbers.
use Rattle.std.specs.Prelude.{List, [], ◌∷◌, ◌++◌, ℕ}
use Rattle.form_codes.specs.declared.row.Seven.{Seven}
use Rattle.form_codes.specs.declared.row.CodeRow.{CodeRow}

abbrev pub seven_numbers : Seven → List ℕ
seven_numbers s = s.0 ∷ s.1 ∷ s.2 ∷ s.3 ∷ s.4 ∷ s.5 ∷ s.6 ∷ []

abbrev pub row_numbers : CodeRow → List ℕ
row_numbers r = r.0 ∷ r.1 ∷ (seven_numbers r.2 ++ seven_numbers r.3)

-- what is not there is 0
abbrev pub nothing : Seven
nothing = (0, 0, 0, 0, 0, 0, 0)

abbrev pub bare_row : ℕ → ℕ → CodeRow
bare_row k n = (k, n, nothing, nothing)

abbrev pub row_with : ℕ → ℕ → Seven → CodeRow
row_with k n s = (k, n, s, nothing)
