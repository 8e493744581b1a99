-- What the call for C hands back of the checks of a template.
use Rattle.meaning.specs.declared.refusal.Refusal.{Refusal}
use Rattle.template.specs.declared.Extent.{Extent}
use Rattle.std.specs.Prelude.{◌≡◌, ℕ, Result, Ok, Err}
use Rattle.meaning.specs.Number.{refusal_number}

-- "0 is success", with line 0
abbrev pub check_number : Result Extent (Refusal × ℕ) → ℕ
check_number (Ok run) = 0
check_number (Err (e, l)) = refusal_number e

abbrev pub check_line : Result Extent (Refusal × ℕ) → ℕ
check_line (Ok run) = 0
check_line (Err (e, l)) = l

-- "A run goes from the selected (or first) $SEC line": its number, 0 where there is no run
abbrev pub check_start : Result Extent (Refusal × ℕ) → ℕ
check_start (Ok run) = run.line
check_start (Err (e, l)) = 0

pub record ToldCheck (x : Result Extent (Refusal × ℕ)) (l s r : ℕ) : Type 0 where
  pub number : r ≡ check_number x
  pub line : l ≡ check_line x
  pub start : s ≡ check_start x
