-- What is open at a line of a template, and a template that checks 2 to 4 let through.
use Rattle.std.specs.Prelude.{◌≡◌, List, [], ℕ, suc, ◌+◌, ◌<◌, length, None, Some}
use Rattle.scan.specs.Line.{line_at}
use Rattle.nesting.specs.Nest.{Mark}
use Rattle.template.specs.Verdicts.{bytes_check}
use Rattle.template.specs.Checks.{form_check, nest_step, nest_check}

-- n lines stand before the line that starts at `at`, and M is open before it
pub data OpenBefore (t : List ℕ) : ℕ → ℕ → List Mark → Type 0 where
  at_first : OpenBefore t 0 0 []
  at_next : {at n : ℕ} {M M' : List Mark} → OpenBefore t at n M → at < length t → nest_step M (line_at t at) ≡ Some M' → OpenBefore t (at + length (line_at t at) + 1) (suc n) M'

-- checks 2 to 4 find nothing at fault
pub record Checks (t : List ℕ) : Type 0 where
  pub bytes : bytes_check t ≡ None
  pub forms : form_check t ≡ None
  pub nesting : nest_check t ≡ None
