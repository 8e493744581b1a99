-- A magnitude as decimal digits. 48 is `0`.
use Rattle.std.specs.Prelude.{true, false, List, [], ◌∷◌, ◌++◌, ℕ, zero, suc, ◌+◌, ◌/◌, ◌%◌, ltb}

-- the last k digits of n, the most significant first
unfoldable pub digits : ℕ → ℕ → List ℕ
digits zero n = []
digits (suc k) n = digits k (n / 10) ++ ((48 + n % 10) ∷ [])

-- how many digits n has, one at least, counted in at most `most` steps
unfoldable pub count_within : ℕ → ℕ → ℕ
count_within zero n = 1
count_within (suc most) n = elim (ltb n 10) [ true ↦ 1 | false ↦ suc (count_within most (n / 10)) ]

-- n steps are enough, since n / 10 is below n
unfoldable pub digit_count : ℕ → ℕ
digit_count n = count_within n n
