-- A check that goes from line to line with a state.
use Rattle.std.specs.Prelude.{List, [], ◌∷◌, ℕ, suc, Some, Option, None}

unfoldable pub or_else : {S : Type 0} → Option S → (S → Option ℕ) → Option ℕ → Option ℕ
or_else (Some s) next v = next s
or_else None next v = v

-- the verdict on some lines behind n others that left a state: the first line with no step is at fault
unfoldable pub walk : {S : Type 0} → (S → List ℕ → Option S) → (S → ℕ → Option ℕ) → S → ℕ → List (List ℕ) → Option ℕ
walk step finish s n [] = finish s n
walk step finish s n (l ∷ ls) = or_else (step s l) (λ s'. walk step finish s' (suc n) ls) (Some (suc n))
