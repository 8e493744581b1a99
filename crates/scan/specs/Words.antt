-- Fixed byte strings in a line.
use Rattle.std.specs.Prelude.{Bool, true, false, cond, List, [], ◌∷◌, ℕ, ◌+◌, eqb, length, drop}
use Prim.Native.String.{String}
use Rattle.scan.specs.Ascii.{ascii}

-- whether s begins with the word w
unfoldable pub begins : List ℕ → List ℕ → Bool
begins [] s = true
begins (a ∷ w) [] = false
begins (a ∷ w) (b ∷ s) = cond (eqb a b) (begins w s) false

-- whether the word w stands in a line at a place
unfoldable pub stands_at : List ℕ → List ℕ → ℕ → Bool
stands_at w l at = begins w (drop at l)

-- a word, and what it begins, by the line and the place behind the word
pub record Spelled (A : Type 0) : Type 0 where
  pub word : List ℕ
  pub form : List ℕ → ℕ → A

infix 70 ◌takes◌
abbrev pub ◌takes◌ : {A : Type 0} → String → (List ℕ → ℕ → A) → Spelled A
w takes f = record { word = ascii w; form = f }

-- what the first of some words begins that a line has at a place
unfoldable pub first_of : {A : Type 0} → A → List (Spelled A) → List ℕ → ℕ → A
first_of none [] l at = none
first_of none (e ∷ es) l at = cond (stands_at e.word l at) (e.form l (at + length e.word)) (first_of none es l at)
