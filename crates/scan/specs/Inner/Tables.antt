-- The words among which the code searches, each with what it is for.
use Rattle.std.specs.Prelude.{cond, List, [], ◌∷◌, ℕ, ◌+◌, length, Option, Some, None}
use Rattle.scan.specs.Words.{stands_at}

-- a word with what it is for and the place behind it, or what another search gave
abbrev pub word_else : {A : Type 0} → List ℕ → List ℕ → ℕ → A → Option (A × ℕ) → Option (A × ℕ)
word_else w l at kind other = cond (stands_at w l at) (Some (kind, at + length w)) other

-- the first of some words that a line has at a place
unfoldable pub word_at : {A : Type 0} → List (List ℕ × A) → List ℕ → ℕ → Option (A × ℕ)
word_at [] l at = None
word_at (e ∷ es) l at = word_else e.0 l at e.1 (word_at es l at)

-- what a word that was found begins, by what it is for and the place behind it
abbrev pub word_or : {A B : Type 0} → B → Option (A × ℕ) → (A → ℕ → B) → B
word_or none (Some (k, next)) found = found k next
word_or none None found = none
