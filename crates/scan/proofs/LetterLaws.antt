-- The words that may stand by a letter of the line: a word with another letter at its place doesn't stand there.
use Rattle.std.specs.Prelude.{Some, None}
use mathlib.Core.Path.{◌≡◌, refl, sym, ◌∙◌}
use mathlib.Core.Bool.{Bool, true, false, cond, false≢true}
use mathlib.Core.List.{List, [], ◌∷◌}
use Prim.Native.Nat.{ℕ, zero, suc, ◌+◌}
use native.Mathlib.Nat.{add-zero}
use lib.Dec.{eqb}
use lib.ListN.{length, get_or, drop}
use lib.Seq.{get_or-drop}
use Rattle.scan.specs.Line.{byte_at}
use Rattle.scan.specs.Words.{begins, stands_at}
use Rattle.scan.specs.Inner.Tables.{word_at}

-- whether a word may stand where the j-th byte is b
unfoldable pub letter_fits : List ℕ → ℕ → ℕ → Bool
letter_fits [] j b = true
letter_fits (a ∷ w) zero b = eqb a b
letter_fits (a ∷ w) (suc j) b = letter_fits w j b

-- a word that stands has the line's letters
begins_fits : (w s : List ℕ) (j : ℕ) → begins w s ≡ true → letter_fits w j (get_or s j 0) ≡ true
unfolding begins letter_fits
begins_fits [] s j e = refl
begins_fits (a ∷ w) [] j e = absurd (false≢true e)
begins_fits (a ∷ w) (b ∷ s) j e = go (eqb a b) refl j (λ k. begins_fits w s k) e
  where
    go : (t : Bool) → eqb a b ≡ t → (j : ℕ) → ((k : ℕ) → begins w s ≡ true → letter_fits w k (get_or s k 0) ≡ true) → cond t (begins w s) false ≡ true → letter_fits (a ∷ w) j (get_or (b ∷ s) j 0) ≡ true
    go true q zero rest e = q
    go true q (suc j) rest e = rest j e
    go false q j rest e = absurd (false≢true e)

stands_fits : (w l : List ℕ) (at j b : ℕ) → byte_at l (at + j) ≡ b → stands_at w l at ≡ true → letter_fits w j b ≡ true
unfolding stands_at byte_at
stands_fits w l at j b q e = rw (← q, ← get_or-drop at l j 0) (begins_fits w (drop at l) j e)

-- the words that may stand where the j-th byte is b
unfoldable pub fitting : {A : Type 0} → ℕ → ℕ → List (List ℕ × A) → List (List ℕ × A)
fitting j b [] = []
fitting j b (e ∷ es) = cond (letter_fits e.0 j b) (e ∷ fitting j b es) (fitting j b es)

-- Only they can be found.
pub by_letter : {A : Type 0} (j b : ℕ) (es : List (List ℕ × A)) (l : List ℕ) (at : ℕ) → byte_at l (at + j) ≡ b → word_at es l at ≡ word_at (fitting j b es) l at
unfolding word_at fitting
by_letter j b [] l at q = refl
by_letter {A} j b (e ∷ es) l at q = go (letter_fits e.0 j b) refl (stands_at e.0 l at) refl (by_letter j b es l at q)
  where
    go : (f : Bool) → letter_fits e.0 j b ≡ f → (s : Bool) → stands_at e.0 l at ≡ s → word_at es l at ≡ word_at (fitting j b es) l at → cond s (Some (e.1, at + length e.0)) (word_at es l at) ≡ word_at (cond {A = List (List ℕ × A)} f (e ∷ fitting j b es) (fitting j b es)) l at
    go true p true x r = rw x
    go true p false x r = rw x r
    go false p true x r = absurd (false≢true (sym p ∙ stands_fits e.0 l at j b q x))
    go false p false x r = r

-- what is known of the line behind a place: its j-th byte is b
pub record Letter : Type 0 where
  pub place : ℕ
  pub byte : ℕ

infixr 5 ◌and◌
pub data Known (l : List ℕ) (at : ℕ) : List Letter → Type 0 where
  none : Known l at []
  ◌and◌ : {j b : ℕ} {xs : List Letter} → byte_at l (at + j) ≡ b → Known l at xs → Known l at (record { place = j; byte = b } ∷ xs)

-- the words that may stand where the letters are known
unfoldable pub fitting_all : {A : Type 0} → List Letter → List (List ℕ × A) → List (List ℕ × A)
fitting_all [] es = es
fitting_all (x ∷ xs) es = fitting_all xs (fitting x.place x.byte es)

-- Only words with the letters that are known can be found.
pub by_letters : {A : Type 0} (xs : List Letter) (es : List (List ℕ × A)) (l : List ℕ) (at : ℕ) → Known l at xs → word_at es l at ≡ word_at (fitting_all xs es) l at
unfolding fitting_all
by_letters [] es l at none = refl
by_letters (x ∷ xs) es l at (q and k) = by_letter x.place x.byte es l at q ∙ by_letters xs (fitting x.place x.byte es) l at k

-- by the byte that the code read there
pub by_first : {A : Type 0} (b : ℕ) (es : List (List ℕ × A)) (l : List ℕ) (at : ℕ) {r : ℕ} → r ≡ byte_at l at → r ≡ b → word_at (fitting 0 b es) l at ≡ word_at es l at
by_first b es l at e q = let k : byte_at l (at + 0) ≡ b = rw add-zero (sym e ∙ q) in sym (by_letter 0 b es l at k)

-- Where no word may stand, none does.
pub no_first : {A : Type 0} (es : List (List ℕ × A)) (l : List ℕ) (at : ℕ) {r : ℕ} → r ≡ byte_at l at → fitting 0 r es ≡ [] → None ≡ word_at es l at
unfolding word_at
no_first es l at e q = rw (q) at (by_first _ es l at e refl)
