-- The cells below a key and those above it are picked by a test; what such a choice keeps.
use Rattle.std.specs.Prelude.{Some, None}
use mathlib.Core.Path.{◌≡◌, refl, sym, ap, ◌∙◌}
use mathlib.Core.Bool.{Bool, true, false, cond}
use mathlib.Core.List.{List, [], ◌∷◌, ◌++◌}
use Prim.Native.Nat.{ℕ}
use borrow.Author.Tests.{eq-eqb, ne_eqb}
use lib.Dec.{ltb, eqb}
use Rattle.meaning.specs.Each.{Each}
use Rattle.cells.specs.Cell.{Cell, key_number}
use Rattle.cells.specs.Asking.{lookup}
use Rattle.cells.proofs.Runs.{none_some}
use Rattle.store.specs.Edit.{lower, higher}

unfoldable pub filter : (Cell → Bool) → List Cell → List Cell
filter p [] = []
filter p (c ∷ cs) = cond (p c) (c ∷ filter p cs) (filter p cs)

abbrev pub is_below : ℕ → Cell → Bool
is_below n c = ltb (key_number c) n

abbrev pub is_above : ℕ → Cell → Bool
is_above n c = ltb n (key_number c)

pub lower_filter : (n : ℕ) (cs : List Cell) → lower n cs ≡ filter (is_below n) cs
unfolding lower filter
lower_filter n [] = refl
lower_filter n (c ∷ cs) = ap (λ (r : List Cell). cond (is_below n c) (c ∷ r) r) (lower_filter n cs)

pub higher_filter : (n : ℕ) (cs : List Cell) → higher n cs ≡ filter (is_above n) cs
unfolding higher filter
higher_filter n [] = refl
higher_filter n (c ∷ cs) = ap (λ (r : List Cell). cond (is_above n c) (c ∷ r) r) (higher_filter n cs)

module _ (p : Cell → Bool) where
  -- by induction: from what holds of the rest, what holds with a cell that passed the test, and with one that did not
  pub filter_elim : (P : List Cell → List Cell → Type 0) → P [] []
      → ((c : Cell) (cs : List Cell) → p c ≡ true → P cs (filter p cs) → P (c ∷ cs) (c ∷ filter p cs))
      → ((c : Cell) (cs : List Cell) → p c ≡ false → P cs (filter p cs) → P (c ∷ cs) (filter p cs))
      → (cs : List Cell) → P cs (filter p cs)
  unfolding filter
  filter_elim P z f g [] = z
  filter_elim P z f g (c ∷ cs) = go (p c) refl (filter_elim P z f g cs)
    where
      go : (t : Bool) → p c ≡ t → P cs (filter p cs) → P (c ∷ cs) (cond t (c ∷ filter p cs) (filter p cs))
      go true e r = f c cs e r
      go false e r = g c cs e r

  module _ (P : Cell → Type 0) where
    pub each_filter : (cs : List Cell) → Each P cs → Each P (filter p cs)
    each_filter = filter_elim (λ cs ds. Each P cs → Each P ds) (λ h. h) (λ c cs e r h. (h.0, r h.1)) (λ c cs e r h. r h.1)

    pub each_passed : ((c : Cell) → p c ≡ true → P c) → (cs : List Cell) → Each P (filter p cs)
    each_passed f = filter_elim (λ cs ds. Each P ds) tt (λ c cs e r. (f c e, r)) (λ c cs e r. r)

-- ---- the cell of a key

pub lookup_first : (k : ℕ) (c : Cell) (cs : List Cell) → key_number c ≡ k → lookup k (c ∷ cs) ≡ Some c
unfolding lookup
lookup_first k c cs e = rw (eq-eqb _ _ e)

pub lookup_next : (k : ℕ) (c : Cell) (cs : List Cell) → (key_number c ≡ k → ⊥) → lookup k (c ∷ cs) ≡ lookup k cs
unfolding lookup
lookup_next k c cs e = rw (ne_eqb _ _ e)

lookup_cons : (k : ℕ) (c : Cell) (xs ys : List Cell) → lookup k xs ≡ lookup k ys → lookup k (c ∷ xs) ≡ lookup k (c ∷ ys)
unfolding lookup
lookup_cons k c xs ys e = ap (cond (eqb (key_number c) k) (Some c)) e

module _ (k : ℕ) (p : Cell → Bool) where
  -- no cell that passes has the key
  pub lookup_none : ((c : Cell) → p c ≡ true → key_number c ≡ k → ⊥) → (cs : List Cell) → lookup k (filter p cs) ≡ None
  unfolding lookup
  lookup_none f = filter_elim p (λ cs ds. lookup k ds ≡ None) refl (λ c cs e r. lookup_next k c (filter p cs) (f c e) ∙ r) (λ c cs e r. r)

  -- no cell that fails has the key
  pub lookup_all : ((c : Cell) → p c ≡ false → key_number c ≡ k → ⊥) → (cs : List Cell) → lookup k (filter p cs) ≡ lookup k cs
  lookup_all f =
      filter_elim p (λ cs ds. lookup k ds ≡ lookup k cs) refl (λ c cs e r. lookup_cons k c (filter p cs) cs r) (λ c cs e r. r ∙ sym (lookup_next k c cs (f c e)))

-- the key is in the first list, or not there
module _ (k : ℕ) (ys : List Cell) where
  pub lookup_behind : (xs : List Cell) → lookup k xs ≡ None → lookup k (xs ++ ys) ≡ lookup k ys
  unfolding lookup
  lookup_behind [] e = refl
  lookup_behind (x ∷ xs) e = go (eqb (key_number x) k) e (lookup_behind xs)
    where
      go : (t : Bool) → cond t (Some x) (lookup k xs) ≡ None → (lookup k xs ≡ None → lookup k (xs ++ ys) ≡ lookup k ys) → cond t (Some x) (lookup k (xs ++ ys)) ≡ lookup k ys
      go true e r = absurd (none_some (sym e))
      go false e r = r e

  pub lookup_before : (xs : List Cell) → lookup k ys ≡ None → lookup k (xs ++ ys) ≡ lookup k xs
  unfolding lookup
  lookup_before [] e = e
  lookup_before (x ∷ xs) e = lookup_cons k x (xs ++ ys) xs (lookup_before xs e)
