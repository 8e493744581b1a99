-- The cell of a key, after a put and after a remove.
use Rattle.std.specs.Prelude.{Some, None}
use mathlib.Core.Path.{◌≡◌, refl, ◌∙◌}
use mathlib.Core.Bool.{Bool, true, false}
use mathlib.Core.List.{List, ◌∷◌, ◌++◌}
use Prim.Native.Nat.{ℕ, ◌≤◌, ◌<◌}
use native.Mathlib.Omega.{arith}
use borrow.Author.Tests.{ltb-true, ltb-false}
use lib.Dec.{ltb}
use Rattle.cells.specs.Cell.{Cell, key_number}
use Rattle.cells.specs.Asking.{lookup}
use Rattle.store.specs.Edit.{lower, higher, with, without}
use Rattle.history.proofs.Filter.{is_below, is_above, lower_filter, higher_filter, lookup_first, lookup_next, lookup_none, lookup_all, lookup_behind, lookup_before}

-- no key from n on is below n, no key up to n is above it
module _ (k n : ℕ) (cs : List Cell) where
  not_lower : n ≤ k → lookup k (lower n cs) ≡ None
  not_lower h = rw (lower_filter n cs) (lookup_none k (is_below n) (λ c e q. omega (arith, ltb-true (key_number c) n e)) cs)

  not_higher : k ≤ n → lookup k (higher n cs) ≡ None
  not_higher h = rw (higher_filter n cs) (lookup_none k (is_above n) (λ c e q. omega (arith, ltb-true n (key_number c) e)) cs)

  in_lower : k < n → lookup k (lower n cs) ≡ lookup k cs
  in_lower h = rw (lower_filter n cs) (lookup_all k (is_below n) (λ c e q. omega (arith, ltb-false (key_number c) n e)) cs)

  in_higher : n < k → lookup k (higher n cs) ≡ lookup k cs
  in_higher h = rw (higher_filter n cs) (lookup_all k (is_above n) (λ c e q. omega (arith, ltb-false n (key_number c) e)) cs)

  -- a key other than n is found where it was, with anything between that is not of that key
  parts : (ys : List Cell) → (n ≡ k → ⊥) → lookup k ys ≡ lookup k (higher n cs) → lookup k (lower n cs ++ ys) ≡ lookup k cs
  parts ys other e = go (ltb k n) refl
    where
      go : (t : Bool) → ltb k n ≡ t → lookup k (lower n cs ++ ys) ≡ lookup k cs
      go true f =
          let h : k < n = ltb-true _ _ f in
          lookup_before k ys (lower n cs) (e ∙ not_higher (omega arith)) ∙ in_lower h
      go false f =
          let h : n ≤ k = ltb-false _ _ f in
          lookup_behind k ys (lower n cs) (not_lower h) ∙ e ∙ in_higher (omega arith)

-- "Put adds or replaces the cell of a key": it is found
pub lookup_with : (c : Cell) (cs : List Cell) → lookup (key_number c) (with c cs) ≡ Some c
unfolding with
lookup_with c cs =
    lookup_behind (key_number c) (c ∷ higher (key_number c) cs) (lower (key_number c) cs) (not_lower (key_number c) (key_number c) cs (omega arith)) ∙ lookup_first (key_number c) c _ refl

-- "Remove takes it out.": it is missing
pub lookup_without : (n : ℕ) (cs : List Cell) → lookup n (without n cs) ≡ None
unfolding without
lookup_without n cs =
    lookup_behind n (higher n cs) (lower n cs) (not_lower n n cs (omega arith)) ∙ not_higher n n cs (omega arith)

-- other keys find what they found
pub lookup_with_other : (k : ℕ) (c : Cell) (cs : List Cell) → (key_number c ≡ k → ⊥) → lookup k (with c cs) ≡ lookup k cs
unfolding with
lookup_with_other k c cs other =
    parts k (key_number c) cs (c ∷ higher (key_number c) cs) other (lookup_next k c (higher (key_number c) cs) other)

pub lookup_without_other : (k n : ℕ) (cs : List Cell) → (n ≡ k → ⊥) → lookup k (without n cs) ≡ lookup k cs
unfolding without
lookup_without_other k n cs other = parts k n cs (higher n cs) other refl
