-- The n-th of a list, and of a part of a row, is set.
use mathlib.Core.Path.{◌≡◌, refl, sym, ap, ◌∙◌}
use mathlib.Core.List.{List}
use Prim.Native.Nat.{ℕ, zero, suc, ◌+◌, ◌-◌, ◌≤◌, ◌<◌}
use native.Mathlib.Omega.{arith}
use lib.ListN.{length, take, drop, set, length-take}
use lib.Seq.{set_out, drop-set-add, take-set-le, take-set-lt, drop-set-lt}
use Rattle.values.specs.Machine.{set_numbered}
use Rattle.values.specs.Inner.State.{bank}
use Rattle.values.specs.Inner.Registers.{Puts}

-- ---- the n-th of a list

module _ {A : Type 0} (l : List A) (x : A) where
  pub put_none : (n : ℕ) → n < 1 → l ≡ set_numbered l n x
  unfolding set_numbered
  put_none zero h = refl
  put_none (suc n) h = absurd (omega arith)

  pub put_in : (n : ℕ) (y : A) → 1 ≤ n → y ≡ x → set l (n - 1) y ≡ set_numbered l n x
  unfolding set_numbered
  put_in zero y h e = absurd (omega arith)
  put_in (suc n) y h e = let k : suc n - 1 ≡ n = omega arith in rw (k, e)

  pub put_past : (n : ℕ) → 1 ≤ n → length l ≤ n - 1 → l ≡ set_numbered l n x
  unfolding set_numbered
  put_past zero h k = absurd (omega arith)
  put_past (suc n) h k = sym (set_out l n x (omega arith))

-- ---- the n-th of a part

module _ {A : Type 0} (l : List A) (from size n : ℕ) (x : A) where
  pub puts_none : n < 1 → Puts l from size n x l
  puts_none h = record { own = put_none (bank from size l) x n h; below = λ i k e. refl; above = λ i k e. refl }

  pub puts_past : size < n → Puts l from size n x l
  unfolding bank
  puts_past h = record {
    own = put_past (take size (drop from l)) x n (omega arith) (omega (arith, length-take size (drop from l)));
    below = λ i k e. refl;
    above = λ i k e. refl;
  }

  before : (i k j : ℕ) (y : A) → i + k ≤ j → take k (drop i (set l j y)) ≡ take k (drop i l)
  before i k j y h =
      let e : j ≡ i + (j - i) = omega arith in
      ap (λ (q : ℕ). take k (drop i (set l q y))) e ∙ ap (take k) (drop-set-add i l (j - i) y) ∙ take-set-le k (drop i l) (j - i) y (omega arith)

  pub puts_in : (y : A) → 1 ≤ n → n ≤ size → y ≡ x → Puts l from size n x (set l (from + (n - 1)) y)
  unfolding bank
  puts_in y h k e = record {
    own = ap (take size) (drop-set-add from l (n - 1) y) ∙ take-set-lt size (drop from l) (n - 1) y (omega arith) ∙ put_in (take size (drop from l)) x n y h e;
    below = λ i j g. before i j (from + (n - 1)) y (omega arith);
    above = λ i j g. ap (take j) (drop-set-lt i l (from + (n - 1)) y (omega arith));
  }
