-- A number that was read lies from 1 to its limit, and ends behind its start.
use Rattle.std.specs.Prelude.{Option, Some, None}
use mathlib.Core.Path.{◌≡◌, refl, ◌∙◌, ap, subst}
use mathlib.Core.Bool.{Bool, true, false, cond}
use mathlib.Core.List.{List, [], ◌∷◌}
use Prim.Native.Nat.{ℕ, ◌+◌, ◌*◌, ◌-◌, ◌≤◌, ◌<◌}
use native.Mathlib.Omega.{arith}
use native.Mathlib.Nat.{add-zero}
use borrow.Author.Tests.{leb-true, eqb-false}
use lib.Dec.{leb, eqb}
use lib.ListN.{length, get_or, take, drop}
use lib.Seq.{get_or-take, get_or-drop}
use Rattle.scan.specs.declared.run.Class.TheVariants.{Digit}
use Rattle.scan.specs.Run.{belongs, span}
use Rattle.scan.specs.Line.{byte_at}
use Rattle.scan.specs.Value.{value_from, value_of}
use Rattle.scan.specs.Readers.Digits.{digits_at, number_at}
use Rattle.scan.proofs.DigitLaws.{digit_bounds}

value_grows : (s : List ℕ) (v : ℕ) → v ≤ value_from v s
unfolding value_from
value_grows [] v = omega arith
value_grows (d ∷ s) v = let h = value_grows s (v * 10 + (d - 48)) in omega (arith, h)

-- a number without a leading zero is at least 1
first_digit : (s : List ℕ) → (length (span Digit s) ≡ 0 → ⊥) → (get_or s 0 0 ≡ 48 → ⊥) → 1 ≤ value_of (span Digit s)
unfolding span value_from
first_digit [] c z = absurd (c refl)
first_digit (b ∷ s) c z = go (belongs Digit b) refl c
  where
    go : (t : Bool) → belongs Digit b ≡ t → (length (cond t (b ∷ span Digit s) []) ≡ 0 → ⊥) → 1 ≤ value_of (cond t (b ∷ span Digit s) [])
    go true e c = let h = value_grows (span Digit s) (0 * 10 + (b - 48)) in omega (arith, h, digit_bounds b e, z)
    go false e c = absurd (c refl)

-- n was read from `at` up to `next`
pub record Counts (limit at n next : ℕ) : Type 0 where
  pub least : 1 ≤ n
  pub most : n ≤ limit
  pub onward : at < next

abbrev pub Within : ℕ → ℕ → Option (ℕ × ℕ) → Type 0
Within limit at (Some (n, next)) = Counts limit at n next
Within limit at None = Unit {0}

pub number_within : (l : List ℕ) (at limit : ℕ) → Within limit at (number_at l at limit)
unfolding number_at digits_at byte_at
number_within l at limit = go (eqb (get_or l at 0) 48) refl (eqb (length (span Digit (take 5 (drop at l)))) 0) refl (leb (value_of (span Digit (take 5 (drop at l)))) limit) refl
  where
    front : get_or (take 5 (drop at l)) 0 0 ≡ get_or l at 0
    front = get_or-take 5 (drop at l) 0 0 (omega arith) ∙ get_or-drop at l 0 0 ∙ ap (λ k. get_or l k 0) (add-zero at)

    go : (a : Bool) → eqb (get_or l at 0) 48 ≡ a → (b : Bool) → eqb (length (span Digit (take 5 (drop at l)))) 0 ≡ b → (c : Bool) → leb (value_of (span Digit (take 5 (drop at l)))) limit ≡ c → Within limit at (cond a None (cond b None (cond c (Some (value_of (span Digit (take 5 (drop at l))), at + length (span Digit (take 5 (drop at l))))) None)))
    go true x b y c z = tt
    go false x true y c z = tt
    go false x false y false z = tt
    go false x false y true z =
        let some : length (span Digit (take 5 (drop at l))) ≡ 0 → ⊥ = eqb-false (length (span Digit (take 5 (drop at l)))) 0 y in
        record {
          least = first_digit (take 5 (drop at l)) some (λ e. eqb-false (get_or l at 0) 48 x (subst (λ k. k ≡ 48) front e));
          most = leb-true (value_of (span Digit (take 5 (drop at l)))) limit z;
          onward = omega (arith, some);
        }
