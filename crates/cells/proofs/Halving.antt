-- Halving: the cells before `low` have lower keys, those from `low + size` on have not.
use Rattle.std.proofs.Common.{◌≡◌, ℕ, ◌+◌, ◌-◌, ◌*◌, ◌/◌, ◌%◌, ◌<◌, ◌≤◌, Bool, true, false, ltb, List, length, get_or, sym, refl, ap, ◌∙◌, subst, ⊎_elim, eq-or-lt_of_le, mul-zero, mul-one, arith, ltb-false, ltb-true, le-ltb, lt-ltb}
use Rattle.cells.specs.Cell.{key_as_number, key_at}
use Rattle.cells.specs.Inner.Index.{key_in, Sorted, Position, LowerAt, below_of, bound_of}

pub record Halved (b starts : List ℕ) (count k low size : ℕ) : Type 0 where
  pub few : low + size ≤ count
  pub lower : Sorted b starts count → (i : ℕ) → i < low → key_in b starts i < k
  pub higher : Sorted b starts count → (i : ℕ) → low + size ≤ i → i < count → k ≤ key_in b starts i

-- ---- comparing without a branch

pub is_below : (a b : ℕ) → a < b → below_of a b ≡ 1
unfolding below_of
is_below a b h = rw (lt-ltb a b h)

pub not_below : (a b : ℕ) → b ≤ a → below_of a b ≡ 0
unfolding below_of
not_below a b h = rw (le-ltb a b h)

below_cases : (X : Type 0) (a b : ℕ) → (a < b → X) → (b ≤ a → X) → X
below_cases X a b lower upper = go (ltb a b) refl
  where
    go : (t : Bool) → ltb a b ≡ t → X
    go true q = lower (ltb-true a b q)
    go false q = upper (ltb-false a b q)

-- what is left of a difference that wraps at 2^64: its highest bit
pub wrapped_below : (a b r : ℕ) → (r + b) % 18446744073709551616 ≡ a → r < 18446744073709551616 → a < 9223372036854775808 → b < 9223372036854775808 → r / 9223372036854775808 ≡ below_of a b
wrapped_below a b r e l h g =
    below_cases (r / 9223372036854775808 ≡ below_of a b) a b
    (λ (u : a < b). let q : r / 9223372036854775808 ≡ 1 = omega arith in q ∙ sym (is_below a b u))
    (λ (u : b ≤ a). let q : r / 9223372036854775808 ≡ 0 = omega arith in q ∙ sym (not_below a b u))

-- a key within its limits with a byte behind it, compared with the bound of another key
pub bound_small : (k : ℕ) → bound_of k < 9223372036854775808
unfolding bound_of
bound_small k =
    below_cases (bound_of k < 9223372036854775808) k 18014398509481984 (λ u. rw (lt-ltb k 18014398509481984 u) (omega arith)) (λ u. rw (le-ltb k 18014398509481984 u) (omega arith))

pub bound_below : (x k : ℕ) → x / 256 < 18014398509481984 → below_of x (bound_of k) ≡ below_of (x / 256) k
unfolding bound_of
bound_below x k h =
    below_cases (below_of x (bound_of k) ≡ below_of (x / 256) k) k 18014398509481984
    (λ (u : k < 18014398509481984). rw (lt-ltb k 18014398509481984 u) (below_cases (below_of x (k * 256) ≡ below_of (x / 256) k) x (k * 256)
    (λ (v : x < k * 256). is_below x (k * 256) v ∙ sym (is_below (x / 256) k (omega arith)))
    (λ (v : k * 256 ≤ x). not_below x (k * 256) v ∙ sym (not_below (x / 256) k (omega arith)))))
    (λ (u : 18014398509481984 ≤ k). rw (le-ltb k 18014398509481984 u) (is_below x 4611686018427387904 (omega arith) ∙ sym (is_below (x / 256) k (omega arith))))

-- x is what was read at the place of the i-th cell, and r how it compares with the bound
pub lower_at : (b starts : List ℕ) (bound i at x r : ℕ) → at ≡ get_or starts i 0 → (at + 9 ≤ length b → x / 256 ≡ key_as_number (key_at b (at + 1))) → r ≤ 1 → (x < 9223372036854775808 → bound < 9223372036854775808 → r ≡ below_of x bound) → LowerAt b starts bound i r
lower_at b starts bound i at x r p f t g =
    record {
      most = t;
      compares = λ count k s c e.
          let q : x / 256 ≡ key_in b starts i = f (omega (arith, s.inside i c)) ∙ ap (λ (y : ℕ). key_as_number (key_at b (y + 1))) p in
          let u : x / 256 < 18014398509481984 = omega (arith, s.small i c) in
          g (omega arith) (omega (arith, bound_small k)) ∙ ap (below_of x) e ∙ bound_below x k u ∙ ap (λ (y : ℕ). below_of y k) q;
    }

one_cases : (P : ℕ → Type 0) (r : ℕ) → r ≤ 1 → (r ≡ 1 → P 1) → (r ≡ 0 → P 0) → P r
one_cases P r l one none =
    ⊎_elim (λ (e : r ≡ 1). subst P (sym e) (one e)) (λ (u : r < 1). let z : r ≡ 0 = omega arith in subst P (sym z) (none z)) (eq-or-lt_of_le l)

pub half_most : (h r : ℕ) → r ≤ 1 → h * r ≤ h
half_most h r l = one_cases (λ (x : ℕ). h * x ≤ h) r l (λ e. omega (arith, mul-one h)) (λ e. omega (arith, mul-zero h))

-- ---- a step

module _ (b starts : List ℕ) (count k : ℕ) where
  pub halved_start : Halved b starts count k 0 count
  halved_start =
      record {
        few = omega arith;
        lower = λ s i h. absurd (omega arith);
        higher = λ s i h h'. absurd (omega arith);
      }

  -- the keys up to m are at most that of m, and those from m on at least
  at_most : Sorted b starts count → (i m : ℕ) → i ≤ m → m < count → key_in b starts i ≤ key_in b starts m
  at_most s i m h l =
      ⊎_elim
      (λ (e : i ≡ m). omega (arith, ap (key_in b starts) e))
      (λ (u : i < m). omega (arith, s.rises i m u l))
      (eq-or-lt_of_le h)

  -- r is how the key of m compares
  module _ (bound m r : ℕ) (eb : bound ≡ bound_of k) (c : m < count) (h : LowerAt b starts bound m r) where
    lower_to : r ≡ 1 → Sorted b starts count → (i : ℕ) → i ≤ m → key_in b starts i < k
    lower_to e s i l =
        let here : key_in b starts m < k = below_cases (key_in b starts m < k) (key_in b starts m) k (λ u. u) (λ u. absurd (omega (arith, h.compares count k s c eb, not_below (key_in b starts m) k u))) in
        omega (arith, here, at_most s i m l c)

    higher_from : r ≡ 0 → Sorted b starts count → (i : ℕ) → m ≤ i → i < count → k ≤ key_in b starts i
    higher_from e s i l z =
        let here : k ≤ key_in b starts m = below_cases (k ≤ key_in b starts m) (key_in b starts m) k (λ u. absurd (omega (arith, h.compares count k s c eb, is_below (key_in b starts m) k u))) (λ u. u) in
        omega (arith, here, at_most s m i l z)

    pub halved_step : (low size : ℕ) → Halved b starts count k low size → (half : ℕ) → m + 1 ≡ low + half → half ≤ size → half + half ≤ size + 1 → Halved b starts count k (low + half * r) (size - half)
    halved_step low size w half e q v =
        one_cases (λ (y : ℕ). Halved b starts count k (low + half * y) (size - half)) r h.most
        (λ o. rw (mul-one half) (record {
          few = omega (arith, w.few);
          lower = λ s i u. lower_to o s i (omega arith);
          higher = λ s i u z. w.higher s i (omega arith) z;
        }))
        (λ o. rw (mul-zero half) (record {
          few = omega (arith, w.few);
          lower = λ s i u. w.lower s i (omega arith);
          higher = λ s i u z. higher_from o s i (omega arith) z;
        }))

    -- ---- a hint: the position is m or the one behind it, if either

    pub near_start : m + r < 1 → Position b starts count k 0
    near_start l =
        record {
          first = λ s. record { few = omega arith; lower = λ i u. absurd (omega arith); higher = λ i u z. higher_from (omega arith) s i (omega arith) z };
        }

    pub near_end : count ≤ m + r + r - 1 → Position b starts count k (m + r)
    near_end l =
        record {
          first = λ s. record { few = omega (arith, h.most); lower = λ i u. lower_to (omega (arith, h.most)) s i (omega (arith, h.most)); higher = λ i u z. absurd (omega (arith, h.most)) };
        }

  pub halved_all : (low size : ℕ) → Halved b starts count k low size → size ≤ 0 → Position b starts count k low
  halved_all low size w e =
      record {
        first = λ s. record { few = omega (arith, w.few); lower = w.lower s; higher = λ i u v. w.higher s i (omega arith) v };
      }

  -- an index that has not the places of all cells
  pub no_room : length starts < count → Position b starts count k 0
  no_room h = record { first = λ s. absurd (omega (arith, s.room)) }

  -- the key on the other side compares the other way
  pub near_between : (bound m r n t : ℕ) → bound ≡ bound_of k → m < count → LowerAt b starts bound m r → n < count → LowerAt b starts bound n t → 1 ≤ m + r → n ≡ m + r + r - 1 → t + r ≡ 1 → Position b starts count k (m + r)
  near_between bound m r n t e c h d g l o q =
      ⊎_elim
      (λ (y : r ≡ 1). record {
        first = λ s. record { few = omega arith; lower = λ i u. lower_to bound m r e c h y s i (omega arith); higher = λ i u z. higher_from bound n t e d g (omega arith) s i (omega arith) z };
      })
      (λ (y : r < 1). record {
        first = λ s. record { few = omega arith; lower = λ i u. lower_to bound n t e d g (omega arith) s i (omega arith); higher = λ i u z. higher_from bound m r e c h (omega arith) s i (omega arith) z };
      })
      (eq-or-lt_of_le h.most)
