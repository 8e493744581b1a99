-- Tables: one law for each return of the code.
use Rattle.std.specs.Prelude.{Result, Ok, Err}
use mathlib.Core.Path.{◌≡◌, refl, sym, ap, ◌∙◌}
use mathlib.Core.Bool.{Bool, true, false, ◌||◌, false≢true}
use mathlib.Core.List.{List, [], ◌∷◌}
use Prim.Native.Nat.{ℕ, zero, suc, ◌+◌, ◌-◌, ◌*◌, ◌%◌, ◌≤◌, ◌<◌}
use native.Mathlib.Omega.{arith}
use native.Mathlib.Numerals.{add-one}
use borrow.Author.Tests.{le-ltb, lt-ltb, ltb-false}
use lib.Dec.{ltb}
use lib.IntN.{ℤ, pos, negsuc, nat_abs}
use lib.Signed.{lt_z}
use lib.ListN.{length, get_or, set, take, drop, length-take, length-set, get_or-eq_default}
use lib.Seq.{get_or-take, get_or-drop, get_or-set_same, get_or-set_other, drop-set-add, drop-set-lt, take-set-le}
use Rattle.meaning.specs.declared.refusal.Refusal.{Refusal}
use Rattle.meaning.specs.declared.refusal.Refusal.TheVariants.{OutOfRange}
use Rattle.commands.specs.declared.table.Table.{Table}
use Rattle.values.specs.Inner.State.{bank, tables_in}
use Rattle.commands.specs.Looping.{loop, new_table, begun, no_table, innermost, exceeds, counted_to, counting, counted}
use Rattle.commands.specs.Inner.Open.{table_in, opened, open_of, AtMostOpen, Stays, Pushes, BeginsTable, EndsTable}

-- ---- the open tables

-- as many are open as the depth says
pub opened_length : (ws : List ℕ) (d : ℕ) → length (opened ws d) ≡ d
unfolding opened
opened_length ws zero = refl
opened_length ws (suc d) = ap suc (opened_length ws d)

in_tables : (w : List ℕ) (i : ℕ) → i < 20 → get_or w (128 + i) 0 ≡ get_or (tables_in w) i 0
unfolding bank
in_tables w i h = sym (get_or-drop 128 w i 0) ∙ sym (get_or-take 20 (drop 128 w) i 0 h)

past_tables : (w : List ℕ) (i : ℕ) → 20 ≤ i → 0 ≡ get_or (tables_in w) i 0
unfolding bank
past_tables w i h = sym (get_or-eq_default (take 20 (drop 128 w)) 0 {n = i} (omega (arith, length-take 20 (drop 128 w))))

pub table_is : (w : List ℕ) (i : ℕ) → i < 5 → ◌≡◌ {A = Table} (record { counter = get_or w (128 + i * 4) 0 % 4294967296; last = get_or w (128 + i * 4 + 1) 0; start = get_or w (128 + i * 4 + 2) 0; line = get_or w (128 + i * 4 + 3) 0 % 4294967296 }) (table_in (tables_in w) i)
table_is w i h =
    let at : (j : ℕ) → j < 4 → get_or w (128 + i * 4 + j) 0 ≡ get_or (tables_in w) (i * 4 + j) 0 = λ j k. ap (λ (q : ℕ). get_or w q 0) (omega arith) ∙ in_tables w (i * 4 + j) (omega arith) in
    let a : get_or w (128 + i * 4) 0 ≡ get_or (tables_in w) (i * 4) 0 = in_tables w (i * 4) (omega arith) in
    λ z. record { counter = a z % 4294967296; last = at 1 (omega arith) z; start = at 2 (omega arith) z; line = at 3 (omega arith) z % 4294967296 }

opened_same : (ws ws' : List ℕ) (d : ℕ) → ((j : ℕ) → j < d * 4 → get_or ws' j 0 ≡ get_or ws j 0) → opened ws' d ≡ opened ws d
unfolding opened
opened_same ws ws' zero h = refl
opened_same ws ws' (suc d) h = λ z. record { counter = h (d * 4) (omega arith) z % 4294967296; last = h (d * 4 + 1) (omega arith) z; start = h (d * 4 + 2) (omega arith) z; line = h (d * 4 + 3) (omega arith) z % 4294967296 } ∷ opened_same ws ws' d (λ j k. h j (omega arith)) z

before_set : (l : List ℕ) (i k j y : ℕ) → i + k ≤ j → bank i k (set l j y) ≡ bank i k l
unfolding bank
before_set l i k j y h =
    let e : j ≡ i + (j - i) = omega arith in
    ap (λ (q : ℕ). take k (drop i (set l q y))) e ∙ ap (take k) (drop-set-add i l (j - i) y) ∙ take-set-le k (drop i l) (j - i) y (omega arith)

after_set : (l : List ℕ) (i k j y : ℕ) → j < i → bank i k (set l j y) ≡ bank i k l
unfolding bank
after_set l i k j y h = ap (take k) (drop-set-lt i l j y h)

module _ (w : List ℕ) (d c l s n : ℕ) (few : d ≤ 4) (row : 148 ≤ length w) (cs : c < 4294967296) (ns : n < 4294967296) where
  abbrev w₁ : List ℕ
  w₁ = set w (128 + d * 4) c

  abbrev w₂ : List ℕ
  w₂ = set w₁ (128 + d * 4 + 1) l

  abbrev w₃ : List ℕ
  w₃ = set w₂ (128 + d * 4 + 2) s

  abbrev w₄ : List ℕ
  w₄ = set w₃ (128 + d * 4 + 3) n

  long₁ : length w₁ ≡ length w
  long₁ = length-set w (128 + d * 4) c

  long₂ : length w₂ ≡ length w
  long₂ = length-set w₁ (128 + d * 4 + 1) l ∙ long₁

  long₃ : length w₃ ≡ length w
  long₃ = length-set w₂ (128 + d * 4 + 2) s ∙ long₂

  long₄ : length w₄ ≡ length w
  long₄ = length-set w₃ (128 + d * 4 + 3) n ∙ long₃

  other₁ : (j : ℕ) → (j < 128 + d * 4) → get_or w₁ j 0 ≡ get_or w j 0
  other₁ j h = get_or-set_other w (128 + d * 4) j c 0 (λ e. omega arith)

  other₂ : (j : ℕ) → (j < 128 + d * 4 + 1) → get_or w₂ j 0 ≡ get_or w₁ j 0
  other₂ j h = get_or-set_other w₁ (128 + d * 4 + 1) j l 0 (λ e. omega arith)

  other₃ : (j : ℕ) → (j < 128 + d * 4 + 2) → get_or w₃ j 0 ≡ get_or w₂ j 0
  other₃ j h = get_or-set_other w₂ (128 + d * 4 + 2) j s 0 (λ e. omega arith)

  other₄ : (j : ℕ) → (j < 128 + d * 4 + 3) → get_or w₄ j 0 ≡ get_or w₃ j 0
  other₄ j h = get_or-set_other w₃ (128 + d * 4 + 3) j n 0 (λ e. omega arith)

  at₀ : get_or w₄ (128 + d * 4) 0 ≡ c
  at₀ = other₄ (128 + d * 4) (omega arith) ∙ other₃ (128 + d * 4) (omega arith) ∙ other₂ (128 + d * 4) (omega arith) ∙ get_or-set_same w (128 + d * 4) c 0 (omega arith)

  at₁ : get_or w₄ (128 + d * 4 + 1) 0 ≡ l
  at₁ = other₄ (128 + d * 4 + 1) (omega arith) ∙ other₃ (128 + d * 4 + 1) (omega arith) ∙ get_or-set_same w₁ (128 + d * 4 + 1) l 0 (omega (arith, long₁))

  at₂ : get_or w₄ (128 + d * 4 + 2) 0 ≡ s
  at₂ = other₄ (128 + d * 4 + 2) (omega arith) ∙ get_or-set_same w₂ (128 + d * 4 + 2) s 0 (omega (arith, long₂))

  at₃ : get_or w₄ (128 + d * 4 + 3) 0 ≡ n
  at₃ = get_or-set_same w₃ (128 + d * 4 + 3) n 0 (omega (arith, long₃))

  table_set : table_in (tables_in w₄) d ≡ record { counter = c; last = l; start = s; line = n }
  table_set =
      let a : get_or w₄ (128 + d * 4) 0 % 4294967296 ≡ c = omega (arith, at₀) in
      let b : get_or w₄ (128 + d * 4 + 3) 0 % 4294967296 ≡ n = omega (arith, at₃) in
      sym (table_is w₄ d (omega arith)) ∙ (λ z. record { counter = a z; last = at₁ z; start = at₂ z; line = b z })

  below : (j : ℕ) → j < d * 4 → get_or (tables_in w₄) j 0 ≡ get_or (tables_in w) j 0
  below j h =
      let k : j < 20 = omega arith in
      sym (in_tables w₄ j k) ∙ other₄ (128 + j) (omega arith) ∙ other₃ (128 + j) (omega arith) ∙ other₂ (128 + j) (omega arith) ∙ other₁ (128 + j) (omega arith) ∙ in_tables w j k

  rest_same : open_of w₄ d ≡ open_of w d
  rest_same = opened_same (tables_in w) (tables_in w₄) d below

  pub pushes : Pushes w d (record { counter = c; last = l; start = s; line = n }) w₄
  unfolding opened
  pushes = record {
    more = rw (add-one d) (λ z. table_set z ∷ rest_same z);
    rest = rest_same;
    stays = record {
      others = λ i k h. before_set w₃ i k (128 + d * 4 + 3) n (omega arith) ∙ before_set w₂ i k (128 + d * 4 + 2) s (omega arith) ∙ before_set w₁ i k (128 + d * 4 + 1) l (omega arith) ∙ before_set w i k (128 + d * 4) c (omega arith);
      above = λ i k h. after_set w₃ i k (128 + d * 4 + 3) n (omega arith) ∙ after_set w₂ i k (128 + d * 4 + 2) s (omega arith) ∙ after_set w₁ i k (128 + d * 4 + 1) l (omega arith) ∙ after_set w i k (128 + d * 4) c (omega arith);
      same = long₄;
    };
  }

module _ (w : List ℕ) where
  pub innermost_none : (d : ℕ) → d < 1 → no_table ≡ innermost (open_of w d)
  unfolding opened
  innermost_none zero h = refl
  innermost_none (suc d) h = absurd (omega arith)

  pub innermost_in : (d : ℕ) → 1 ≤ d → table_in (tables_in w) (d - 1) ≡ innermost (open_of w d)
  unfolding opened
  innermost_in zero h = absurd (omega arith)
  innermost_in (suc d) h = let e : suc d - 1 ≡ d = omega arith in rw e

  pub innermost_past : (d : ℕ) → 1 ≤ d → 5 ≤ d - 1 → no_table ≡ innermost (open_of w d)
  innermost_past d h k =
      let i = d - 1 in
      let at : (j : ℕ) → 20 ≤ j → 0 ≡ get_or (tables_in w) j 0 = past_tables w in
      (λ z. record { counter = at ((d - 1) * 4) (omega arith) z % 4294967296; last = at ((d - 1) * 4 + 1) (omega arith) z; start = at ((d - 1) * 4 + 2) (omega arith) z; line = at ((d - 1) * 4 + 3) (omega arith) z % 4294967296 }) ∙ innermost_in d h

-- without the innermost
rest_is : (ws : List ℕ) (d : ℕ) → opened ws (d - 1) ≡ drop 1 (opened ws d)
unfolding opened
rest_is ws zero = refl
rest_is ws (suc d) = let e : suc d - 1 ≡ d = omega arith in rw e

pub loop_is : (ts : List Table) → (innermost ts).counter ≡ loop ts
unfolding loop
loop_is [] = refl
loop_is (t ∷ ts) = refl

pub closed_few : (words : List ℕ) (d r : ℕ) → AtMostOpen 5 words d → r ≡ d - 1 → AtMostOpen 4 words r
closed_few words d r h e = record { few = omega (arith, e, h.few); row = h.row }

stays_all : (words : List ℕ) → Stays words words
stays_all words = record { others = λ i k h. refl; above = λ i k h. refl; same = refl }

-- ---- small functions

pub exceeds_all : (c last : ℕ) → 2000000000 < c → true ≡ exceeds c last
unfolding exceeds
exceeds_all c last h = rw (lt-ltb 2000000000 c h)

pub exceeds_last : (c last : ℕ) → c ≤ 2000000000 → ltb last c ≡ exceeds c last
unfolding exceeds
exceeds_last c last h = rw (le-ltb 2000000000 c h)

pub exceeded_not : (c last : ℕ) (x : Bool) → x ≡ exceeds c last → x ≡ false → c ≤ 2000000000
unfolding exceeds
exceeded_not c last x e n = by (ltb 2000000000 c) refl (sym e ∙ n)
  where
    by : (t : Bool) → ltb 2000000000 c ≡ t → t || ltb last c ≡ false → c ≤ 2000000000
    by true u v = absurd (false≢true (sym v))
    by false u v = ltb-false 2000000000 c u

from_one : (z : ℤ) → lt_z z (pos 1) ≡ false → 1 ≤ nat_abs z
from_one (pos n) h = ltb-false n 1 h
from_one (negsuc n) h = absurd (false≢true (sym h))

-- a counter of 1 or more exceeds the last of no table
some_open : (words : List ℕ) (d : ℕ) (z : ℤ) → lt_z z (pos 1) ≡ false → (x : Table) → x ≡ innermost (open_of words d) → (k c : ℕ) → k ≡ nat_abs z → c ≡ x.counter + k → (y : Bool) → y ≡ exceeds c x.last → y ≡ false → 1 ≤ d
unfolding opened exceeds
some_open words (suc d) z f x i k c j g y l n = omega arith
some_open words zero z f x i k c j g y l n = absurd (by (ltb 2000000000 c) (sym n ∙ l ∙ ap (λ (t : Table). exceeds c t.last) i))
  where
    by : (t : Bool) → false ≡ t || ltb 0 c → ⊥
    by true e = false≢true e
    by false e = false≢true (e ∙ lt-ltb 0 c (omega (arith, j, g, from_one z f)))

-- ---- $BT and $ET with their value

module _ (t : Result ℤ Refusal) (words : List ℕ) (d : ℕ) where
  module _ (start next : ℕ) where
    module _ (z : ℤ) (h : t ≡ Ok z) (b : Bool) (e : b ≡ lt_z z (pos 1)) where
      pub begin_skips : b ≡ true → BeginsTable t start next words d words (Ok false)
      unfolding begun
      begin_skips f = record { same = rw (h, ← e, f); rest = refl; stays = stays_all words }

      pub begin_opens : b ≡ false → (n : ℕ) → n ≡ nat_abs z → (words' : List ℕ) → Pushes words d (new_table n start next) words' → BeginsTable t start next words d words' (Ok true)
      unfolding begun
      begin_opens f n j words' p = record { same = rw (h, ← e, f, ← j, p.more); rest = p.rest; stays = p.stays }

  module _ (z : ℤ) (h : t ≡ Ok z) (b : Bool) (e : b ≡ lt_z z (pos 1)) where
    pub end_low : b ≡ true → EndsTable t words d words (Err OutOfRange)
    unfolding counted
    end_low f = record { same = rw (h, ← e, f); stays = stays_all words }

    module _ (f : b ≡ false) (x : Table) (i : x ≡ innermost (open_of words d)) (k c : ℕ) (j : k ≡ nat_abs z) (g : c ≡ x.counter + k) (y : Bool) (l : y ≡ exceeds c x.last) where
      pub end_over : y ≡ true → EndsTable t words d words (Ok false)
      unfolding counted counting
      end_over n = record { same = rw (h, ← e, f, ← i, ← j, ← g, ← l, n, rest_is (tables_in words) d); stays = stays_all words }

      pub end_again : y ≡ false → (r : ℕ) → r ≡ d - 1 → (u : Table) → u ≡ counted_to x c → (words' : List ℕ) → Pushes words r u words' → EndsTable t words d words' (Ok true)
      unfolding counted counting
      end_again n r m u o words' p =
          let q : r + 1 ≡ d = omega (arith, m, some_open words d z (sym e ∙ f) x i k c j g y l n) in
          let v : open_of words' d ≡ counted_to x c ∷ drop 1 (open_of words d) = ap (open_of words') (sym q) ∙ p.more ∙ (λ w. o w ∷ (ap (open_of words) m ∙ rest_is (tables_in words) d) w) in
          record { same = rw (h, ← e, f, ← i, ← j, ← g, ← l, n, v); stays = p.stays }
