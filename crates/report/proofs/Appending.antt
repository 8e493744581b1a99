-- The read list, as a plain list: what each turn of `append` leaves for the rest.
use mathlib.Core.Path.{◌≡◌, refl, sym, ◌∙◌, ap}
use Prim.Native.Nat.{ℕ, zero, suc, ◌+◌, ◌-◌, ◌*◌, ◌<◌, ◌≤◌, ◌^◌}
use native.Mathlib.Omega.{arith}
use native.Mathlib.Nat.{le_of_suc-le-suc, not-suc-le-zero}
use mathlib.Core.List.{List, [], ◌∷◌, map}
use mir.Syntax.{w64}
use mir.Val.{vint, WT}
use denote.Array.{array_val}
use lib.ListN.{length, get_or, set, take, drop, length-set}
use lib.Seq.{sets}
use Rattle.meaning.specs.declared.question.Question.{Question}
use Rattle.values.specs.Inner.Word.{unpacked, questions}
use Rattle.report.specs.declared.state.Batch.{Batch}

-- with i questions of the log added, zs is the list: what the rest adds to it is what the whole adds to ys
pub record Added (ys : List Question) (l : Batch) (i : ℕ) (zs : List Question) : Type 0 where
  pub rest : sets zs (l.at + i) (take (l.n - i) (drop i (questions l.words))) ≡ sets ys l.at (take l.n (questions l.words))
  pub same : length zs ≡ length ys
  pub most : i ≤ l.n

-- the first of some questions, and the others
first_of : (ws : List ℕ) (i k : ℕ) → i < length ws → take (suc k) (drop i (questions ws)) ≡ unpacked (get_or ws i 0) ∷ take k (drop (suc i) (questions ws))
first_of [] i k h = absurd (not-suc-le-zero h)
first_of (w ∷ ws) zero k h = refl
first_of (w ∷ ws) (suc i) k h = first_of ws i k (le_of_suc-le-suc h)

plus_none : (p : ℕ) → p + 0 ≡ p
plus_none p = omega arith

minus_none : (p : ℕ) → p - 0 ≡ p
minus_none p = omega arith

plus_next : (p i : ℕ) → p + (i + 1) ≡ suc (p + i)
plus_next p i = omega arith

next : (i : ℕ) → i + 1 ≡ suc i
next i = omega arith

module _ (ys : List Question) (l : Batch) where
  abbrev qs : List Question
  qs = questions l.words

  pub none : Added ys l 0 ys
  none = record {
    rest = ap (λ (p : ℕ). sets ys p (take (l.n - 0) qs)) (plus_none l.at) ∙ ap (λ (k : ℕ). sets ys l.at (take k qs)) (minus_none l.n);
    same = refl;
    most = omega arith;
  }

  one : (p i k m : ℕ) (zs : List Question) → i < length l.words → m ≡ suc k
      → sets (set zs p (unpacked (get_or l.words i 0))) (suc p) (take k (drop (suc i) qs)) ≡ sets zs p (take m (drop i qs))
  one p i k m zs h e = ap (sets zs p) (sym (first_of l.words i k h)) ∙ ap (λ (j : ℕ). sets zs p (take j (drop i qs))) (sym e)

  pub more : (i : ℕ) (zs : List Question) → i < l.n → i < length l.words → Added ys l i zs → Added ys l (i + 1) (set zs (l.at + i) (unpacked (get_or l.words i 0)))
  more i zs h g a = record {
    rest = ap (λ (p : ℕ). sets zs' p (take (l.n - (i + 1)) (drop (i + 1) qs))) (plus_next l.at i)
        ∙ ap (λ (j : ℕ). sets zs' (suc (l.at + i)) (take (l.n - (i + 1)) (drop j qs))) (next i)
        ∙ one (l.at + i) i (l.n - (i + 1)) (l.n - i) zs g (omega (arith, h)) ∙ a.rest;
    same = length-set zs (l.at + i) (unpacked (get_or l.words i 0)) ∙ a.same;
    most = omega (arith, h);
  }
    where
      zs' : List Question
      zs' = set zs (l.at + i) (unpacked (get_or l.words i 0))

  gone : (p i m : ℕ) (zs : List Question) → m ≡ 0 → sets zs p (take m (drop i qs)) ≡ zs
  gone p i m zs e = ap (λ (j : ℕ). sets zs p (take j (drop i qs))) e

  pub all : (i : ℕ) (zs : List Question) → l.n ≤ i → Added ys l i zs → zs ≡ sets ys l.at (take l.n qs)
  all i zs h a = sym (gone (l.at + i) i (l.n - i) zs (omega (arith, h))) ∙ a.rest

-- a place of the list is within the machine's numbers
pub near : (i n : ℕ) → i < n → n * 20 < 2 ^ 63 → (i * 20 < 2 ^ 64) × (i < 2 ^ 64)
near i n l r = (omega (arith, l, r), omega (arith, l, r))

pub placed : (p n i m : ℕ) → p + n ≤ m → i < n → p + i < m
placed p n i m r l = omega (arith, r, l)

pub fits_next : (i n : ℕ) → i < n → n < 2 ^ 64 → (i < 2 ^ 64) × (i + 1 < 2 ^ 64)
fits_next i n l g = (omega (arith, l, g), omega (arith, l, g))

-- a place of the log, and what stands there
pub small_place : (i n : ℕ) → i < n → n ≤ 512 → (i < 512) × (i * 8 < 2 ^ 64)
small_place i n l g = (omega (arith, l, g), omega (arith, l, g))

pub word_fits : (ws : List ℕ) (i : ℕ) → i < length ws → WT (array_val (map (vint w64) ws)) → get_or ws i 0 < 2 ^ 64
word_fits [] i l g = absurd (not-suc-le-zero l)
word_fits (w ∷ ws) zero l g = g.0.fits
word_fits (w ∷ ws) (suc i) l g = word_fits ws i (le_of_suc-le-suc l) g.1
