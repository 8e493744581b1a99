-- The highest heading that is defined.
use mathlib.Core.Path.{◌≡◌, refl, ap}
use mathlib.Core.Bool.{Bool, true, false, cond}
use mathlib.Core.List.{List, [], ◌∷◌}
use Prim.Native.Nat.{ℕ, zero, suc, ◌≤◌, ◌<◌}
use native.Mathlib.Omega.{arith}
use borrow.Author.Tests.{eqb-true, eqb-false, leb-true, leb-false}
use lib.Dec.{eqb, leb}
use lib.ListN.{length, get_or}
use Rattle.pages.specs.declared.heading.Heading.{Heading}
use Rattle.pages.specs.Heading.{no_heading}
use Rattle.pages.specs.Page.{highest_defined}

pub highest_most : (hs : List Heading) (n : ℕ) → highest_defined hs n ≤ n
unfolding highest_defined
highest_most hs zero = omega arith
highest_most hs (suc n) = go (eqb (get_or hs n no_heading).number 0) (highest_most hs n)
  where
    go : (c : Bool) → highest_defined hs n ≤ n → cond c (highest_defined hs n) (suc n) ≤ suc n
    go true h = omega arith
    go false h = omega arith

-- a heading behind the last is undefined
get_d_over : (hs : List Heading) (n : ℕ) → length hs ≤ n → get_or hs n no_heading ≡ no_heading
get_d_over [] zero h = refl
get_d_over [] (suc n) h = refl
get_d_over (x ∷ hs) zero h = absurd (omega arith)
get_d_over (x ∷ hs) (suc n) h = get_d_over hs n (omega arith)

pub highest_inside : (hs : List Heading) (n : ℕ) → highest_defined hs n ≤ length hs
unfolding highest_defined
highest_inside hs zero = omega arith
highest_inside hs (suc n) = go (eqb (get_or hs n no_heading).number 0) refl (leb (length hs) n) refl (highest_inside hs n)
  where
    go : (c : Bool) → eqb (get_or hs n no_heading).number 0 ≡ c → (b : Bool) → leb (length hs) n ≡ b → highest_defined hs n ≤ length hs → cond c (highest_defined hs n) (suc n) ≤ length hs
    go true e b f h = h
    go false e true f h = absurd (eqb-false (get_or hs n no_heading).number 0 e (ap (λ (x : Heading). x.number) (get_d_over hs n (leb-true (length hs) n f))))
    go false e false f h = omega (arith, leb-false (length hs) n f)

-- above the highest defined all are undefined
highest_above : (hs : List Heading) (n i : ℕ) → highest_defined hs n ≤ i → i < n → (get_or hs i no_heading).number ≡ 0
unfolding highest_defined
highest_above hs zero i h k = absurd (omega arith)
highest_above hs (suc n) i h k = go (eqb (get_or hs n no_heading).number 0) refl (leb n i) refl h (highest_above hs n i)
  where
    go : (c : Bool) → eqb (get_or hs n no_heading).number 0 ≡ c → (b : Bool) → leb n i ≡ b → cond c (highest_defined hs n) (suc n) ≤ i → (highest_defined hs n ≤ i → i < n → (get_or hs i no_heading).number ≡ 0) → (get_or hs i no_heading).number ≡ 0
    go true e true f h' r =
        let q : i ≡ n = omega (arith, leb-true n i f) in
        rw q (eqb-true (get_or hs n no_heading).number 0 e)
    go true e false f h' r = r h' (leb-false n i f)
    go false e b f h' r = absurd (omega arith)

pub highest_over : (hs : List Heading) (n : ℕ) → length hs ≤ n → (get_or hs (highest_defined hs n) no_heading).number ≡ 0
highest_over hs n h = go (leb n (highest_defined hs n)) refl
  where
    go : (b : Bool) → leb n (highest_defined hs n) ≡ b → (get_or hs (highest_defined hs n) no_heading).number ≡ 0
    go true e = ap (λ (x : Heading). x.number) (get_d_over hs (highest_defined hs n) (omega (arith, leb-true n (highest_defined hs n) e)))
    go false e = highest_above hs n (highest_defined hs n) (omega arith) (leb-false n (highest_defined hs n) e)
