-- A heading packed and read back.
use mathlib.Core.Path.{◌≡◌, refl, sym, ap, ◌∙◌}
use mathlib.Core.List.{List, [], ◌∷◌}
use Prim.Native.Nat.{ℕ, zero, suc, ◌+◌, ◌*◌, ◌/◌, ◌%◌, ◌≤◌}
use native.Mathlib.Omega.{arith}
use native.Mathlib.Numerals.{add-one}
use lib.ListN.{length, get_or, take, drop, length-take, length-map, get_or-eq_default}
use Rattle.values.specs.Machine.{numbered}
use Rattle.values.specs.Inner.State.{bank, headings_in}
use Rattle.pages.specs.declared.heading.Heading.{Heading}
use Rattle.pages.specs.Heading.{no_heading}
use Rattle.pages.specs.Inner.Packed.{heading_in, headings_of, Small}

-- A heading that has its place in a word is read back.
pub read_back : (h : Heading) (w : ℕ) → Small h → w ≡ ((h.start * 256 + h.length) * 256 + h.from) * 65536 + h.number → heading_in w ≡ h
unfolding heading_in
read_back h w s q =
    let a : w / 4294967296 ≡ h.start = omega (arith, s.length, s.from, s.number) in
    let b : w / 16777216 % 256 ≡ h.length = omega (arith, s.length, s.from, s.number) in
    let d : w / 65536 % 256 ≡ h.from = omega (arith, s.from, s.number) in
    let e : w % 65536 ≡ h.number = omega (arith, s.number) in
    λ i. record { start = a i; length = b i; from = d i; number = e i }

heading_none : heading_in 0 ≡ no_heading
unfolding heading_in
heading_none = refl

heading_word : (words : List ℕ) (k : ℕ) → get_or (headings_of words) k no_heading ≡ heading_in (get_or words k 0)
heading_word [] k = sym heading_none
heading_word (w ∷ words) zero = refl
heading_word (w ∷ words) (suc k) = heading_word words k

pub heading_inside : (words : List ℕ) (k w : ℕ) (h : Heading) → w ≡ numbered 0 words (k + 1) → h ≡ heading_in w → h ≡ get_or (headings_of words) k no_heading
unfolding numbered
heading_inside words k w h e i = rw add-one at (i ∙ ap heading_in e) ∙ sym (heading_word words k)

pub heading_outside : (words : List ℕ) (k : ℕ) → 9 ≤ k → no_heading ≡ get_or (headings_of (headings_in words)) k no_heading
unfolding bank
heading_outside words k h =
    let l : length (take 9 (drop 119 words)) ≤ k = omega (arith, length-take 9 (drop 119 words)) in
    sym (heading_word (take 9 (drop 119 words)) k ∙ ap heading_in (get_or-eq_default (take 9 (drop 119 words)) 0 {n = k} l) ∙ heading_none)

pub nine_headings : (words : List ℕ) → length (headings_of (headings_in words)) ≤ 9
unfolding bank
nine_headings words = omega (arith, length-map (take 9 (drop 119 words)) heading_in, length-take 9 (drop 119 words))
