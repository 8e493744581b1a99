-- Laws of what a field shows, by name, and of the pieces that are written one behind the other.
use mathlib.Core.Path.{◌≡◌, refl, sym, ap, ◌∙◌}
use mathlib.Core.Bool.{Bool, true, false, not, cond, ◌&&◌}
use mathlib.Core.List.{List, [], ◌∷◌, ◌++◌, append-nil}
use Prim.Native.Nat.{ℕ, zero, suc, ◌+◌, ◌-◌, ◌/◌, ◌^◌, ◌≤◌, ◌<◌}
use native.Mathlib.Numerals.{add-one}
use native.Mathlib.Omega.{arith}
use borrow.Author.Tests.{le-leb, lt-leb, leb-true}
use lib.Dec.{leb, eqb}
use lib.ListN.{length, take, set, replicate, length-append, length-replicate, length-take}
use lib.Seq.{sets, length-sets, take_all, length-take-le}
use Rattle.buffers.specs.Buffer.{stored}
use Rattle.buffers.proofs.Laws.{sets_append, stored_in}
use Rattle.fields.specs.Digits.{digits, digit_count}
use Rattle.fields.specs.Field.{space, asterisk, hyphen, point, minus, fraction, unsigned, right_in, left_in}
use Rattle.fields.proofs.DigitLaws.{length_digits}

-- ---- the sign and the fraction

pub minus_none : (below : Bool) (u : ℕ) → below ≡ false → minus below u ≡ []
unfolding minus
minus_none below u e = rw e

-- the sign is that many minus signs
pub minus_fill : (below : Bool) (u : ℕ) → minus below u ≡ replicate (length (minus below u)) hyphen
unfolding minus
minus_fill below u = go (below && not (eqb u 0))
  where
    go : (t : Bool) → cond t (hyphen ∷ []) [] ≡ replicate (length (cond t (hyphen ∷ []) [])) hyphen
    go true = refl
    go false = refl

pub sign_short : (below : Bool) (u : ℕ) → length (minus below u) ≤ 1
unfolding minus
sign_short below u = go (below && not (eqb u 0))
  where
    go : (t : Bool) → length (cond t (hyphen ∷ []) []) ≤ 1
    go true = omega arith
    go false = omega arith

pub fraction_none : (d u : ℕ) → d ≡ 0 → fraction d u ≡ []
unfolding fraction
fraction_none d u e = rw e

pub fraction_some : (d u : ℕ) → (d ≡ 0 → ⊥) → fraction d u ≡ point ∷ digits d u
unfolding fraction
fraction_some zero u n = absurd (n refl)
fraction_some (suc d) u n = refl

pub length_fraction : (d u : ℕ) → (d ≡ 0 → ⊥) → length (fraction d u) ≡ d + 1
length_fraction d u n = ap length (fraction_some d u n) ∙ omega (arith, length_digits d u)

pub fraction_short : (d u : ℕ) → d ≤ 6 → length (fraction d u) ≤ 7
fraction_short zero u h = omega (arith, ap length (fraction_none zero u refl))
fraction_short (suc d) u h = omega (arith, length_fraction (suc d) u (λ e. omega arith))

-- the length of a fraction is the same for all numbers
pub fraction_same : (d u v : ℕ) → length (fraction d u) ≡ length (fraction d v)
fraction_same zero u v = ap length (fraction_none zero u refl ∙ sym (fraction_none zero v refl))
fraction_same (suc d) u v = length_fraction (suc d) u (λ e. omega arith) ∙ sym (length_fraction (suc d) v (λ e. omega arith))

-- ---- pieces, one behind the other

pub fraction_put : (b b' : List ℕ) (at d u : ℕ) → (d ≡ 0 → ⊥) → b' ≡ sets (set b at point) (at + 1) (digits d u) → b' ≡ sets b at (fraction d u)
fraction_put b b' at d u n e = e ∙ ap (λ (i : ℕ). sets (set b at point) i (digits d u)) (add-one at) ∙ ap (sets b at) (sym (fraction_some d u n))

pub text_put : (b b₁ b₂ b₃ : List ℕ) (at sign count whole d u : ℕ) → at + sign ≤ length b → b₁ ≡ stored b at (replicate sign hyphen) → b₂ ≡ sets b₁ (at + sign) (digits count whole) → b₃ ≡ sets b₂ (at + sign + count) (fraction d u) → b₃ ≡ sets b at (replicate sign hyphen ++ (digits count whole ++ fraction d u))
text_put b b₁ b₂ b₃ at sign count whole d u h e₁ e₂ e₃ =
    let l : length (replicate sign hyphen) ≡ sign = length-replicate sign hyphen in
    let k : length (digits count whole) ≡ count = length_digits count whole in
    let s : b₁ ≡ sets b at (replicate sign hyphen) = e₁ ∙ stored_in b at (replicate sign hyphen) (omega arith) in
    rw (e₃, e₂, s, sets_append (replicate sign hyphen) b at (digits count whole ++ fraction d u), l, sets_append (digits count whole) (sets b at (replicate sign hyphen)) (at + sign) (fraction d u), k)

-- ---- a number in its field: sign, count and tail are the lengths of its three pieces

module _ (below : Bool) (d u sign count whole tail : ℕ) (es : sign ≡ length (minus below u)) (ec : count ≡ digit_count whole) (ew : whole ≡ u / 10 ^ d) (et : tail ≡ length (fraction d 0)) where
  pub whole_text : unsigned d u ≡ digits count whole ++ fraction d u
  unfolding unsigned
  whole_text = rw (ec, ew)

  pub length_text : length (minus below u ++ unsigned d u) ≡ sign + count + tail
  length_text =
      rw whole_text
      (length-append (minus below u) (digits count whole ++ fraction d u) ∙ omega (arith, length-append (digits count whole) (fraction d u), length_digits count whole, fraction_same d u 0))

  pub starred : (b b' : List ℕ) (at w : ℕ) → at + w ≤ length b → w < sign + count + tail → b' ≡ stored b at (replicate w asterisk) → b' ≡ sets b at (right_in w (minus below u ++ unsigned d u))
  unfolding right_in
  starred b b' at w f h e =
      let s : stored b at (replicate w asterisk) ≡ sets b at (replicate w asterisk) = stored_in b at (replicate w asterisk) (omega (arith, length-replicate w asterisk)) in
      rw (lt-leb (length (minus below u ++ unsigned d u)) w (omega (arith, length_text))) (e ∙ s)

  pub spaced : (b b₁ b₂ : List ℕ) (at w : ℕ) → at + w ≤ length b → sign + count + tail ≤ w → b₁ ≡ stored b at (replicate (w - (sign + count + tail)) space) → b₂ ≡ sets b₁ (at + (w - (sign + count + tail))) (replicate sign hyphen ++ (digits count whole ++ fraction d u)) → b₂ ≡ sets b at (right_in w (minus below u ++ unsigned d u))
  unfolding right_in
  spaced b b₁ b₂ at w f h e₁ e₂ =
      let k = w - (sign + count + tail) in
      let l : length (replicate k space) ≡ k = length-replicate k space in
      let s : b₁ ≡ sets b at (replicate k space) = e₁ ∙ stored_in b at (replicate k space) (omega arith) in
      let m : replicate sign hyphen ≡ minus below u = ap (λ (n : ℕ). replicate n hyphen) es ∙ sym (minus_fill below u) in
      rw (le-leb (length (minus below u ++ unsigned d u)) w (omega (arith, length_text)), length_text, sets_append (replicate k space) b at (minus below u ++ unsigned d u), l, whole_text, e₂, s, m)

-- ---- a string in its field

module _ (b s : List ℕ) (at w : ℕ) (f : at + w ≤ length b) where
  pub filled : (b₁ b₂ : List ℕ) → length s < w → b₁ ≡ stored b at s → b₂ ≡ stored b₁ (at + length s) (replicate (w - length s) space) → b₂ ≡ sets b at (left_in w s)
  unfolding left_in
  filled b₁ b₂ h e₁ e₂ =
      let p : b₁ ≡ sets b at s = e₁ ∙ stored_in b at s (omega arith) in
      let n : length b₁ ≡ length b = ap length p ∙ length-sets b at s in
      let q : b₂ ≡ sets b₁ (at + length s) (replicate (w - length s) space) = e₂ ∙ stored_in b₁ (at + length s) (replicate (w - length s) space) (omega (arith, length-replicate (w - length s) space)) in
      let t : take w s ≡ s = take_all w s (omega arith) in
      rw (q, p, t) (sym (sets_append s b at (replicate (w - length s) space)))

  pub cut_off : (b₁ : List ℕ) → w ≤ length s → b₁ ≡ stored b at (take w s) → b₁ ≡ sets b at (left_in w s)
  unfolding left_in
  cut_off b₁ h e =
      let z : w - length s ≡ 0 = omega arith in
      let l : length (take w s) ≡ w = length-take-le w s h in
      rw (z, append-nil (take w s)) (e ∙ stored_in b at (take w s) (omega arith))

-- ---- lengths: a field has w bytes

pub length_right : (w : ℕ) (t : List ℕ) → length (right_in w t) ≡ w
unfolding right_in
length_right w t = go (leb (length t) w) refl
  where
    go : (r : Bool) → leb (length t) w ≡ r → length (cond r (replicate (w - length t) space ++ t) (replicate w asterisk)) ≡ w
    go true e = length-append (replicate (w - length t) space) t ∙ omega (arith, length-replicate (w - length t) space, leb-true (length t) w e)
    go false e = length-replicate w asterisk

pub length_left : (w : ℕ) (s : List ℕ) → length (left_in w s) ≡ w
unfolding left_in
length_left w s = length-append (take w s) (replicate (w - length s) space) ∙ omega (arith, length-take w s, length-replicate (w - length s) space)
