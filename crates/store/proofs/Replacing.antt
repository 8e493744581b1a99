-- A stretch of the store in place of another: moved, written and cleared is what the definition says.
use mathlib.Core.Path.{◌≡◌, refl, sym, ap, ap₂, ◌∙◌}
use mathlib.Core.Bool.{Bool}
use mathlib.Core.List.{List, [], ◌∷◌, ◌++◌}
use Prim.Native.Nat.{ℕ, suc, ◌+◌, ◌-◌, ◌≤◌}
use native.Mathlib.Omega.{arith}
use lib.ListN.{length, take, drop, set, replicate, length-replicate, take-append-drop}
use lib.Seq.{sets, sets-eq, length-sets, length-take-le}
use Rattle.buffers.specs.Buffer.{part, shifted, Stored, Shifted}
use Rattle.buffers.proofs.Laws.{sets_append, sets_before, stored_in, room_true, length_part}
use Rattle.store.specs.Inner.Slot.{replaced}

-- stretches that do not meet may be stored in either order
sets_comm : {A : Type 0} (v w b : List A) (i n : ℕ) → i + length v ≤ n → sets (sets b n w) i v ≡ sets (sets b i v) n w
sets_comm [] w b i n h = refl
sets_comm (x ∷ v) w b i n h =
    ap (λ (l : List _). sets l (suc i) v) (sym (sets_before w b i n x (omega arith))) ∙ sets_comm v w (set b i x) (suc i) n (omega arith)

-- what stands in a buffer already
sets_same : (b : List ℕ) (at : ℕ) → at ≤ length b → sets b 0 (take at b) ≡ b
sets_same b at h =
    let l : length (take at b) ≡ at = length-take-le at b h in
    let z : 0 + length (take at b) ≡ at = omega arith in
    sets-eq (take at b) b 0 (omega arith) ∙ ap (λ (k : ℕ). take at b ++ drop k b) z ∙ take-append-drop at b

pub moved_in : (b : List ℕ) (from to k : ℕ) (b' : List ℕ) (r : Bool) → from + k ≤ length b → to + k ≤ length b → Shifted b from to k b' r → b' ≡ sets b to (part b from k)
unfolding shifted
moved_in b from to k b' r h h' s = s.buffer ∙ rw (room_true b from k h, room_true b to k h')

module _ (b : List ℕ) (n at size : ℕ) (s : List ℕ) (h : at + size ≤ n) (l : n ≤ length b) (f : at + length s + (n - (at + size)) ≤ length b) where
  abbrev tail : ℕ
  tail = n - (at + size)

  abbrev end : ℕ
  end = at + length s + tail

  pub replaced_is : (b₁ b₂ b₃ : List ℕ) (r₁ r₂ r₃ : Bool) → Shifted b (at + size) (at + length s) tail b₁ r₁ → Stored b₁ at s b₂ r₂ → (g : ℕ) → g ≡ n - end → Stored b₂ end (replicate g 0) b₃ r₃ → b₃ ≡ replaced b n at size s
  unfolding replaced
  replaced_is b₁ b₂ b₃ r₁ r₂ r₃ x y g e z =
      let p = part b (at + size) tail in
      let lp : length p ≡ tail = length_part b (at + size) tail (omega arith) in
      let zs : List ℕ = replicate g 0 in
      let lz : length zs ≡ g = length-replicate g 0 in
      let e₁ : b₁ ≡ sets b (at + length s) p = moved_in b (at + size) (at + length s) tail b₁ r₁ (omega arith) (omega arith) x in
      let l₁ : length b₁ ≡ length b = ap length e₁ ∙ length-sets b (at + length s) p in
      let e₂ : b₂ ≡ sets b₁ at s = y.buffer ∙ stored_in b₁ at s (omega arith) in
      let l₂ : length b₂ ≡ length b = ap length e₂ ∙ length-sets b₁ at s ∙ l₁ in
      let e₃ : b₃ ≡ sets b₂ end zs = z.buffer ∙ stored_in b₂ end zs (omega arith) in
      let c₂ : b₂ ≡ sets (sets b at s) (at + length s) p = e₂ ∙ ap (λ (y : List ℕ). sets y at s) e₁ ∙ sets_comm s p b at (at + length s) (omega arith) in
      let ep : end ≡ at + length s + length p = omega arith in
      let c₃ : b₃ ≡ sets (sets b at s) (at + length s) (p ++ zs) =
      e₃ ∙ ap₂ (λ (y : List ℕ) (k : ℕ). sets y k zs) c₂ ep ∙ sym (sets_append p (sets b at s) (at + length s) zs) in
      let c₄ : b₃ ≡ sets b at (s ++ (p ++ zs)) = c₃ ∙ sym (sets_append s b at (p ++ zs)) in
      let t : length (take at b) ≡ at = length-take-le at b (omega arith) in
      let et : 0 + length (take at b) ≡ at = omega arith in
      let c₅ : sets b 0 (take at b ++ (s ++ (p ++ zs))) ≡ sets b at (s ++ (p ++ zs)) =
      sets_append (take at b) b 0 (s ++ (p ++ zs)) ∙ ap₂ (λ (y : List ℕ) (k : ℕ). sets y k (s ++ (p ++ zs))) (sets_same b at (omega arith)) et in
      c₄ ∙ sym c₅ ∙ ap (λ (k : ℕ). sets b 0 (take at b ++ (s ++ (p ++ replicate k 0)))) e
