-- Jumps that are remembered: where a word has the mark of a jump, it holds the skip that a search would find.
use mathlib.Core.Path.{◌≡◌, refl, sym, ap, ◌∙◌, subst}
use mathlib.Core.List.{List}
use Prim.Native.Nat.{ℕ, ◌+◌, ◌*◌, ◌-◌, ◌/◌, ◌%◌, ◌≤◌, ◌<◌}
use native.Mathlib.Omega.{arith}
use lib.ListN.{length, get_or, set, take, drop, length-take}
use Rattle.meaning.specs.Each.{Each}
use Rattle.template.specs.declared.seek.Sought.{Sought}
use Rattle.template.specs.declared.seek.Sought.TheVariants.{Branch, TestEnd, TableEnd}
use Rattle.template.specs.declared.seek.Skip.{Skip}
use Rattle.template.specs.Seek.{skipped}
use Rattle.template.proofs.Reach.{found_inside, part_skip}
use Rattle.values.specs.Inner.State.{jumps_in}
use Rattle.values.specs.Inner.Registers.{Puts}
use Rattle.values.proofs.Lists.{bank_in}
use Rattle.values.proofs.Puts.{puts_in}
use Rattle.values.proofs.Ranges as read
use Rattle.control.specs.declared.state.Flow.{Flow}
use Rattle.control.specs.Inner.Arms.{Jumpable}
use Rattle.control.specs.Inner.Going.{placed_at, jumped_in}
use Rattle.control.specs.Inner.Remembering.{jump_mark, jump_word, skip_in, Holdable, RightJump, Remembered, Remembers}
use Rattle.control.proofs.Ranges.{numbered_each}

-- ---- a word

-- a mark says both the place and what is sought
mark_skip : (t : List ℕ) (at at' : ℕ) (q q' : Sought) → jump_mark at q ≡ jump_mark at' q' → skipped (drop at' t) q' ≡ skipped (drop at t) q
unfolding jump_mark
mark_skip t at at' Branch Branch e = let z : at' ≡ at = omega arith in rw z
mark_skip t at at' Branch TestEnd e = absurd (omega arith)
mark_skip t at at' Branch TableEnd e = absurd (omega arith)
mark_skip t at at' TestEnd Branch e = absurd (omega arith)
mark_skip t at at' TestEnd TestEnd e = let z : at' ≡ at = omega arith in rw z
mark_skip t at at' TestEnd TableEnd e = absurd (omega arith)
mark_skip t at at' TableEnd Branch e = absurd (omega arith)
mark_skip t at at' TableEnd TestEnd e = absurd (omega arith)
mark_skip t at at' TableEnd TableEnd e = let z : at' ≡ at = omega arith in rw z

mark_some : (at : ℕ) (q : Sought) → 1 ≤ jump_mark at q
unfolding jump_mark
mark_some at Branch = omega arith
mark_some at TestEnd = omega arith
mark_some at TableEnd = omega arith

mark_most : (at : ℕ) (q : Sought) → jump_mark at q ≤ at * 4 + 3
unfolding jump_mark
mark_most at Branch = omega arith
mark_most at TestEnd = omega arith
mark_most at TableEnd = omega arith

pub no_jump : (t : List ℕ) → RightJump t 0
no_jump t = record { skip = λ at q e. absurd (omega (arith, mark_some at q)) }

skip_back : (m : ℕ) (k : Skip) → Holdable m k → skip_in (jump_word m k) ≡ k
skip_back m k h =
    let i : ((m * 131072 + k.bytes) * 131072 + k.lines) / 131072 % 131072 ≡ k.bytes = omega (arith, h.bytes, h.lines) in
    let j : ((m * 131072 + k.bytes) * 131072 + k.lines) % 131072 ≡ k.lines = omega (arith, h.lines) in
    λ z. record { bytes = i z; lines = j z }

word_right : (t : List ℕ) (at : ℕ) (q : Sought) (k : Skip) → Holdable (jump_mark at q) k → k ≡ skipped (drop at t) q → RightJump t (jump_word (jump_mark at q) k)
word_right t at q k h e = record {
  skip = λ at' q' i.
      let same : jump_mark at q ≡ jump_mark at' q' = omega (arith, h.bytes, h.lines) in
      mark_skip t at at' q q' same ∙ sym e ∙ sym (skip_back (jump_mark at q) k h);
}

-- ---- the bank

pub remembered_same : {t words words' : List ℕ} → jumps_in words' ≡ jumps_in words → Remembered t words → Remembered t words'
remembered_same {t} e r = record { jumps = subst (Each (RightJump t)) (sym e) r.jumps }

pub remembers_all : {t words : List ℕ} → Remembered t words → Remembers t words words
remembers_all r = record { right = r; others = λ i k h. refl }

slot_right : (t words : List ℕ) (i : ℕ) → i < 64 → Remembered t words → RightJump t (get_or words (148 + i) 0)
slot_right t words i h r =
    let z : 148 + (i + 1 - 1) ≡ 148 + i = omega arith in
    subst (λ (j : ℕ). RightJump t (get_or words j 0)) z (subst (RightJump t) (sym (bank_in 0 words 148 64 (i + 1) (omega arith) (omega arith))) (read.numbered_each (RightJump t) 0 (jumps_in words) (i + 1) (no_jump t) r.jumps))

slot_set : (t words : List ℕ) (i w : ℕ) → i < 64 → RightJump t w → Remembered t words → Remembers t words (set words (148 + i) w)
slot_set t words i w h p r = subst (λ (j : ℕ). Remembers t words (set words (148 + j) w)) z (record { right = record { jumps = subst (Each (RightJump t)) (sym d.own) (numbered_each (RightJump t) (jumps_in words) (i + 1) w p r.jumps) }; others = d.below })
  where
    z : i + 1 - 1 ≡ i
    z = omega arith

    d : Puts words 148 64 (i + 1) w (set words (148 + (i + 1 - 1)) w)
    d = puts_in words 148 64 (i + 1) w w (omega arith) (omega arith) refl

-- ---- a jump

pub known_sums : (t words : List ℕ) (f : Flow) → Jumpable t words f → f.at ≤ length t → (w : ℕ) (k : Skip) → k ≡ skip_in w → (f.at + k.bytes ≤ 262144) × (f.line + k.lines ≤ 262144)
known_sums t words f h i w k e = rw e (omega (arith, h.short), omega (arith, h.few))

module _ (t words : List ℕ) (f : Flow) (q : Sought) (h : Jumpable t words f) where
  module _ (m : ℕ) (e : m ≡ jump_mark f.at q) where
    -- one that is remembered
    pub jumped_known : get_or words (148 + f.at % 64) 0 / 17179869184 ≡ m → (k : Skip) → k ≡ skip_in (get_or words (148 + f.at % 64) 0) → (r : Flow) → r ≡ placed_at f (f.at + k.bytes) (f.line + k.lines) → (r ≡ jumped_in t f q) × Remembers t words words
    jumped_known i k j r l =
        (l ∙ ap (λ (x : Skip). placed_at f (f.at + x.bytes) (f.line + x.lines)) (j ∙ sym ((slot_right t words (f.at % 64) (omega arith) h.remembered).skip f.at q (i ∙ e))), remembers_all h.remembered)

    module _ (inside : f.at ≤ length t) (k : Skip) (found : k ≡ skipped (take (length t - f.at) (drop f.at t)) q) where
      pub jump_holdable : Holdable m k
      jump_holdable =
          let i = found_inside (take (length t - f.at) (drop f.at t)) q k found in
          let l = length-take (length t - f.at) (drop f.at t) in
          record { mark = omega (arith, e, mark_most f.at q, inside, h.short); bytes = omega (arith, i.bytes, h.short, l); lines = omega (arith, i.bytes, i.lines, h.short, l) }

      pub found_sums : (f.at + k.bytes ≤ 262144) × (f.line + k.lines ≤ 262144)
      found_sums = (omega (arith, jump_holdable.bytes, inside, h.short), omega (arith, jump_holdable.lines, h.few))

      -- one that was looked for
      pub jumped_found : (w : ℕ) → w ≡ jump_word m k → (r : Flow) → r ≡ placed_at f (f.at + k.bytes) (f.line + k.lines) → (r ≡ jumped_in t f q) × Remembers t words (set words (148 + f.at % 64) w)
      jumped_found w i r l =
          let s = part_skip t q f.at k found in
          let p : RightJump t (jump_word (jump_mark f.at q) k) = word_right t f.at q k (subst (λ (x : ℕ). Holdable x k) e jump_holdable) s in
          (l ∙ ap (λ (x : Skip). placed_at f (f.at + x.bytes) (f.line + x.lines)) s, slot_set t words (f.at % 64) w (omega arith) (subst (RightJump t) (sym (i ∙ ap (λ (x : ℕ). jump_word x k) e)) p) h.remembered)
