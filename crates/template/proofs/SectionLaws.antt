-- Laws of the search for a section: from a place on, what the whole gives.
use Rattle.std.specs.Prelude.{Option, Some, None}
use mathlib.Core.Path.{◌≡◌, sym, ap, ◌∙◌}
use mathlib.Core.Bool.{Bool, true, false}
use mathlib.Core.List.{List, []}
use Prim.Native.Nat.{ℕ, ◌+◌, ◌<◌, ◌≤◌}
use native.Mathlib.Numerals.{add-one}
use native.Mathlib.Omega.{arith}
use borrow.Author.Tests.{eq-eqb, ne_eqb}
use lib.ListN.{length, drop}
use Rattle.scan.specs.Line.{line_at, next_line}
use Rattle.template.specs.Lines.{lines_of}
use Rattle.template.specs.Sections.{selects, section_from, end_at, section_end}
use Rattle.template.specs.Inner.Within.{Within}
use Rattle.template.proofs.LineLaws.{lines_none, lines_more}

module _ (t name : List ℕ) (at n : ℕ) {w : (Option (ℕ × ℕ))} (inv : section_from name at n (lines_of (drop at t)) ≡ w) where
  pub section_none : length t ≤ at → None ≡ w
  unfolding section_from
  section_none h = sym (ap (section_from name at n) (lines_none t at h)) ∙ inv

  module _ (line : List ℕ) (inside : at < length t) (e : line ≡ line_at t at) (b : Bool) (q : b ≡ selects name line) where
    pub section_here : b ≡ true → Some (at, n + 1) ≡ w
    unfolding section_from
    section_here k = rw (add-one n) (sym (rw (lines_more t at inside, ← e, ← q, k)) ∙ inv)

    pub section_later : b ≡ false → section_from name (at + (length line + 1)) (n + 1) (lines_of (drop (at + (length line + 1)) t)) ≡ w
    unfolding section_from
    section_later k =
        let l : at + (length line + 1) ≡ next_line t at = omega (arith, ap length e) in
        rw (add-one n, ap (λ (i : ℕ). lines_of (drop i t)) l) (sym (rw (lines_more t at inside, ← e, ← q, k)) ∙ inv)

-- ---- where a section ends

module _ (t name : List ℕ) (at n : ℕ) where
  pub end_of_all : length name ≡ 0 → length t ≡ section_end t name at n
  unfolding section_end
  end_of_all h = rw (eq-eqb (length name) 0 h)

  module _ (h : length name ≡ 0 → ⊥) (line : List ℕ) (e : line ≡ line_at t at) (f : Option (ℕ × ℕ)) (q : f ≡ section_from [] (at + length line + 1) n (lines_of (drop (at + length line + 1) t))) where
    pub end_at_next : (a m : ℕ) → f ≡ Some (a, m) → a ≡ section_end t name at n
    unfolding section_end end_at
    end_at_next a m k = rw (ne_eqb (length name) 0 h, ← e, ← q, k)

    pub end_of_last : f ≡ None → length t ≡ section_end t name at n
    unfolding section_end end_at
    end_of_last k = rw (ne_eqb (length name) 0 h, ← e, ← q, k)

-- ---- what a name selects

pub within_at : (t : List ℕ) (f : Option (ℕ × ℕ)) (a n : ℕ) → Within t f → f ≡ Some (a, n) → (a < length t) × (n ≤ a + 1)
unfolding Within
within_at t f a n w k = rw k at w
