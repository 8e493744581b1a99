-- Laws of the search for a matching line: from a place on, what the whole gives.
use Rattle.std.specs.Prelude.{Option, Some, None}
use mathlib.Core.Path.{◌≡◌, refl, sym, ap, ◌∙◌}
use mathlib.Core.Bool.{Bool, true, false, cond}
use mathlib.Core.List.{List}
use Prim.Native.Nat.{ℕ, zero, suc, ◌+◌, ◌<◌, ◌≤◌, min}
use native.Mathlib.Numerals.{add-one}
use native.Mathlib.Omega.{arith}
use borrow.Author.Tests.{lt-ltb, le-ltb, ltb-true, ltb-false}
use lib.Dec.{ltb}
use lib.ListN.{length, drop}
use Rattle.scan.specs.Line.{line_at}
use Rattle.nesting.specs.declared.Shape.{Shape}
use Rattle.template.specs.declared.seek.Sought.{Sought}
use Rattle.template.specs.declared.seek.Role.{Role}
use Rattle.template.specs.declared.seek.Role.TheVariants.{Opens, Closes, Divides, Passes}
use Rattle.template.specs.declared.seek.Skip.{Skip}
use Rattle.template.specs.Lines.{lines_of}
use Rattle.template.specs.Shape.{word_shape}
use Rattle.template.specs.Seek.{role_of, way_past, or_skip, skip_from, cut_to, skipped}
use Rattle.template.proofs.LineLaws.{lines_none, lines_more}

pub past_bound : (role : Role) (d k : ℕ) → way_past role d ≡ Some k → k ≤ d + 1
unfolding way_past
past_bound Opens d k e = let x : suc d ≡ k = cc in omega arith
past_bound Closes zero k e = let z : ◌≡◌ {A = ℕ} 0 1 = cc in absurd (omega arith)
past_bound Closes (suc d) k e = let x : d ≡ k = cc in omega arith
past_bound Divides zero k e = let z : ◌≡◌ {A = ℕ} 0 1 = cc in absurd (omega arith)
past_bound Divides (suc d) k e = let x : suc d ≡ k = cc in omega arith
past_bound Passes d k e = let x : d ≡ k = cc in omega arith

-- ---- the part as a whole

module _ (t : List ℕ) (q : Sought) where
  pub skip_nothing : 32768 < length t → record { bytes = 0; lines = 0 } ≡ skipped t q
  unfolding skipped
  skip_nothing h = rw (lt-ltb 32768 (length t) h)

  module _ (h : length t ≤ 32768) (k : Skip) (e : k ≡ skip_from q 0 0 0 (lines_of t)) where
    pub skip_cut : (n : ℕ) → n ≡ min k.bytes (length t) → record { bytes = n; lines = k.lines } ≡ skipped t q
    unfolding skipped cut_to
    skip_cut n m = rw (le-ltb 32768 (length t) h, ← e) (go (ltb (length t) k.bytes) refl)
      where
        go : (p : Bool) → ltb (length t) k.bytes ≡ p → record { bytes = n; lines = k.lines } ≡ cond p (record { bytes = length t; lines = k.lines }) k
        go true l = let x : n ≡ length t = omega (arith, ltb-true _ _ l) in ap (λ (b : ℕ). record { bytes = b; lines = k.lines }) x
        go false l = let x : n ≡ k.bytes = omega (arith, ltb-false _ _ l) in ap (λ (b : ℕ). record { bytes = b; lines = k.lines }) x

-- ---- the loop

module _ (t : List ℕ) (q : Sought) (d at n : ℕ) {w : Skip} (inv : skip_from q d at n (lines_of (drop at t)) ≡ w) where
  pub skip_end : length t ≤ at → record { bytes = at; lines = n } ≡ w
  unfolding skip_from
  skip_end h = sym (ap (skip_from q d at n) (lines_none t at h)) ∙ inv

  module _ (line : List ℕ) (shape : Shape) (role : Role) (way : Option ℕ) (inside : at < length t) (e : line ≡ line_at t at) (o : shape ≡ word_shape line) (r : role ≡ role_of q shape) (p : way ≡ way_past role d) where
    next_place : at + (length line + 1) ≡ at + length line + 1
    next_place = omega arith

    pub skip_here : way ≡ None → record { bytes = at + (length line + 1); lines = n + 1 } ≡ w
    unfolding skip_from or_skip
    skip_here k = rw (next_place, add-one n) (sym (rw (lines_more t at inside, ← e, ← o, ← r, ← p, k)) ∙ inv)

    pub skip_on : (m : ℕ) → way ≡ Some m → skip_from q m (at + (length line + 1)) (n + 1) (lines_of (drop (at + (length line + 1)) t)) ≡ w
    unfolding skip_from or_skip
    skip_on m k = rw (next_place, add-one n) (sym (rw (lines_more t at inside, ← e, ← o, ← r, ← p, k)) ∙ inv)
