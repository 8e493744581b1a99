-- Laws of a check that goes from line to line: what the lines from a place on give is what the whole gives.
use Rattle.std.specs.Prelude.{Some, Option, None}
use mathlib.Core.Path.{◌≡◌, sym, ap, ◌∙◌}
use mathlib.Core.List.{List}
use Prim.Native.Nat.{ℕ, ◌+◌, ◌<◌, ◌≤◌}
use native.Mathlib.Numerals.{add-one}
use native.Mathlib.Omega.{arith}
use lib.ListN.{length, drop}
use Rattle.scan.specs.Line.{line_at, next_line}
use Rattle.template.specs.Lines.{lines_of}
use Rattle.template.specs.Walk.{or_else, walk}
use Rattle.template.proofs.LineLaws.{lines_none, lines_more}

module _ {S : Type 0} (step : S → List ℕ → Option S) (finish : S → ℕ → Option ℕ) (t : List ℕ) (at n : ℕ) (s : S) {w : (Option ℕ)} (inv : walk step finish s n (lines_of (drop at t)) ≡ w) where
  pub walk_end : length t ≤ at → finish s n ≡ w
  unfolding walk
  walk_end h = sym (ap (walk step finish s n) (lines_none t at h)) ∙ inv

  module _ (line : List ℕ) (inside : at < length t) (e : line ≡ line_at t at) where
    pub walk_here : step s line ≡ None → Some (n + 1) ≡ w
    unfolding walk or_else
    walk_here q = rw (add-one n) (sym (rw (lines_more t at inside, ← e, q)) ∙ inv)

    pub walk_later : (s' : S) → step s line ≡ Some s' → walk step finish s' (n + 1) (lines_of (drop (at + (length line + 1)) t)) ≡ w
    unfolding walk or_else
    walk_later s' q =
        let l : at + (length line + 1) ≡ next_line t at = omega (arith, ap length e) in
        rw (l, add-one n) (sym (rw (lines_more t at inside, ← e, q)) ∙ inv)
