-- Laws of a template's lines from a place on.
use mathlib.Core.Path.{◌≡◌, refl, ap, ◌∙◌}
use mathlib.Core.List.{List, [], ◌∷◌}
use Prim.Native.Nat.{ℕ, zero, suc, ◌+◌, ◌-◌, ◌<◌, ◌≤◌}
use native.Mathlib.Omega.{arith}
use lib.ListN.{length, take, drop, drop_of_length-le, length-drop}
use lib.Seq.{drop-drop, take_all}
use Rattle.scan.specs.Line.{line_of, line_at, next_line}
use Rattle.template.specs.Lines.{lines_within, lines_of}

-- more than the length is enough
enough : (f g : ℕ) (t : List ℕ) → length t ≤ f → length t ≤ g → lines_within f t ≡ lines_within g t
unfolding lines_within
enough zero zero t h h' = refl
enough zero (suc g) [] h h' = refl
enough zero (suc g) (b ∷ t) h h' = absurd (omega arith)
enough (suc f) zero [] h h' = refl
enough (suc f) zero (b ∷ t) h h' = absurd (omega arith)
enough (suc f) (suc g) [] h h' = refl
enough (suc f) (suc g) (b ∷ t) h h' =
    let k = length (line_of (b ∷ t)) + 1 in
    ap (λ (ls : List (List ℕ)). line_of (b ∷ t) ∷ ls) (enough f g (drop k (b ∷ t)) (omega (arith, length-drop k (b ∷ t))) (omega (arith, length-drop k (b ∷ t))))

-- the count of a template's lines is no restriction
pub any_count : (t : List ℕ) (n : ℕ) → length t ≤ n → lines_within n t ≡ lines_of t
unfolding lines_of
any_count t n h = enough n (length t) t h (omega arith)

pub lines_none : (t : List ℕ) (at : ℕ) → length t ≤ at → lines_of (drop at t) ≡ []
unfolding lines_of lines_within
lines_none t at h = rw (drop_of_length-le t h)

first_line : (s : List ℕ) → 0 < length s → lines_of s ≡ line_of s ∷ lines_of (drop (length (line_of s) + 1) s)
unfolding lines_of lines_within
first_line [] h = absurd (omega arith)
first_line (b ∷ t) h =
    let k = length (line_of (b ∷ t)) + 1 in
    ap (λ (ls : List (List ℕ)). line_of (b ∷ t) ∷ ls) (enough (length t) (length (drop k (b ∷ t))) (drop k (b ∷ t)) (omega (arith, length-drop k (b ∷ t))) (omega arith))

pub lines_more : (t : List ℕ) (at : ℕ) → at < length t → lines_of (drop at t) ≡ line_at t at ∷ lines_of (drop (next_line t at) t)
lines_more t at h =
    let e : at + (length (line_at t at) + 1) ≡ next_line t at = omega arith in
    first_line (drop at t) (omega (arith, length-drop at t))
    ∙ ap (λ (r : List ℕ). line_at t at ∷ lines_of r) (drop-drop (length (line_at t at) + 1) at t ∙ ap (λ (n : ℕ). drop n t) e)

-- the part of a template from a place on
pub part_line : (t line : List ℕ) (at : ℕ) → line ≡ line_of (take (length t - at) (drop at t)) → line ≡ line_at t at
part_line t line at e = e ∙ ap line_of (take_all (length t - at) (drop at t) (omega (arith, length-drop at t)))
