-- "The caller's name selects one section; an empty name selects all".
use Rattle.std.specs.Prelude.{Bool, not, cond, List, [], ◌∷◌, ℕ, suc, ◌+◌, eqb, length, drop, Option, Some, None}
use Rattle.scan.specs.Line.{next_line, window}
use Rattle.template.specs.declared.Extent.{Extent}
use Rattle.template.specs.Name.{name_of, same_bytes}
use Rattle.template.specs.Lines.{lines_of}

-- names by their first eight characters, "the caller's may be any bytes"; a line that isn't $SEC has the empty name
unfoldable pub selects : List ℕ → List ℕ → Bool
selects name l = cond (eqb (length name) 0) (not (eqb (length (name_of l)) 0)) (same_bytes (window name 0 8) (name_of l))

-- the first of some lines that a name selects: where it starts, and its number; the first line starts at `at` behind n lines
unfoldable pub section_from : List ℕ → ℕ → ℕ → List (List ℕ) → Option (ℕ × ℕ)
section_from name at n [] = None
section_from name at n (l ∷ ls) = cond (selects name l) (Some (at, suc n)) (section_from name (at + (length l + 1)) (suc n) ls)

-- where the next section starts, or the end
unfoldable pub end_at : List ℕ → Option (ℕ × ℕ) → ℕ
end_at t (Some (at, n)) = at
end_at t None = length t

-- "to the line before the next $SEC (or to the end)"
unfoldable pub section_end : List ℕ → List ℕ → ℕ → ℕ → ℕ
section_end t name at n =
    cond (eqb (length name) 0) (length t) (end_at t (section_from [] (next_line t at) n (lines_of (drop (next_line t at) t))))

-- "from the selected (or first) $SEC line"
unfoldable pub selection_from : List ℕ → List ℕ → Option (ℕ × ℕ) → Option Extent
selection_from t name (Some (at, n)) = Some (record { start = at; line = n; until = section_end t name at n })
selection_from t name None = None

unfoldable pub selected : List ℕ → List ℕ → Option Extent
selected t name = selection_from t name (section_from name 0 0 (lines_of t))
