-- Checks 3 to 5.
use Rattle.std.specs.Prelude.{Bool, true, false, cond, List, [], ◌∷◌, ℕ, ◌+◌, eqb, length, take, Some, None, Option, Result, Ok, Err}
use Rattle.template.specs.Name.{name_of, same_bytes}
use Rattle.meaning.specs.declared.refusal.Refusal.{Refusal}
use Rattle.meaning.specs.declared.refusal.Refusal.TheVariants.{BadLine, BadNesting}
use Rattle.template.specs.Lines.{lines_of}
use Rattle.template.specs.Verdicts.{first_fault}
use Rattle.template.specs.Walk.{walk}
use Rattle.template.specs.Shape.{shape_of, is_formed}
use Rattle.nesting.specs.Nest.{Mark, behind, all_closed}

-- 3
unfoldable pub form_check : List ℕ → Option ℕ
form_check t = first_fault is_formed 1 (lines_of t)

-- 4: what is open, from line to line
unfoldable pub nest_step : List Mark → List ℕ → Option (List Mark)
nest_step s l = behind (shape_of l) s

-- "open at .. the last line, which is named"
unfoldable pub nest_end : List Mark → ℕ → Option ℕ
nest_end s n = cond (all_closed s) None (Some n)

unfoldable pub nest_check : List ℕ → Option ℕ
nest_check t = walk nest_step nest_end [] 0 (lines_of t)

-- "Checks 2–5 each cover the whole template, then the next": the verdict of 3, then that of 4
unfoldable pub form_before_nesting : Option ℕ → Option ℕ → Result Unit (Refusal × ℕ)
form_before_nesting (Some n) v = Err (BadLine, n)
form_before_nesting None (Some n) = Err (BadNesting, n)
form_before_nesting None None = Ok tt

-- whether one of some lines is the section of a name
unfoldable pub has_name : List ℕ → List (List ℕ) → Bool
has_name name [] = false
has_name name (l ∷ ls) = cond (same_bytes name (name_of l)) true (has_name name ls)

-- a line that isn't $SEC has the empty name
unfoldable pub came_before : List ℕ → List (List ℕ) → Bool
came_before name ls = cond (eqb (length name) 0) false (has_name name ls)

-- 5: "A section name came before; the later line is named": the state is how many lines came before
unfoldable pub name_step : List ℕ → ℕ → List ℕ → Option ℕ
name_step t n l = cond (came_before (name_of l) (take n (lines_of t))) None (Some (n + 1))

unfoldable pub name_end : ℕ → ℕ → Option ℕ
name_end s n = None

unfoldable pub name_check : List ℕ → Option ℕ
name_check t = walk (name_step t) name_end 0 0 (lines_of t)
