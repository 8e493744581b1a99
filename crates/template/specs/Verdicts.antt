-- "2–5 name the first line at fault".
use Rattle.std.specs.Prelude.{Bool, cond, ◌&&◌, List, [], ◌∷◌, ℕ, suc, leb, ltb, length, Option, Some, None, Result, Ok, Err}
use Rattle.meaning.specs.declared.refusal.Refusal.{Refusal}
use Rattle.scan.specs.Line.{all_allowed}
use Rattle.template.specs.Lines.{lines_of}

-- the first of some lines, counted from n, that a check turns away
unfoldable pub first_fault : (List ℕ → Bool) → ℕ → List (List ℕ) → Option ℕ
first_fault passes n [] = None
first_fault passes n (l ∷ ls) = cond (passes l) (first_fault passes (suc n) ls) (Some n)

-- a check's verdict as the code hands it back: the refusal with the line at fault, or nothing
unfoldable pub fault_refused : Refusal → Option ℕ → Result Unit (Refusal × ℕ)
fault_refused e None = Ok tt
fault_refused e (Some line) = Err (e, line)

-- "each 0x20–0x7E or 0x0A"; "at most 132"
unfoldable pub line_allowed : List ℕ → Bool
line_allowed l = leb (length l) 132 && all_allowed l

-- "A template has at most 32,768 bytes"
unfoldable pub bytes_check : List ℕ → Option ℕ
bytes_check t = cond (ltb 32768 (length t)) (Some 0) (first_fault line_allowed 1 (lines_of t))
