-- The bytes and lines of a template.
use Rattle.std.specs.Prelude.{Bool, true, false, cond, List, [], ◌∷◌, ℕ, ◌+◌, eqb, length, get_or, take, drop}
use Prim.Native.Char.{Char, code}
use Rattle.scan.specs.declared.run.Class.TheVariants.{Allowed, InLine}
use Rattle.scan.specs.Run.{belongs, span}

-- "each 0x20–0x7E or 0x0A"
unfoldable pub all_allowed : List ℕ → Bool
all_allowed [] = true
all_allowed (b ∷ t) = cond (belongs Allowed b) (all_allowed t) false

-- "A line is the run of template bytes up to its line end 0x0A"
abbrev pub line_of : List ℕ → List ℕ
line_of t = span InLine t

-- the line that starts at a place of the template
abbrev pub line_at : List ℕ → ℕ → List ℕ
line_at t at = line_of (drop at t)

-- where the next line starts: behind the line end
abbrev pub next_line : List ℕ → ℕ → ℕ
next_line t at = at + length (line_at t at) + 1

-- the byte at a place of a line; 0, which no form has, behind its end
unfoldable pub byte_at : List ℕ → ℕ → ℕ
byte_at l at = get_or l at 0

abbrev pub byte_is : List ℕ → ℕ → Char → Bool
byte_is l at c = eqb (byte_at l at) (code c)

-- at most n bytes of a line from a place on
abbrev pub window : List ℕ → ℕ → ℕ → List ℕ
window l at n = take n (drop at l)
