-- The lines of a template.
use Rattle.std.specs.Prelude.{List, [], ◌∷◌, ℕ, zero, suc, ◌+◌, length, drop}
use Rattle.scan.specs.Line.{line_of}

-- at most n lines: "the run of template bytes up to its line end"; "the last may lack it, and none begins after the final 0x0A"
unfoldable pub lines_within : ℕ → List ℕ → List (List ℕ)
lines_within zero t = []
lines_within (suc n) [] = []
lines_within (suc n) (b ∷ t) = line_of (b ∷ t) ∷ lines_within n (drop (length (line_of (b ∷ t)) + 1) (b ∷ t))

-- a template has no more lines than bytes (proofs/LineLaws:any_count)
unfoldable pub lines_of : List ℕ → List (List ℕ)
lines_of t = lines_within (length t) t
