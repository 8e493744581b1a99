-- Classes of bytes, and runs of bytes of one class.
use Rattle.std.specs.Prelude.{Bool, not, cond, ◌&&◌, ◌||◌, List, [], ◌∷◌, ℕ, leb, eqb}
use Prim.Native.Char.{code}
use Rattle.scan.specs.declared.run.Class.{Class}
use Rattle.scan.specs.declared.run.Class.TheVariants.{Allowed, InLine, InString, InName, Digit, Unbraced}

abbrev pub in_range : ℕ → ℕ → ℕ → Bool
in_range b low high = leb low b && leb b high

unfoldable pub belongs : Class → ℕ → Bool
-- "each 0x20–0x7E or 0x0A"
belongs Allowed b = eqb b 10 || in_range b 32 126
-- "the run of template bytes up to its line end 0x0A"
belongs InLine b = not (eqb b 10)
-- "bytes without a quote"
belongs InString b = not (eqb b (code "\""))
-- "A–Z, 0–9"
belongs InName b = in_range b (code "A") (code "Z") || in_range b (code "0") (code "9")
belongs Digit b = in_range b (code "0") (code "9")
-- neither brace: "other braces in text and headings, outside a field's string, are refused"
belongs Unbraced b = not (eqb b (code "{") || eqb b (code "}"))

-- the longest run of bytes of the class at the front of s
unfoldable pub span : Class → List ℕ → List ℕ
span class [] = []
span class (b ∷ s) = cond (belongs class b) (b ∷ span class s) []
