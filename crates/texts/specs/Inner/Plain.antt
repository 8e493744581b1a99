-- The bytes of a text up to the next brace, taken at once.
use Rattle.std.specs.Prelude.{List, [], ◌∷◌, ℕ, drop}
use Rattle.scan.specs.declared.run.Class.TheVariants.{Unbraced}
use Rattle.scan.specs.Run.{span}
use Rattle.texts.specs.declared.text.Piece.{Piece}
use Rattle.texts.specs.declared.text.Piece.TheVariants.{Byte}

-- the bytes from a place on up to the next brace
unfoldable pub plain_run : List ℕ → ℕ → List ℕ
plain_run l at = span Unbraced (drop at l)

-- each of them is a piece (proofs/PlainLaws)
abbrev pub plains : List ℕ → List Piece → List Piece
plains [] ps = ps
plains (b ∷ s) ps = Byte b ∷ plains s ps
