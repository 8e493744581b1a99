-- The width of a text's pieces.
use Rattle.std.specs.Prelude.{List, [], ◌∷◌, ℕ, ◌+◌}
use Rattle.texts.specs.declared.text.Piece.{Piece}
use Rattle.texts.specs.declared.text.Piece.TheVariants.{Byte, Placed}

-- "With fields at width w"
unfoldable pub width_of : Piece → ℕ
width_of (Byte b) = 1
width_of (Placed f) = f.width

unfoldable pub total_width : List Piece → ℕ
total_width [] = 0
total_width (p ∷ ps) = width_of p + total_width ps
