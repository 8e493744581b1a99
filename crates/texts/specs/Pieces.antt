-- The pieces of an accepted text, and its fields.
use Rattle.std.specs.Prelude.{List, [], ◌∷◌, ℕ, ◌+◌, Option, Some, None}
use Rattle.texts.specs.declared.text.Piece.{Piece}
use Rattle.texts.specs.declared.text.Piece.TheVariants.{Byte, Placed}
use Rattle.texts.specs.Readers.Text.{text_pieces}

-- the pieces of an accepted text, which always has some
unfoldable pub or_no_pieces : Option (List Piece) → List Piece
or_no_pieces (Some ps) = ps
or_no_pieces None = []

-- of the line l, whose text starts at `from`: those that it spells (grammar/proofs/There:pieces_are, text_pieces_law, heading_pieces)
unfoldable pub pieces_of : List ℕ → ℕ → List Piece
pieces_of l from = or_no_pieces (text_pieces l from)

-- how many fields there are
abbrev pub field_count : List Piece → ℕ
field_count [] = 0
field_count (Byte b ∷ ps) = field_count ps
field_count (Placed f ∷ ps) = 1 + field_count ps
