-- How texts with fields are spelled: pieces whose bytes, joined, are the text.
use Rattle.std.specs.Prelude.{◌≡◌, List, [], ◌∷◌, ◌++◌, ℕ, ◌+◌, ◌≤◌, length, Option, Some, None}
use Prim.Native.Char.{code}
use Rattle.scan.specs.declared.run.Class.TheVariants.{Digit}
use Rattle.scan.specs.Ascii.{ascii}
use Rattle.scan.specs.Value.{value_of}
use Rattle.arguments.specs.declared.argument.Argument.{Argument}
use Rattle.texts.specs.declared.text.Piece.{Piece}
use Rattle.texts.specs.declared.text.Piece.TheVariants.{Byte, Placed}
use Rattle.grammar.specs.Number.{point, Several, Numbered}
use Rattle.grammar.specs.Argument.{ArgumentSpelled}

-- "`{argument,w}` or `{argument,w.d}`": what stands behind w, "d 0–6"
pub data PlacesSpelled : Option ℕ → List ℕ → Type 0 where
  unsaid : PlacesSpelled None []
  said : (s : List ℕ) → Several Digit 1 1 s → value_of s ≤ 6 → PlacesSpelled (Some (value_of s)) (point ∷ s)

-- a byte, or a field, "w 1–32": "other braces in text and headings, outside a field's string, are refused"
pub data PieceSpelled (at : ℕ) : Piece → List ℕ → Type 0 where
  plain_byte : (b : ℕ) → (b ≡ code "{" → ⊥) → (b ≡ code "}" → ⊥) → PieceSpelled at (Byte b) (b ∷ [])
  field : (a : Argument) (s : List ℕ) (w : ℕ) (x : List ℕ) (p : Option ℕ) (y : List ℕ) → ArgumentSpelled (at + 1) a s → Numbered 32 w x → PlacesSpelled p y → PieceSpelled at (Placed (record { argument = a; width = w; places = p })) (ascii "{" ++ (s ++ (ascii "," ++ (x ++ (y ++ ascii "}")))))

-- the pieces of a text that begins at a place of its line
pub data TextSpelled : ℕ → List Piece → List ℕ → Type 0 where
  end_of_text : (at : ℕ) → TextSpelled at [] []
  piece : (at : ℕ) (p : Piece) (s : List ℕ) (ps : List Piece) (t : List ℕ) → PieceSpelled at p s → TextSpelled (at + length s) ps t → TextSpelled at (p ∷ ps) (s ++ t)
