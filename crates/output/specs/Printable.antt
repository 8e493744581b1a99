-- What may stand in a text.
use Rattle.std.specs.Prelude.{◌≡◌, List, [], ◌∷◌, ◌++◌, ℕ, ◌≤◌}
use Rattle.meaning.specs.Each.{Each}
use Rattle.meaning.specs.Event.{Event, line, break}

-- "0x20–0x7E"
pub record Printable (b : ℕ) : Type 0 where
  pub least : 32 ≤ b
  pub most : b ≤ 126

-- bytes of one line: no line end and no form feed among them
abbrev pub Clean : List ℕ → Type 0
Clean s = Each Printable s

-- "Each printed line ends with 0x0A": its last byte, and no other
pub record OneLine (b : List ℕ) : Type 0 where
  pub text : List ℕ
  pub a_line_end : b ≡ text ++ (10 ∷ [])
  pub clean : Clean text

-- "A break writes 0x0C (nothing under $NOFF)"
pub data FormFeed : List ℕ → Type 0 where
  fed : FormFeed (12 ∷ [])
  silent : FormFeed []

abbrev pub Proper : Event → Type 0
Proper (line b) = OneLine b
Proper (break b) = FormFeed b
