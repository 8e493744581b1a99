-- Each field of a text line and of its headings shows what "Fields: .." defines, and nothing else.
use Rattle.std.specs.Prelude.{◌≡◌, false, cond, List, [], ◌∷◌, ◌++◌, ℕ, Option, Some, None}
use Rattle.meaning.specs.Answer.{Answer}
use Rattle.meaning.specs.Tree.{done, bind, finished, run}
use Rattle.meaning.specs.declared.question.Question.{Question}
use Rattle.texts.specs.declared.text.Field.{Field}
use Rattle.texts.specs.declared.text.Piece.{Piece}
use Rattle.texts.specs.declared.text.Piece.TheVariants.{Byte, Placed}
use Rattle.texts.specs.Pieces.{pieces_of}
use Rattle.fields.specs.Field.{field_of}
use Rattle.values.specs.Machine.{Machine}
use Rattle.values.specs.Worth.{Worth}
use Rattle.pages.specs.declared.page.Page.{Page}
use Rattle.pages.specs.Shown.{shown_value}
use Rattle.pages.specs.Text.{field_values, rendered, is_wrong, any_wrong}
use Rattle.pages.specs.Page.{advanced_of, on, turn_meaning}
use Rattle.pages.specs.Inner.Listing.{turned_page, Due, says_on, lines_due}
use Rattle.control.specs.State.{State, seen, with_page}
use Rattle.control.specs.Line.{line_meaning}
use Rattle.demands.specs.Due.{bytes_due, on_next}

-- a field's bytes: none where w, d or a number is out of its limits, none for a wrong kind
unfoldable pub bytes_in : Field → Worth → Option (List ℕ)
bytes_in f w = cond (is_wrong w) None (field_of f.width f.places (shown_value w))

unfoldable pub both : Option (List ℕ) → Option (List ℕ) → Option (List ℕ)
both (Some a) (Some b) = Some (a ++ b)
both (Some a) None = None
both None b = None

-- the bytes that the pieces make with these values, where those of every field are defined
unfoldable pub defined : List Piece → List Worth → Option (List ℕ)
defined [] ws = Some []
defined (Byte b ∷ ps) ws = both (Some (b ∷ [])) (defined ps ws)
defined (Placed f ∷ ps) [] = None
defined (Placed f ∷ ps) (w ∷ ws) = both (bytes_in f w) (defined ps ws)

-- a line due, with any values that its fields have in a run: 11, or what is printed is defined
abbrev pub Shown : (Question → Answer) → Machine → Due → Type 0
Shown source m d = (places room : ℕ) (ws : List Worth) → (run source places room (field_values m d.bytes d.number (pieces_of d.bytes d.from))).end ≡ finished ws → any_wrong ws ≡ false → defined (pieces_of d.bytes d.from) ws ≡ Some (rendered (pieces_of d.bytes d.from) ws)

-- lines one after another, each on the page of its moment
abbrev pub AllShown : (Question → Answer) → Machine → List Due → Page → Type 0
AllShown source m [] p = Unit {0}
AllShown source m (d ∷ ds) p = Shown source (on m p) d × AllShown source m ds (advanced_of p)

-- the headings, the blank line behind them and the text line that is due in a state, or the text line alone
abbrev pub due_in : List ℕ → State → List Due
due_in t s = lines_due t s.position.line s.layout.headings (bytes_due t s) (turned_page s.page)

-- a text line that is due: what it means is the break and these lines, and their fields are shown as they are defined
pub record TextShown (source : Question → Answer) (t : List ℕ) (s : State) : Type 0 where
  pub means : line_meaning t s ≡ bind (bind (turn_meaning s.position.line s.layout.form_feeds s.page) (λ _. says_on (seen s) (due_in t s) (turned_page s.page))) (λ p. done (with_page (on_next t s) p))
  pub fields_shown : AllShown source (seen s) (due_in t s) (turned_page s.page)
