-- What a run prints, and the text and the pages that this makes.
use Rattle.std.specs.Prelude.{List, [], ◌∷◌, ◌++◌, ℕ, suc}

-- A line of text, or a page break, each with its bytes. "A break writes 0x0C (nothing under $NOFF)".
pub data Event : Type 0 where
  line : List ℕ → Event
  break : List ℕ → Event

abbrev pub event_bytes : Event → List ℕ
event_bytes (line b) = b
event_bytes (break b) = b

-- The text is the events' bytes, one behind the other.
unfoldable pub joined : List Event → List ℕ
joined [] = []
joined (v ∷ vs) = event_bytes v ++ joined vs

-- How many breaks there are.
unfoldable pub breaks : List Event → ℕ
breaks [] = 0
breaks (line b ∷ vs) = breaks vs
breaks (break b ∷ vs) = suc (breaks vs)

-- The lines printed "to the next break or the run's end".
unfoldable pub page_from : List Event → List (List ℕ)
page_from [] = []
page_from (line b ∷ vs) = b ∷ page_from vs
page_from (break b ∷ vs) = []

-- The pages that start at a break.
unfoldable pub later_pages : List Event → List (List (List ℕ))
later_pages [] = []
later_pages (line b ∷ vs) = later_pages vs
later_pages (break b ∷ vs) = page_from vs ∷ later_pages vs

-- "A page's lines, headings included, are those printed from the run's start or a break to the next break or the run's end,
-- under $NOFF too": each page as the list of its lines.
unfoldable pub pages_of : List Event → List (List (List ℕ))
unfolding later_pages page_from
pages_of vs = page_from vs ∷ later_pages vs
