-- Rows of document 01 and cases at the limits, each computed from the definitions.
use Rattle.std.specs.Prelude.{◌≡◌, refl, Bool, true, List, [], ◌∷◌, ℕ, pos, length, replicate}
use Rattle.meaning.specs.Answer as A
use Rattle.meaning.specs.Answer.{Answer}
use Rattle.meaning.specs.Event.{page_from, later_pages, pages_of}
use Rattle.meaning.specs.Tree.{done, bind, Run, run, halted, cut}
use Rattle.meaning.specs.Meaning.{Meaning}
use Rattle.meaning.specs.declared.question.Question.{Question}
use Rattle.meaning.specs.declared.refusal.Refusal.{Refusal}
use Rattle.meaning.specs.declared.refusal.Overflow.TheVariants.{Output}
use Rattle.scan.specs.Ascii.{ascii}
use Rattle.texts.specs.Readers.Text.{pieces_within, text_pieces}
use Rattle.values.specs.Machine.{Machine}
use Rattle.pages.specs.declared.page.Page.{Page}
use Rattle.pages.specs.declared.heading.Heading.{Heading}
use Rattle.pages.specs.Heading.{no_heading}
use Rattle.texts.specs.Pieces.{or_no_pieces, pieces_of}
use Rattle.pages.specs.Text.{text_meaning}
use Rattle.pages.specs.Page.{new_page, say_meaning, head_line, head_from, head_number, head_meaning, highest_defined, break_meaning, turn_meaning, top_meaning, line_step}

abbrev sample : Machine
sample = record { variables = record { integers = []; decimals = []; strings = []; records = []; entries = [] }; counter = pos 0; datasource = 1; page = 1; row = 1 }

abbrev no_headings : List Heading
no_headings = replicate 9 no_heading

-- heading 2 is defined blank on line 4, heading 1 is not
abbrev second_heading : List Heading
second_heading = no_heading ∷ record { start = 0; length = 5; from = 5; number = 4 } ∷ replicate 7 no_heading

abbrev source : Question → Answer
source q = A.missing

-- text lines one after another, with what headings and what machine there are at each
record TextDue : Type 0 where
  machine : Machine
  number : ℕ
  form_feeds : Bool
  headings : List Heading
  bytes : List ℕ

abbrev lines_meaning : List ℕ → List TextDue → Page → Meaning Page
lines_meaning t [] p = done p
lines_meaning t (d ∷ ds) p = bind (line_step d.machine t d.number d.form_feeds d.headings d.bytes p) (lines_meaning t ds)

-- so many blank text lines, on line 7, in so many bytes of room
abbrev ran : List Heading → ℕ → ℕ → Run Question Refusal ℕ Page
ran hs n room = run source 0 room (lines_meaning (ascii "$PH2 ") (replicate n (record { machine = sample; number = 7; form_feeds = true; headings = hs; bytes = [] })) new_page)

abbrev Rows : Type 0
Rows =
    -- document 01: 60 lines without heading: one page; 61: two
    (length (pages_of (ran no_headings 60 1000).events) ≡ 1)
    × (length (pages_of (ran no_headings 61 1000).events) ≡ 2)
    -- headings 1 and 2, then a blank line: 57 lines are left on the page
    × (length (pages_of (ran second_heading 57 1000).events) ≡ 1)
    × (length (pages_of (ran second_heading 58 1000).events) ≡ 2)
    -- an undefined heading's refusal names the text line due, a defined one's its $PH line, the closing blank line's the text line
    × ((ran second_heading 1 0).end ≡ halted (cut Output) 7)
    × ((ran second_heading 1 1).end ≡ halted (cut Output) 4)
    × ((ran second_heading 1 2).end ≡ halted (cut Output) 7)

-- The rows hold.
pub rows : Rows
unfolding run page_from later_pages pages_of pieces_within text_pieces or_no_pieces pieces_of text_meaning say_meaning head_line head_from head_number head_meaning highest_defined break_meaning turn_meaning top_meaning line_step
rows = (refl, refl, refl, refl, refl, refl, refl)
