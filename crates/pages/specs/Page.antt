-- The page: breaks, headings, and the lines on it.
use Rattle.std.specs.Prelude.{Bool, cond, List, [], ◌∷◌, ℕ, zero, suc, ◌+◌, ltb, eqb, take, drop, get_or}
use Rattle.meaning.specs.Event.{break}
use Rattle.meaning.specs.Tree.{done, print, bind}
use Rattle.meaning.specs.Meaning.{Meaning}
use Rattle.values.specs.Machine.{Machine}
use Rattle.pages.specs.declared.page.Page.{Page}
use Rattle.pages.specs.declared.heading.Heading.{Heading}
use Rattle.pages.specs.Heading.{no_heading}
use Rattle.pages.specs.Text.{text_meaning}

-- "PAGENUM starts at 1"
abbrev pub new_page : Page
new_page = record { number = 1; row = 1 }

-- "adds 1 to PAGENUM, sets LINENUM to 1"
abbrev pub broken_of : Page → Page
broken_of p = record { number = p.number + 1; row = 1 }

-- "LINENUM is the next line, 1–61"
abbrev pub advanced_of : Page → Page
advanced_of p = record { number = p.number; row = p.row + 1 }

-- the machine, with the page of this moment: "Heading fields are worked out at that moment"
abbrev pub on : Machine → Page → Machine
on m p = record { variables = m.variables; counter = m.counter; datasource = m.datasource; page = p.number; row = p.row }

-- the line l on the page, whose text starts at `from`; refusals name `line`
unfoldable pub say_meaning : Machine → List ℕ → ℕ → ℕ → Page → Meaning Page
say_meaning m l from line p = bind (text_meaning (on m p) l from line) (λ _. done (advanced_of p))

-- a heading's $PH line in the template, and where its text starts in it: "undefined ones blank"
unfoldable pub head_line : List ℕ → Heading → List ℕ
head_line t h = cond (eqb h.number 0) [] (take h.length (drop h.start t))

unfoldable pub head_from : Heading → ℕ
head_from h = cond (eqb h.number 0) 0 h.from

-- "a defined heading's refusal names its $PH line, a blank heading line's the text line due"
unfoldable pub head_number : ℕ → Heading → ℕ
head_number due h = cond (eqb h.number 0) due h.number

unfoldable pub head_meaning : Machine → List ℕ → ℕ → Heading → Page → Meaning Page
head_meaning m t due h p = say_meaning m (head_line t h) (head_from h) (head_number due h) p

-- headings one after the other, "then a blank line"
abbrev pub heads_meaning : Machine → List ℕ → ℕ → List Heading → Page → Meaning Page
heads_meaning m t due [] p = say_meaning m [] 0 due p
heads_meaning m t due (h ∷ hs) p = bind (head_meaning m t due h p) (heads_meaning m t due hs)

-- the highest defined of the first n, 0 if none is
unfoldable pub highest_defined : List Heading → ℕ → ℕ
highest_defined hs zero = 0
highest_defined hs (suc n) = cond (eqb (get_or hs n no_heading).number 0) (highest_defined hs n) (suc n)

-- "A break writes 0x0C (nothing under $NOFF)"; `form_feeds` is false under $NOFF
unfoldable pub break_meaning : ℕ → Bool → Page → Meaning Page
break_meaning due form_feeds p = print (break (cond form_feeds (12 ∷ []) [])) due (done (broken_of p))

-- "Before a text line, LINENUM 61 causes a break"
unfoldable pub turn_meaning : ℕ → Bool → Page → Meaning Page
turn_meaning due form_feeds p = cond (ltb 60 p.row) (break_meaning due form_feeds p) (done p)

-- "if the page has no line yet, headings 1 to the highest defined are printed .. none if none is defined"
unfoldable pub top_meaning : Machine → List ℕ → ℕ → List Heading → Page → Meaning Page
top_meaning m t due hs p =
    cond (eqb p.row 1)
    (cond (eqb (highest_defined hs 9) 0) (done p) (heads_meaning m t due (take (highest_defined hs 9) hs) p))
    (done p)

-- "A break, each heading and the text line itself do this one after another"
unfoldable pub line_step : Machine → List ℕ → ℕ → Bool → List Heading → List ℕ → Page → Meaning Page
line_step m t due form_feeds hs l p =
    bind (turn_meaning due form_feeds p) (λ p₁. bind (top_meaning m t due hs p₁) (λ p₂. say_meaning m l 0 due p₂))
