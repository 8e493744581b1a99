-- A text line with what comes before it, as a list of lines due.
use Rattle.std.specs.Prelude.{Bool, true, false, cond, List, [], ◌∷◌, ◌++◌, ℕ, ◌+◌, ltb, eqb, take, get_or}
use Rattle.meaning.specs.Tree.{done, bind}
use Rattle.meaning.specs.Meaning.{Meaning}
use Rattle.scan.specs.Line.{window}
use Rattle.values.specs.Machine.{Machine}
use Rattle.pages.specs.declared.page.Page.{Page}
use Rattle.pages.specs.declared.heading.Heading.{Heading}
use Rattle.pages.specs.Heading.{no_heading}
use Rattle.pages.specs.Page.{broken_of, advanced_of, say_meaning, head_line, head_from, head_number, highest_defined}

-- "Before a text line, LINENUM 61 causes a break": the page on which what is due stands
abbrev pub turned_page : Page → Page
turned_page p = cond (ltb 60 p.row) (broken_of p) p

-- a line due: its bytes, where its text starts, and the line that its refusal names
pub record Due : Type 0 where
  pub bytes : List ℕ
  pub from : ℕ
  pub number : ℕ

-- lines one after another, each on the page of its moment
abbrev pub says_on : Machine → List Due → Page → Meaning Page
says_on m [] p = done p
says_on m (d ∷ ds) p = bind (say_meaning m d.bytes d.from d.number p) (λ _. says_on m ds (advanced_of p))

-- the headings, then the blank line
abbrev pub heads_due : List ℕ → ℕ → List Heading → List Due
heads_due t due [] = record { bytes = []; from = 0; number = due } ∷ []
heads_due t due (h ∷ hs) = record { bytes = head_line t h; from = head_from h; number = head_number due h } ∷ heads_due t due hs

-- up to the highest defined
abbrev pub shown : List ℕ → ℕ → List Heading → List Due
shown t due hs = heads_due t due (take (highest_defined hs 9) hs)

-- whether they are due: on a page that has no line yet, where one is defined
abbrev pub heads_on : List Heading → Page → Bool
heads_on hs p = cond (eqb p.row 1) (cond (eqb (highest_defined hs 9) 0) false true) false

abbrev pub top_due : List ℕ → ℕ → List Heading → Page → List Due
top_due t due hs p = cond (heads_on hs p) (shown t due hs) []

-- and the text line
abbrev pub text_due : ℕ → List ℕ → Due
text_due due l = record { bytes = l; from = 0; number = due }

abbrev pub lines_due : List ℕ → ℕ → List Heading → List ℕ → Page → List Due
lines_due t due hs l p = top_due t due hs p ++ (text_due due l ∷ [])

-- ---- as the code finds them: each line as a part of the template

abbrev pub bytes_of : List ℕ → Heading → List ℕ
bytes_of t h = window t h.start h.length

abbrev pub due_of : List ℕ → Heading → Due
due_of t h = record { bytes = bytes_of t h; from = h.from; number = h.number }

abbrev pub lines_on : List ℕ → List Heading → Heading → Page → List Due
lines_on t hs line p = top_due t line.number hs p ++ (due_of t line ∷ [])

-- how many lines come before the text line
unfoldable pub lead_of : List Heading → Page → ℕ
lead_of hs p = cond (heads_on hs p) (highest_defined hs 9 + 1) 0

-- a heading, or the blank line that stands for it
unfoldable pub heading_due : ℕ → Heading → Heading
heading_due due h = cond (eqb h.number 0) (record { start = 0; length = 0; from = 0; number = due }) h

-- the k-th line, where `lead` come before the text line
unfoldable pub line_due : List Heading → ℕ → ℕ → Heading → Heading
line_due hs lead k line = cond (ltb k lead) (heading_due line.number (get_or hs k no_heading)) line
