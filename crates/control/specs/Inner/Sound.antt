-- What holds between the lines of a run of an accepted template: what the code needs, and no part of what a report is.
use Rattle.std.specs.Prelude.{◌≡◌, true, List, [], ◌∷◌, ℕ, suc, ◌≤◌, ◌<◌, length}
use Rattle.nesting.specs.Nest.{Mark, section, test, else_part, table}
use Rattle.texts.specs.Readers.Text.{text_fits}
use Rattle.template.specs.Opening.{OpenBefore, Checks}
use Rattle.meaning.specs.Each.{Each}
use Rattle.values.specs.Machine.{Variables}
use Rattle.commands.specs.declared.table.Table.{Table}
use Rattle.pages.specs.declared.heading.Heading.{Heading}
use Rattle.pages.specs.Page.{head_line, head_from}
use Rattle.control.specs.State.{State}

-- the open tables of the run are the tables among what check 4 has open, and each goes on behind its $BT
abbrev pub Tabled : List ℕ → List Table → List Mark → Type 0
Tabled t ts [] = length ts ≡ 0
Tabled t ts (section ∷ M) = Tabled t ts M
Tabled t ts (test ∷ M) = Tabled t ts M
Tabled t ts (else_part ∷ M) = Tabled t ts M
Tabled t [] (table ∷ M) = ⊥
Tabled t (x ∷ ts) (table ∷ M) = (n : ℕ) × OpenBefore t x.start n (table ∷ M) × (x.line ≡ suc n) × Tabled t ts M

-- where the run stands, by place and number of the line due
pub record Nested (t : List ℕ) (at line : ℕ) (ts : List Table) : Type 0 where
  pub before : ℕ
  pub marks : List Mark
  pub opens : OpenBefore t at before marks
  pub number : line ≡ suc before
  pub tabled : Tabled t ts marks

-- a heading's line was accepted
pub record Fit (t : List ℕ) (h : Heading) : Type 0 where
  pub fits : text_fits (head_line t h) (head_from h) ≡ true
  pub short : length (head_line t h) ≤ 132

-- as many variables as there are
pub record Full (v : Variables) : Type 0 where
  pub integers : length v.integers ≡ 99
  pub decimals : length v.decimals ≡ 99
  pub strings : length v.strings ≡ 99
  pub records : length v.records ≡ 10
  pub entries : length v.entries ≡ 10

-- PAGENUM is at most g
pub record Sound (t : List ℕ) (g : ℕ) (s : State) : Type 0 where
  pub checks : Checks t
  pub nested : s.position.at < length t → Nested t s.position.at s.position.line s.tables
  pub number : s.page.number ≤ g
  pub first_row : 1 ≤ s.page.row
  pub last_row : s.page.row ≤ 61
  pub datasource : s.datasource ≤ 35
  pub variables : Full s.variables
  pub headings : length s.layout.headings ≡ 9
  pub heads : Each (Fit t) s.layout.headings
