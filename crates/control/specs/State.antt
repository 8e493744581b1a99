-- What stands between two lines of a run.
use Rattle.std.specs.Prelude.{Bool, true, List, [], ℕ, pos, replicate}
use Rattle.values.specs.Machine.{Variables, Machine}
use Rattle.commands.specs.declared.table.Table.{Table}
use Rattle.commands.specs.Looping.{loop}
use Rattle.pages.specs.declared.page.Page.{Page}
use Rattle.pages.specs.declared.heading.Heading.{Heading}
use Rattle.pages.specs.Heading.{no_heading}

-- the line due, by its place in the template and its number
pub record Position : Type 0 where
  pub at : ℕ
  pub line : ℕ

-- what the pages of a section look like
pub record Layout : Type 0 where
  -- $PH1 to $PH9
  pub headings : List Heading
  -- whether a break writes a form feed: not under $NOFF
  pub form_feeds : Bool

pub record State : Type 0 where
  pub position : Position
  -- IV, FV and SV; what $REC and $TBL were answered
  pub variables : Variables
  -- "the selected datasource"
  pub datasource : ℕ
  -- the open tables, the innermost first
  pub tables : List Table
  pub layout : Layout
  -- PAGENUM and LINENUM
  pub page : Page

-- the machine as an argument sees it
abbrev pub seen : State → Machine
seen s =
    record {
      variables = s.variables;
      counter = pos (loop s.tables);
      datasource = s.datasource;
      page = s.page.number;
      row = s.page.row;
    }

-- ---- a state with one part of it anew

abbrev pub with_position : State → ℕ → ℕ → State
with_position s at line = record { position = record { at = at; line = line }; variables = s.variables; datasource = s.datasource; tables = s.tables; layout = s.layout; page = s.page }

abbrev pub with_variables : State → Variables → State
with_variables s v = record { position = s.position; variables = v; datasource = s.datasource; tables = s.tables; layout = s.layout; page = s.page }

abbrev pub with_datasource : State → ℕ → State
with_datasource s d = record { position = s.position; variables = s.variables; datasource = d; tables = s.tables; layout = s.layout; page = s.page }

abbrev pub with_tables : State → List Table → State
with_tables s ts = record { position = s.position; variables = s.variables; datasource = s.datasource; tables = ts; layout = s.layout; page = s.page }

abbrev pub with_layout : State → List Heading → Bool → State
with_layout s hs f = record { position = s.position; variables = s.variables; datasource = s.datasource; tables = s.tables; layout = record { headings = hs; form_feeds = f }; page = s.page }

abbrev pub with_page : State → Page → State
with_page s p = record { position = s.position; variables = s.variables; datasource = s.datasource; tables = s.tables; layout = s.layout; page = p }

-- ---- what a section starts with

-- "IV and FV to 0, SV to empty", R and T cleared
abbrev pub no_variables : Variables
no_variables =
    record {
      integers = replicate 99 (pos 0);
      decimals = replicate 99 (pos 0);
      strings = replicate 99 [];
      records = replicate 10 [];
      entries = replicate 10 [];
    }

-- no headings, not under $NOFF
abbrev pub no_layout : Layout
no_layout = record { headings = replicate 9 no_heading; form_feeds = true }

-- "Each executed $SEC sets IV and FV to 0, SV to empty, clears R, T and headings, ends $NOFF. Page and datasource go on."
abbrev pub cleared : State → State
cleared s = record { position = s.position; variables = no_variables; datasource = s.datasource; tables = s.tables; layout = no_layout; page = s.page }
