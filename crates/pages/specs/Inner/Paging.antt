-- What the contracts of lines on pages say.
use Rattle.std.specs.Prelude.{◌≡◌, Bool, true, List, [], ◌∷◌, ℕ, ◌+◌, ◌≤◌, ◌<◌, length, Result}
use Rattle.meaning.specs.Answer.{Answer}
use Rattle.meaning.specs.Inner.Place.{at, Does}
use Rattle.meaning.specs.declared.question.Question.{Question}
use Rattle.texts.specs.Readers.Text.{text_fits}
use Rattle.values.specs.declared.scene.Scene.{Scene}
use Rattle.pages.specs.declared.page.Page.{Page}
use Rattle.pages.specs.declared.heading.Heading.{Heading}
use Rattle.texts.specs.Pieces.{pieces_of, field_count}
use Rattle.pages.specs.Page.{break_meaning, turn_meaning, line_step}
use Rattle.pages.specs.Inner.Listing.{Due, says_on, shown, bytes_of}
use Rattle.pages.specs.Inner.Pass.{Lent, machine_of, Sourced}
use Rattle.meaning.specs.Number.{ended_in}
use Rattle.meaning.specs.declared.end.Stop.{Stop}
use Rattle.values.specs.declared.log.Log.{Log}
use Rattle.values.specs.Inner.Logged.{filled_to}

-- what a line is executed in on a page, where it names line k
abbrev pub scene_on : Scene → Page → ℕ → Scene
scene_on s p k = record { datasource = s.datasource; page = p.number; row = p.row; number = k; turn = s.turn }

-- a break asks nothing, so that its contract speaks of any answers
pub record TurnReady (p : Page) (text : List ℕ) (n : ℕ) : Type 0 where
  pub room : n ≤ length text
  pub number : p.number < 4294967295
  pub row : p.row ≤ 61

pub record Breaks (due : ℕ) (feeds : Bool) (p : Page) (text : List ℕ) (n : ℕ) (p' : Page) (text' : List ℕ) (n' : ℕ) (r : Result (Unit {0}) Stop) : Type 0 where
  pub does : (source : Question → Answer) (log : List Question) (a places : ℕ) → Does source (break_meaning due feeds p) (at text n log a places p.number) (at text' n' log a places p'.number) (ended_in (λ _. p') r)
  pub row : p'.row ≤ 61
  pub kept : length text' ≡ length text
  pub room : n' ≤ length text

pub record Turns (due : ℕ) (feeds : Bool) (p : Page) (text : List ℕ) (n : ℕ) (p' : Page) (text' : List ℕ) (n' : ℕ) (r : Result (Unit {0}) Stop) : Type 0 where
  pub does : (source : Question → Answer) (log : List Question) (a places : ℕ) → Does source (turn_meaning due feeds p) (at text n log a places p.number) (at text' n' log a places p'.number) (ended_in (λ _. p') r)
  pub row : p'.row ≤ 61
  pub kept : length text' ≡ length text
  pub room : n' ≤ length text

-- all lines of a list fit, and how many fields they have
abbrev pub AllFit : List Due → Type 0
AllFit [] = Unit {0}
AllFit (d ∷ ds) = (text_fits d.bytes d.from ≡ true) × AllFit ds

abbrev pub fields_in : List Due → ℕ
fields_in [] = 0
fields_in (d ∷ ds) = field_count (pieces_of d.bytes d.from) + fields_in ds

-- what the lines ds, each a part of the template t, require on a page
pub record LinesReady (x : Lent) (s : Scene) (p : Page) (t : List ℕ) (ds : List Due) (text : List ℕ) (m : ℕ) (log : Log) : Type 0 where
  pub fit : AllFit ds
  pub logged : log.asked + fields_in ds ≤ 512
  pub short_template : length t ≤ 65536
  pub short_store : length x.store ≤ 65536
  pub datasource : s.datasource ≤ 35
  pub room : m ≤ length text
  pub row : p.row + length ds ≤ 62

-- the lines ds were said one after the other
pub record SaysLines (x : Lent) (s : Scene) (p : Page) (ds : List Due) (text : List ℕ) (m : ℕ) (log : Log) (p' : Page) (text' : List ℕ) (m' : ℕ) (log' : Log) (r : Result (Unit {0}) Stop) : Type 0 where
  pub does : Sourced x (λ source. Does source (says_on (machine_of x s source) ds p) (filled_to text m log p.number) (filled_to text' m' log' p'.number) (ended_in (λ _. p') r))
  pub few : log'.asked ≤ log.asked + fields_in ds
  pub kept : length text' ≡ length text
  pub room : m' ≤ length text

-- What the step requires: the line and its headings have a form and fit, there are places in the log for all their fields, and
-- limits that the checks of the template and of the store give, and that a run of 50,000 lines keeps.
pub record StepReady (x : Lent) (s : Scene) (p : Page) (t : List ℕ) (hs : List Heading) (line : Heading) (text : List ℕ) (m : ℕ) (log : Log) : Type 0 where
  pub heads : AllFit (shown t line.number hs)
  pub fits : text_fits (bytes_of t line) line.from ≡ true
  pub logged : log.asked + fields_in (shown t line.number hs) + field_count (pieces_of (bytes_of t line) line.from) ≤ 512
  pub first : line.from ≡ 0
  pub short_template : length t ≤ 65536
  pub short_store : length x.store ≤ 65536
  pub datasource : s.datasource ≤ 35
  pub room : m ≤ length text
  pub row : p.row ≤ 61
  pub number : p.number < 4294967295

pub record Steps (x : Lent) (s : Scene) (p : Page) (t : List ℕ) (hs : List Heading) (feeds : Bool) (line : Heading) (text : List ℕ) (m : ℕ) (log : Log) (p' : Page) (text' : List ℕ) (m' : ℕ) (log' : Log) (r : Result (Unit {0}) Stop) : Type 0 where
  pub does : Sourced x (λ source. Does source (line_step (machine_of x s source) t line.number feeds hs (bytes_of t line) p) (filled_to text m log p.number) (filled_to text' m' log' p'.number) (ended_in (λ _. p') r))
  pub few : log'.asked ≤ log.asked + fields_in (shown t line.number hs) + field_count (pieces_of (bytes_of t line) line.from)
  pub kept : length text' ≡ length text
  pub room : m' ≤ length text
