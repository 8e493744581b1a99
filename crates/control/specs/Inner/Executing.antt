-- What the contracts of lines say.
use Rattle.std.specs.Prelude.{◌≡◌, List, ℕ, ◌+◌, ◌≤◌, ◌<◌, length, Result}
use Rattle.scan.specs.Line.{window}
use Rattle.cells.specs.Cell.{Cell}
use Rattle.cells.specs.Inner.Index as I
use Rattle.meaning.specs.Answer.{Answer}
use Rattle.meaning.specs.Each.{Each}
use Rattle.meaning.specs.Meaning.{Meaning}
use Rattle.meaning.specs.declared.question.Question.{Question}
use Rattle.values.specs.declared.scene.Scene.{Scene}
use Rattle.values.specs.Machine.{Machine}
use Rattle.values.specs.Source.{answers}
use Rattle.values.specs.Inner.State.{decimals_in, headings_in, tables_in, Held, machine}
use Rattle.arguments.specs.declared.argument.Argument.{Argument}
use Rattle.lines.specs.declared.command.Line.{Line}
use Rattle.lines.specs.declared.command.Line.TheVariants.{BeginTable}
use Rattle.pages.specs.Inner.Packed.{headings_of}
use Rattle.lines.specs.Inner.Sound as parsed
use Rattle.control.specs.Inner.Going.{scene_of}
use Rattle.control.specs.Inner.Remembering.{Remembered}
use Rattle.control.specs.declared.state.Flow.{Flow}
use Rattle.control.specs.Inner.Held.{state_of}
use Rattle.control.specs.State.{State}
use Rattle.control.specs.Inner.Sound.{Fit, Sound}
use Rattle.meaning.specs.Number.{ended_in}
use Rattle.meaning.specs.Inner.Place.{Does}
use Rattle.meaning.specs.declared.end.Stop.{Stop}
use Rattle.values.specs.declared.log.Log.{Log}
use Rattle.values.specs.Inner.Logged.{filled_to}

-- the store's bytes as a source of answers
abbrev pub source_of : List ℕ → Question → Answer
source_of b q = answers b (length b) q

-- the index serves the store
pub record Kept (b index : List ℕ) : Type 0 where
  pub cells : List Cell
  pub ready : I.Ready b (length b) index (length index) cells

abbrev pub state_at : List ℕ → Held → Flow → State
state_at b h f = state_of (source_of b) h f

-- the machine as the arguments of a line see it
abbrev pub machine_in : List ℕ → Held → Scene → Machine
machine_in b h s = machine (source_of b) h s

-- as many rows
abbrev pub SameRows : Held → Held → Type 0
SameRows h h' = (length h'.rows ≡ length h.rows) × (length (tables_in h'.words) ≡ length (tables_in h.words))

-- From the flow f, with a text filled up to u, m led to f' and ended in r, with `most` questions at most, and to h' in the lent rows.
pub record Executes (most : ℕ) (m : Meaning State) (b : List ℕ) (h : Held) (f : Flow) (T : List ℕ) (u : ℕ) (log : Log) (h' : Held) (f' : Flow) (T' : List ℕ) (u' : ℕ) (log' : Log) (r : Result (Unit {0}) Stop) : Type 0 where
  pub does : Does (source_of b) m (filled_to T u log f.page.number) (filled_to T' u' log' f'.page.number) (ended_in (λ _. state_at b h' f') r)
  pub few : log'.asked ≤ log.asked + most
  pub rows : SameRows h h'

-- What a line requires: a store in form with its index, a state that holds between lines, room in the log for all that a line
-- may ask.
pub record LineReady (b index : List ℕ) (t : List ℕ) (h : Held) (f : Flow) (T : List ℕ) (u : ℕ) (log : Log) : Type 0 where
  pub kept : Kept b index
  pub stored : length b ≤ 65536
  pub sound : Sound t 50001 (state_at b h f)
  pub inside : f.at < length t
  pub rows : length h.rows ≡ 99
  pub table_words : length (tables_in h.words) ≡ 20
  pub remembered : Remembered t h.words
  pub room : u ≤ length T
  pub places : log.asked + 332 ≤ 512

-- What a line in its form requires, behind it and its arguments.
pub record FormReady (body b index : List ℕ) (t : List ℕ) (h : Held) (scene : Scene) (start : ℕ) (f : Flow) (form : Line) (T : List ℕ) (u : ℕ) (log : Log) : Type 0 where
  pub kept : Kept b index
  pub stored : length b ≤ 65536
  pub scened : scene ≡ scene_of (tables_in h.words) f scene.number
  pub parsed : parsed.Sound body form
  pub within : window t start (length body) ≡ body
  pub short : length body ≤ 132
  pub template : length t ≤ 32768
  pub placed : start ≤ 32768
  pub numbered : (1 ≤ scene.number) × (scene.number ≤ 32769)
  pub few : f.line ≤ 65536
  pub datasource : f.datasource ≤ 35
  pub tables : f.depth ≤ 5
  pub room_for_table : (x : Argument) → form ≡ BeginTable x → f.depth ≤ 4
  pub page : f.page.number ≤ 50001
  pub row : f.page.row ≤ 61
  pub decimals : length (decimals_in h.numbers) ≡ 99
  pub rows : length h.rows ≡ 99
  pub table_words : length (tables_in h.words) ≡ 20
  pub headings : length (headings_in h.words) ≡ 9
  pub heads : Each (Fit t) (headings_of (headings_in h.words))
  pub remembered : Remembered t h.words
  pub room : u ≤ length T
  pub places : log.asked + 330 ≤ 512
