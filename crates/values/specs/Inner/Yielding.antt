-- What the contracts of calls that work out what an argument is worth say.
use Rattle.std.specs.Prelude.{◌≡◌, List, ℕ, ◌+◌, ◌≤◌, ℤ, length, Result, Ok, Err}
use Rattle.meaning.specs.Answer.{Answer}
use Rattle.meaning.specs.Meaning.{Meaning}
use Rattle.meaning.specs.Number.{ended_in}
use Rattle.meaning.specs.Inner.Place.{Does}
use Rattle.meaning.specs.declared.end.Stop.{Stop}
use Rattle.meaning.specs.declared.question.Question.{Question}
use Rattle.cells.specs.declared.Answered.{Answered}
use Rattle.cells.specs.Asking as C
use Rattle.cells.specs.Cell.{Cell}
use Rattle.cells.specs.Inner.Index.{Ready}
use Rattle.arguments.specs.declared.argument.Argument.{Argument}
use Rattle.arguments.specs.declared.index.Index.{Index}
use Rattle.arguments.specs.declared.operand.Operand.{Operand}
use Rattle.arguments.specs.declared.operand.Operand.TheVariants.{Record}
use Rattle.arguments.specs.Inner.CellArgument.{unfiltered}
use Rattle.values.specs.Inner.Texts.{Strings, strings, text_of}
use Rattle.values.specs.declared.log.Log.{Log}
use Rattle.values.specs.declared.scene.Scene.{Scene}
use Rattle.values.specs.Inner.Logged.{filled_to}
use Rattle.values.specs.Source.{answers}
use Rattle.values.specs.Inner.State.{Held, held, machine}
use Rattle.values.specs.declared.worth.Worth as D
use Rattle.values.specs.declared.worth.Worth.TheVariants as W
use Rattle.values.specs.Worth.{Worth, missing, wrong, number, string, answered}
use Rattle.values.specs.Meanings.{operand_meaning, argument_meaning}

-- what a worth of the code stands for
unfoldable pub meant : Strings → D.Worth → Worth
meant s W.Missing = missing
meant s W.Wrong = wrong
meant s (W.Number q) = number q
meant s (W.Text t) = string (text_of s t)

-- The same as `Hears` of Hearing, for what an argument is worth; t may speak of answers of the store that were fetched before.
pub record Yields (s : Strings) (index : List ℕ) (t : (Question → Answer) → Meaning Worth) (log log' : Log) (r : Result D.Worth Stop) : Type 0 where
  pub does : (n : ℕ) (cs : List Cell) → Ready s.store n index (length index) cs → (text : List ℕ) (m g : ℕ) → Does (answers s.store n) (t (answers s.store n)) (filled_to text m log g) (filled_to text m log' g) (ended_in (meant s) r)
  pub few : log'.asked ≤ log.asked + 1

-- r stands for w, wherever strings lie; r stands for an answer of the code
pub record Stands (w : Worth) (r : D.Worth) : Type 0 where
  pub same : (s : Strings) → meant s r ≡ w

pub record Tells (a : Answered) (r : D.Worth) : Type 0 where
  pub same : (s : Strings) → meant s r ≡ answered (C.meant s.store a)

-- what was heard, as what it is worth
unfoldable pub Values : Result Answered Stop → Result D.Worth Stop → Type 0
Values (Ok a) (Ok w) = Tells a w
Values (Err h) (Err s) = s ≡ h
Values (Ok a) (Err s) = ⊥
Values (Err h) (Ok w) = ⊥

pub record ValuedOf (h : Result Answered Stop) (r : Result D.Worth Stop) : Type 0 where
  pub values : Values h r

-- What `operand_value` and `argument_value` say, by all that they are handed and hand back; the first wherever strings lie.
pub record OperandValue (store index : List ℕ) (numbers : List ℤ) (words : List ℕ) (scene : Scene) (kind : ℕ) (o : Operand) (log log' : Log) (r : Result D.Worth Stop) : Type 0 where
  pub yields : (line : List ℕ) (rows : List (List ℕ)) → Yields (strings line store rows) index (λ source. operand_meaning (machine source (held numbers rows words) scene) line scene.number kind o) log log' r

pub record ArgumentValue (line store index : List ℕ) (vars : Held) (scene : Scene) (x : Argument) (log log' : Log) (r : Result D.Worth Stop) : Type 0 where
  pub yields : Yields (strings line store vars.rows) index (λ source. argument_meaning (machine source vars scene) line scene.number x) log log' r

-- What `cell_value` says: it is the value of the argument Pn.i without a filter, wherever strings lie and whatever the words hold.
pub record CellValue (store index : List ℕ) (numbers : List ℤ) (scene : Scene) (n : ℕ) (i : Index) (log log' : Log) (r : Result D.Worth Stop) : Type 0 where
  pub value : (line : List ℕ) (rows : List (List ℕ)) (words : List ℕ) → ArgumentValue line store index (held numbers rows words) scene (unfiltered (Record n i)) log log' r
