-- The arguments of a line, worked out before its command.
use Rattle.std.specs.Prelude.{◌≡◌, List, ℕ, ◌+◌, ◌≤◌, length, Option, Some, None, Result}
use Rattle.meaning.specs.Tree.{done, bind}
use Rattle.meaning.specs.Meaning.{Meaning}
use Rattle.meaning.specs.Number.{ended_in}
use Rattle.meaning.specs.Inner.Place.{Does}
use Rattle.meaning.specs.declared.end.Stop.{Stop}
use Rattle.cells.specs.Cell.{Cell}
use Rattle.cells.specs.Inner.Index.{Ready}
use Rattle.numbers.specs.declared.Quantity.{Quantity}
use Rattle.arguments.specs.declared.argument.Argument.{Argument}
use Rattle.arguments.specs.declared.argument.Filter.TheVariants.{Unfiltered}
use Rattle.arguments.specs.declared.operand.Operand.TheVariants.{NumberLiteral}
use Rattle.arguments.specs.Inner.Parameter.{parameter_of}
use Rattle.values.specs.Inner.Texts.{Strings, strings}
use Rattle.values.specs.declared.scene.Scene.{Scene}
use Rattle.values.specs.declared.log.Log.{Log}
use Rattle.values.specs.Inner.Logged.{filled_to}
use Rattle.values.specs.Machine.{Machine}
use Rattle.values.specs.Source.{answers}
use Rattle.values.specs.Inner.State.{Held, machine}
use Rattle.values.specs.declared.working.Inputs.{Inputs}
use Rattle.values.specs.declared.working.Inputs.TheVariants as inputs
use Rattle.values.specs.declared.working.Inputs.TheVariants.{One, Two}
use Rattle.values.specs.declared.worth.Worth as D
use Rattle.values.specs.Worth.{Worth, missing}
use Rattle.values.specs.Meanings.{argument_meaning}
use Rattle.values.specs.Inner.Yielding.{meant}

-- what the arguments of a line are worth, missing where there is none
pub record Worths : Type 0 where
  pub first : Worth
  pub second : Worth

abbrev pub worths : Worth → Worth → Worths
worths v w = record { first = v; second = w }

-- "arguments left to right, 8 then 9 each"
unfoldable pub inputs_meaning : Machine → List ℕ → ℕ → Inputs → Meaning Worths
inputs_meaning m s line inputs.None = done (worths missing missing)
inputs_meaning m s line (One x) = bind (argument_meaning m s line x) (λ v. done (worths v missing))
inputs_meaning m s line (Two x y) = bind (argument_meaning m s line x) (λ v. bind (argument_meaning m s line y) (λ w. done (worths v w)))

-- a number without a filter, or another argument
unfoldable pub Literally : Argument → Option Quantity → Type 0
Literally x (Some q) = (x.operand ≡ NumberLiteral q) × (x.filter ≡ Unfiltered)
Literally x None = Unit {0}

pub record LiteralOf (x : Argument) (r : Option Quantity) : Type 0 where
  pub literal : Literally x r

-- their parameters, 1 where there is none
unfoldable pub first_parameter : Inputs → ℕ
first_parameter inputs.None = 1
first_parameter (One x) = parameter_of x.operand
first_parameter (Two x y) = parameter_of x.operand

unfoldable pub second_parameter : Inputs → ℕ
second_parameter inputs.None = 1
second_parameter (One x) = 1
second_parameter (Two x y) = parameter_of y.operand

-- What `work_out` requires: a datasource and parameters within their limits, and two places in the log.
pub record Workable (d : ℕ) (i : Inputs) (a : ℕ) : Type 0 where
  pub datasource : d ≤ 35
  pub first : first_parameter i ≤ 65535
  pub second : second_parameter i ≤ 65535
  pub places : a + 2 ≤ 512

-- what two values of the code are worth
abbrev pub both_meant : Strings → D.Worth × D.Worth → Worths
both_meant s (v, w) = worths (meant s v) (meant s w)

-- What it says, by all that it is handed and hands back.
pub record WorksOut (line store index : List ℕ) (vars : Held) (scene : Scene) (i : Inputs) (log log' : Log) (r : Result (D.Worth × D.Worth) Stop) : Type 0 where
  pub does : (n : ℕ) (cs : List Cell) → Ready store n index (length index) cs → (text : List ℕ) (m g : ℕ) → Does (answers store n) (inputs_meaning (machine (answers store n) vars scene) line scene.number i) (filled_to text m log g) (filled_to text m log' g) (ended_in (both_meant (strings line store vars.rows)) r)
  pub few : log'.asked ≤ log.asked + 2
