-- What the contracts of lines by their forms and values say.
use Rattle.std.specs.Prelude.{List, ℕ, Result}
use Rattle.lines.specs.declared.command.Line.{Line}
use Rattle.values.specs.Inner.Texts.{strings}
use Rattle.values.specs.declared.scene.Scene.{Scene}
use Rattle.values.specs.Inner.State.{Held}
use Rattle.values.specs.declared.worth.Worth.{Worth}
use Rattle.values.specs.Inner.Yielding.{meant}
use Rattle.values.specs.Inner.Working.{worths}
use Rattle.control.specs.declared.state.Flow.{Flow}
use Rattle.control.specs.Inner.Executing.{state_at, Executes}
use Rattle.control.specs.Inner.Forms.{form_with}
use Rattle.control.specs.Inner.Remembering.{Remembered}
use Rattle.meaning.specs.declared.end.Stop.{Stop}
use Rattle.values.specs.declared.log.Log.{Log}

-- What `execute` says, by all that it is handed and hands back.
pub record Performs (body b t : List ℕ) (h : Held) (scene : Scene) (start : ℕ) (f : Flow) (form : Line) (v w : Worth) (T : List ℕ) (u : ℕ) (log : Log) (h' : Held) (f' : Flow) (T' : List ℕ) (u' : ℕ) (log' : Log) (r : Result (Unit {0}) Stop) : Type 0 where
  pub executes : Executes 330 (form_with t start scene.number body (state_at b h f) form (worths (meant (strings body b h.rows) v) (meant (strings body b h.rows) w))) b h f T u log h' f' T' u' log' r
  pub remembered : Remembered t h'.words
