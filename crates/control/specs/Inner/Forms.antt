-- A line by the values of its arguments: the same as its meaning, behind them (proofs/Forms: form_inputs).
use Rattle.std.specs.Prelude.{true, false, List, ℕ, pos, Option, Some, None}
use Rattle.arguments.specs.declared.argument.Argument.{Argument}
use Rattle.lines.specs.declared.command.Line.{Line}
use Rattle.lines.specs.declared.command.Line.TheVariants as form
use Rattle.meaning.specs.Tree.{done, bind}
use Rattle.meaning.specs.Meaning.{Meaning}
use Rattle.values.specs.declared.working.Inputs.{Inputs}
use Rattle.values.specs.declared.working.Inputs.TheVariants as inputs
use Rattle.values.specs.declared.working.Inputs.TheVariants.{One, Two}
use Rattle.values.specs.Inner.Working.{Worths}
use Rattle.commands.specs.Settling.{Settled, concluded, integer_from}
use Rattle.commands.specs.Inner.Taking.{integer_or}
use Rattle.commands.specs.Setting.{set_of}
use Rattle.commands.specs.Testing.{zero_judged, compared}
use Rattle.commands.specs.Inner.Open.{begin_from, end_from}
use Rattle.control.specs.State.{State, with_variables}
use Rattle.control.specs.Line.{branched, table_begun, table_counted, breaking_for, form_meaning}

unfoldable pub optional_input : Option Argument → Inputs
optional_input None = inputs.None
optional_input (Some a) = One a

-- the arguments that are worked out before the command
unfoldable pub inputs_of : Line → Inputs
inputs_of form.Text = inputs.None
inputs_of (form.Section a e) = inputs.None
inputs_of (form.Set o v a) = One a
inputs_of (form.IfNot a) = One a
inputs_of (form.If a) = One a
inputs_of (form.Compare c a b) = Two a b
inputs_of form.Else = inputs.None
inputs_of form.EndIf = inputs.None
inputs_of (form.BeginTable a) = One a
inputs_of (form.EndTable k) = optional_input k
inputs_of (form.Records f) = inputs.None
inputs_of (form.Entries f) = inputs.None
inputs_of (form.Datasource i) = inputs.None
inputs_of form.NoFormFeed = inputs.None
inputs_of (form.NewPage n) = optional_input n
inputs_of (form.Heading n from) = inputs.None
inputs_of (form.NoHeading n) = inputs.None
inputs_of form.Remark = inputs.None

-- a line without a form has none
unfoldable pub parsed_inputs : Option Line → Inputs
parsed_inputs None = inputs.None
parsed_inputs (Some x) = inputs_of x

-- refused, or the state that follows from a result
abbrev pub settling : {A : Type 0} → ℕ → Settled A → (A → State) → Meaning State
settling l x g = bind (concluded l x) (λ y. done (g y))

-- `$NP` alone is `$NP 62`: 61 − LINENUM is below 62 on every page
unfoldable pub form_with : List ℕ → ℕ → ℕ → List ℕ → State → Line → Worths → Meaning State
form_with t start l body s form.Text v = form_meaning t start l body s form.Text
form_with t start l body s (form.Section a e) v = form_meaning t start l body s (form.Section a e)
form_with t start l body s (form.Set o x a) v = settling l (set_of s.variables o x v.first) (with_variables s)
form_with t start l body s (form.IfNot a) v = settling l (zero_judged true v.first) (branched t s)
form_with t start l body s (form.If a) v = settling l (zero_judged false v.first) (branched t s)
form_with t start l body s (form.Compare c a b) v = settling l (compared c v.first v.second) (branched t s)
form_with t start l body s form.Else v = form_meaning t start l body s form.Else
form_with t start l body s form.EndIf v = form_meaning t start l body s form.EndIf
form_with t start l body s (form.BeginTable a) v =
    settling l (begin_from s.tables s.position.at s.position.line (integer_from v.first)) (table_begun t s)
form_with t start l body s (form.EndTable k) v =
    settling l (end_from s.tables (integer_or (pos 1) k v.first)) (table_counted s)
form_with t start l body s (form.Records f) v = form_meaning t start l body s (form.Records f)
form_with t start l body s (form.Entries f) v = form_meaning t start l body s (form.Entries f)
form_with t start l body s (form.Datasource i) v = form_meaning t start l body s (form.Datasource i)
form_with t start l body s form.NoFormFeed v = form_meaning t start l body s form.NoFormFeed
form_with t start l body s (form.NewPage n) v = bind (concluded l (integer_or (pos 62) n v.first)) (breaking_for l s)
form_with t start l body s (form.Heading n from) v = form_meaning t start l body s (form.Heading n from)
form_with t start l body s (form.NoHeading n) v = form_meaning t start l body s (form.NoHeading n)
form_with t start l body s form.Remark v = form_meaning t start l body s form.Remark
