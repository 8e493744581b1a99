-- A line is its arguments, left to right, then what follows from their values.
use Rattle.std.specs.Prelude.{Option, Some, None, Err, Ok}
use mathlib.Core.Path.{◌≡◌, refl, sym, ap, ◌∙◌}
use mathlib.Core.Bool.{true, false}
use mathlib.Core.List.{List}
use Prim.Native.Nat.{ℕ, ◌-◌}
use native.Mathlib.Omega.{arith}
use borrow.Author.Tests.{lt-ltb}
use lib.IntN.{ℤ, pos}
use Rattle.arguments.specs.declared.argument.Argument.{Argument}
use Rattle.lines.specs.declared.command.Line.{Line}
use Rattle.lines.specs.declared.command.Line.TheVariants as form
use Rattle.meaning.specs.Tree.{done, bind}
use Rattle.meaning.specs.Meaning.{Meaning}
use Rattle.meaning.proofs.Binding.{bind_assoc}
use Rattle.values.specs.Worth.{Worth, missing}
use Rattle.values.specs.Meanings.{argument_meaning}
use Rattle.values.specs.Inner.Working.{worths, inputs_meaning}
use Rattle.commands.specs.Settling.{Settled, and_then, concluded, integer_from, integer_meaning}
use Rattle.commands.specs.Inner.Taking.{integer_or}
use Rattle.commands.specs.Setting.{set_of, set_meaning}
use Rattle.commands.specs.Testing.{zero_judged, compared, zero_meaning, test_meaning}
use Rattle.commands.specs.Looping.{begun, counted, begin_meaning, end_meaning}
use Rattle.commands.specs.Inner.Open.{begin_from, end_from}
use Rattle.control.specs.State.{State, seen, with_variables}
use Rattle.control.specs.Line.{branched, table_begun, table_counted, breaking_for, new_page_meaning, form_meaning}
use Rattle.control.specs.Inner.Forms.{optional_input, inputs_of, settling, form_with}

-- what is concluded from a value, and then from that
concluded_then : {A B : Type 0} (l : ℕ) (x : Settled A) (f : A → Settled B) → bind (concluded l x) (λ z. concluded l (f z)) ≡ concluded l (and_then x f)
concluded_then l (Ok a) f = refl
concluded_then l (Err e) f = refl

module _ (t : List ℕ) (start l : ℕ) (body : List ℕ) (s : State) where
  abbrev A : Argument → Meaning Worth
  A x = argument_meaning (seen s) body l x

  -- one argument
  one : {B : Type 0} (x : Argument) (f : Worth → Settled B) (g : B → State) → bind (bind (A x) (λ w. concluded l (f w))) (λ y. done (g y)) ≡ bind (bind (A x) (λ v. done (worths v missing))) (λ v. settling l (f v.first) g)
  one x f g =
      bind_assoc (A x) (λ w. concluded l (f w)) (λ y. done (g y)) ∙ sym (bind_assoc (A x) (λ v. done (worths v missing)) (λ v. settling l (f v.first) g))

  integer_then : {B : Type 0} (x : Argument) (f : ℤ → Settled B) → bind (integer_meaning (seen s) body l x) (λ z. concluded l (f z)) ≡ bind (A x) (λ w. concluded l (and_then (integer_from w) f))
  unfolding integer_meaning
  integer_then x f = bind_assoc (A x) (λ w. concluded l (integer_from w)) (λ z. concluded l (f z)) ∙ ap (bind (A x)) (λ i w. concluded_then l (integer_from w) f i)

  end_inputs : (k : Option Argument) → bind (end_meaning (seen s) body l s.tables k) (λ x. done (table_counted s x)) ≡ bind (inputs_meaning (seen s) body l (optional_input k)) (λ v. settling l (end_from s.tables (integer_or (pos 1) k v.first)) (table_counted s))
  unfolding end_meaning integer_or optional_input inputs_meaning
  end_inputs None = refl
  end_inputs (Some x) = ap (λ m. bind m (λ y. done (table_counted s y))) (integer_then x (counted s.tables)) ∙ one x (λ w. end_from s.tables (integer_from w)) (table_counted s)

  page_inputs : (k : Option Argument) → new_page_meaning l body s k ≡ bind (inputs_meaning (seen s) body l (optional_input k)) (λ v. bind (concluded l (integer_or (pos 62) k v.first)) (breaking_for l s))
  unfolding new_page_meaning breaking_for integer_or optional_input inputs_meaning integer_meaning
  page_inputs None = rw (lt-ltb (61 - s.page.row) 62 (omega arith))
  page_inputs (Some x) =
      bind_assoc (A x) (λ w. concluded l (integer_from w)) (breaking_for l s) ∙ sym (bind_assoc (A x) (λ v. done (worths v missing)) (λ v. bind (concluded l (integer_from v.first)) (breaking_for l s)))

  pub form_inputs : (line : Line) → form_meaning t start l body s line ≡ bind (inputs_meaning (seen s) body l (inputs_of line)) (form_with t start l body s line)
  unfolding form_meaning form_with inputs_of inputs_meaning set_meaning zero_meaning test_meaning begin_meaning
  form_inputs form.Text = refl
  form_inputs (form.Section a e) = refl
  form_inputs (form.Set o x a) = one a (set_of s.variables o x) (with_variables s)
  form_inputs (form.IfNot a) = one a (zero_judged true) (branched t s)
  form_inputs (form.If a) = one a (zero_judged false) (branched t s)
  form_inputs (form.Compare c a b) =
      bind_assoc (A a) (λ v. bind (A b) (λ w. concluded l (compared c v w))) (λ y. done (branched t s y))
      ∙ ap (bind (A a)) (λ i v. (bind_assoc (A b) (λ w. concluded l (compared c v w)) (λ y. done (branched t s y)) ∙ sym (bind_assoc (A b) (λ w. done (worths v w)) (λ v. settling l (compared c v.first v.second) (branched t s)))) i)
      ∙ sym (bind_assoc (A a) (λ v. bind (A b) (λ w. done (worths v w))) (λ v. settling l (compared c v.first v.second) (branched t s)))
  form_inputs form.Else = refl
  form_inputs form.EndIf = refl
  form_inputs (form.BeginTable a) =
      ap (λ m. bind m (λ y. done (table_begun t s y))) (integer_then a (λ z. Ok (begun s.tables s.position.at s.position.line z))) ∙ one a (λ w. begin_from s.tables s.position.at s.position.line (integer_from w)) (table_begun t s)
  form_inputs (form.EndTable k) = end_inputs k
  form_inputs (form.Records f) = refl
  form_inputs (form.Entries f) = refl
  form_inputs (form.Datasource i) = refl
  form_inputs form.NoFormFeed = refl
  form_inputs (form.NewPage n) = page_inputs n
  form_inputs (form.Heading n from) = refl
  form_inputs (form.NoHeading n) = refl
  form_inputs form.Remark = refl
