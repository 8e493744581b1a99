-- A line of a run asks only questions within their limits.
use Rattle.std.specs.Prelude.{Option, Some, None}
use mathlib.Core.Path.{◌≡◌, refl}
use mathlib.Core.Bool.{Bool, true, false, cond}
use mathlib.Core.List.{List}
use Prim.Native.Nat.{ℕ, ◌-◌}
use lib.IntN.{pos}
use lib.Signed.{lt_z}
use lib.ListN.{length}
use Rattle.scan.specs.Line.{line_at}
use Rattle.arguments.specs.declared.argument.Argument.{Argument}
use Rattle.lines.specs.declared.command.Line.{Line}
use Rattle.lines.specs.declared.command.Line.TheVariants as form
use Rattle.lines.specs.Readers.Command.{parse_line}
use Rattle.lines.proofs.Accepted.{OptionalWithin, Bounded, parsed_bounded}
use Rattle.meaning.specs.Tree.{done}
use Rattle.meaning.specs.Meaning.{Meaning}
use Rattle.meaning.proofs.Questions.{asks_then}
use Rattle.cells.proofs.Limits.{AnswerWithin}
use Rattle.arguments.proofs.Parsed.{Between}
use Rattle.values.specs.Machine.{Variables}
use Rattle.values.proofs.Allowed.{Allowed, AsksAllowed}
use Rattle.commands.specs.Settling.{integer_meaning}
use Rattle.commands.specs.Setting.{set_meaning}
use Rattle.commands.specs.Testing.{zero_meaning, test_meaning}
use Rattle.commands.specs.Looping.{begin_meaning, end_meaning}
use Rattle.control.specs.Fetching.{records_meaning, entries_meaning}
use Rattle.control.specs.Selecting.{datasource_meaning}
use Rattle.control.proofs.Allowed.{set_asks, integer_asks, zero_asks, test_asks, begin_asks, end_asks, records_asks, entries_asks, datasource_asks}
use Rattle.pages.specs.Page.{break_meaning, line_step}
use Rattle.pages.proofs.Allowed.{step_asks}
use Rattle.control.specs.State.{State, seen, with_variables, with_datasource, with_page}
use Rattle.control.specs.Line.{past_line, setting, branched, testing, table_begun, table_counted, breaking, breaking_for, new_page_meaning, form_meaning, parsed_meaning, line_meaning}

module _ (t : List ℕ) (start l : ℕ) (body : List ℕ) (s : State) (d : Between 1 35 s.datasource) where
  sets : (x : Meaning Variables) → AsksAllowed x → AsksAllowed (setting s x)
  sets x h = asks_then AnswerWithin Allowed x (λ m. done (with_variables s m)) h (λ m. tt)

  tests : (x : Meaning Bool) → AsksAllowed x → AsksAllowed (testing t s x)
  tests x h = asks_then AnswerWithin Allowed x (λ holds. done (branched t s holds)) h (λ b. tt)

  pages : (n : Option Argument) → OptionalWithin body n → AsksAllowed (new_page_meaning l body s n)
  unfolding new_page_meaning breaking_for breaking break_meaning
  pages None h = tt
  pages (Some a) h = asks_then AnswerWithin Allowed (integer_meaning (seen s) body l a) (breaking_for l s) (integer_asks (seen s) d l body a h) (λ z. by (lt_z (pos (61 - s.page.row)) z))
    where
      by : (b : Bool) → AsksAllowed (cond b (breaking l s) (done s))
      by true = tt
      by false = tt

  form_asks : (f : Line) → Bounded body f → AsksAllowed (form_meaning t start l body s f)
  unfolding form_meaning
  form_asks form.Text b = asks_then AnswerWithin Allowed (line_step (seen s) t l s.layout.form_feeds s.layout.headings body s.page) (λ p. done (with_page s p)) (step_asks (seen s) d t l s.layout.form_feeds s.layout.headings body s.page) (λ p. tt)
  form_asks (form.Section a e) b = tt
  form_asks (form.Set o v a) b = sets (set_meaning (seen s) body l o v a) (set_asks (seen s) d l body o v a b.1)
  form_asks (form.IfNot a) b = tests (zero_meaning (seen s) body l true a) (zero_asks (seen s) d l body true a b)
  form_asks (form.If a) b = tests (zero_meaning (seen s) body l false a) (zero_asks (seen s) d l body false a b)
  form_asks (form.Compare c x y) b = tests (test_meaning (seen s) body l c x y) (test_asks (seen s) d l body c x y b.0 b.1)
  form_asks form.Else b = tt
  form_asks form.EndIf b = tt
  form_asks (form.BeginTable a) b = asks_then AnswerWithin Allowed (begin_meaning (seen s) body l s.tables s.position.at s.position.line a) (λ x. done (table_begun t s x)) (begin_asks (seen s) d l body s.tables s.position.at s.position.line a b) (λ x. tt)
  form_asks (form.EndTable k) b = asks_then AnswerWithin Allowed (end_meaning (seen s) body l s.tables k) (λ x. done (table_counted s x)) (end_asks (seen s) d l body s.tables k b) (λ x. tt)
  form_asks (form.Records f) b = sets (records_meaning (seen s) l f) (records_asks (seen s) d l f b)
  form_asks (form.Entries f) b = sets (entries_meaning (seen s) l f) (entries_asks (seen s) d l f b)
  form_asks (form.Datasource i) b = asks_then AnswerWithin Allowed (datasource_meaning (seen s) l i) (λ x. done (with_datasource s x)) (datasource_asks (seen s) l i) (λ x. tt)
  form_asks form.NoFormFeed b = tt
  form_asks (form.NewPage n) b = pages n b
  form_asks (form.Heading n from) b = tt
  form_asks (form.NoHeading n) b = tt
  form_asks form.Remark b = tt

  parsed_asks : (x : Option Line) → ((f : Line) → x ≡ Some f → Bounded body f) → AsksAllowed (parsed_meaning t start l body s x)
  parsed_asks (Some f) b = form_asks f (b f refl)
  parsed_asks None b = tt

-- One line.
pub line_asks : (t : List ℕ) (s : State) → Between 1 35 s.datasource → AsksAllowed (line_meaning t s)
unfolding line_meaning
line_asks t s d = let body = line_at t s.position.at in parsed_asks t s.position.at s.position.line body (past_line s (length body)) d (parse_line body) (parsed_bounded body)
