-- PAGENUM is one more than the breaks printed so far: every line of a run keeps that, whatever the store answers.
use Rattle.std.specs.Prelude.{Option, Some, None}
use mathlib.Core.Path.{◌≡◌, refl, sym, ap, ◌∙◌}
use mathlib.Core.Bool.{Bool, true, false, cond}
use mathlib.Core.List.{List}
use Prim.Native.Nat.{ℕ, suc, ◌-◌}
use lib.IntN.{pos}
use lib.Signed.{lt_z}
use lib.ListN.{length}
use Rattle.scan.specs.Line.{line_at}
use Rattle.arguments.specs.declared.argument.Argument.{Argument}
use Rattle.lines.specs.declared.command.Line.{Line}
use Rattle.lines.specs.declared.command.Line.TheVariants as form
use Rattle.lines.specs.Readers.Command.{parse_line}
use Rattle.meaning.specs.Tree.{done, bind}
use Rattle.meaning.specs.Rule.{Keeps}
use Rattle.meaning.specs.Meaning.{Meaning}
use Rattle.meaning.proofs.Keeping.{keeps_bind}
use Rattle.values.proofs.Giving.{Gives, Anything, gives_keeps}
use Rattle.commands.specs.Settling.{integer_meaning}
use Rattle.commands.specs.Setting.{set_meaning}
use Rattle.commands.specs.Testing.{zero_meaning, test_meaning}
use Rattle.commands.specs.Looping.{Looping, innermost, begin_meaning, end_meaning}
use Rattle.control.specs.Fetching.{records_meaning, entries_meaning}
use Rattle.control.specs.Selecting.{datasource_meaning}
use Rattle.control.proofs.Giving.{Shaped, set_gives, records_gives, entries_gives, integer_gives, zero_gives, test_gives, Begun, Counting, begin_gives, end_gives, Selectable, datasource_gives}
use Rattle.pages.specs.declared.page.Page.{Page}
use Rattle.pages.specs.Page.{break_meaning, line_step}
use Rattle.pages.proofs.Counting.{counting, OnPage, break_counts, step_counts}
use Rattle.control.specs.State.{State, seen, with_position, with_variables, with_datasource, with_tables, with_page}
use Rattle.control.specs.Line.{past_line, jumped, branched, table_begun, table_counted, breaking, breaking_for, new_page_meaning, form_meaning, parsed_meaning, line_meaning}
use Rattle.template.specs.declared.seek.Sought.TheVariants.{TableEnd}

-- the page of a state
abbrev pub Counted : State → ℕ → Type 0
Counted s c = OnPage s.page c

module _ (t : List ℕ) (start l : ℕ) (body : List ℕ) (s : State) (c : ℕ) (h : Counted s c) where
  -- a command that only asks, and leaves the page
  asks_count : {A : Type 0} (m : Meaning A) (Φ : A → Type 0) → Gives m Φ → (f : A → State) → ((a : A) → (f a).page ≡ s.page) → Keeps counting (bind m (λ a. done (f a))) c Counted
  asks_count m Φ g f e = keeps_bind counting m (λ a. done (f a)) c (λ a c'. Φ a × (c' ≡ c)) Counted (gives_keeps counting m c Φ g) (λ a c' q. ap (λ (p : Page). p.number) (e a) ∙ h ∙ ap suc (sym q.1))

  paged : (m : Meaning Page) → Keeps counting m c OnPage → Keeps counting (bind m (λ p. done (with_page s p))) c Counted
  paged m k = keeps_bind counting m (λ p. done (with_page s p)) c OnPage Counted k (λ p c' q. q)

  branch_page : (b : Bool) → (branched t s b).page ≡ s.page
  unfolding branched
  branch_page true = refl
  branch_page false = refl

  same_page : (b : Bool) (u v : State) → u.page ≡ s.page → v.page ≡ s.page → (cond b u v).page ≡ s.page
  same_page true u v e f = e
  same_page false u v e f = f

  begun_page : (x : Looping) → (table_begun t s x).page ≡ s.page
  unfolding table_begun
  begun_page x = same_page x.elsewhere (jumped t s TableEnd) (with_tables s x.tables) refl refl

  ended_page : (x : Looping) → (table_counted s x).page ≡ s.page
  unfolding table_counted
  ended_page x = same_page x.elsewhere (with_position (with_tables s x.tables) (innermost x.tables).start (innermost x.tables).line) (with_tables s x.tables) refl refl

  breaks_count : Keeps counting (breaking l s) c Counted
  unfolding breaking
  breaks_count = paged (break_meaning l s.layout.form_feeds s.page) (break_counts l s.layout.form_feeds s.page c h)

  np_counts : (n : Option Argument) → Keeps counting (new_page_meaning l body s n) c Counted
  unfolding new_page_meaning breaking_for
  np_counts None = breaks_count
  np_counts (Some a) =
      keeps_bind counting (integer_meaning (seen s) body l a) (breaking_for l s) c (λ z c'. Anything z × (c' ≡ c)) Counted (gives_keeps counting (integer_meaning (seen s) body l a) c Anything (integer_gives (seen s) body l a)) (λ z c' q. rw q.1 (by (lt_z (pos (61 - s.page.row)) z)))
    where
      by : (b : Bool) → Keeps counting (cond b (breaking l s) (done s)) c Counted
      by true = breaks_count
      by false = h

  form_counts : (f : Line) → Keeps counting (form_meaning t start l body s f) c Counted
  unfolding form_meaning
  form_counts form.Text = paged (line_step (seen s) t l s.layout.form_feeds s.layout.headings body s.page) (step_counts (seen s) t l s.layout.form_feeds s.layout.headings body s.page c h)
  form_counts (form.Section a b) = h
  form_counts (form.Set o v a) = asks_count (set_meaning (seen s) body l o v a) (Shaped s.variables) (set_gives (seen s) body l o v a) (with_variables s) (λ _. refl)
  form_counts (form.IfNot a) = asks_count (zero_meaning (seen s) body l true a) Anything (zero_gives (seen s) body l true a) (branched t s) branch_page
  form_counts (form.If a) = asks_count (zero_meaning (seen s) body l false a) Anything (zero_gives (seen s) body l false a) (branched t s) branch_page
  form_counts (form.Compare k a b) = asks_count (test_meaning (seen s) body l k a b) Anything (test_gives (seen s) body l k a b) (branched t s) branch_page
  form_counts form.Else = h
  form_counts form.EndIf = h
  form_counts (form.BeginTable a) = asks_count (begin_meaning (seen s) body l s.tables s.position.at s.position.line a) (Begun s.tables s.position.at s.position.line) (begin_gives (seen s) body l s.tables s.position.at s.position.line a) (table_begun t s) begun_page
  form_counts (form.EndTable k) = asks_count (end_meaning (seen s) body l s.tables k) (Counting s.tables) (end_gives (seen s) body l s.tables k) (table_counted s) ended_page
  form_counts (form.Records f) = asks_count (records_meaning (seen s) l f) (Shaped s.variables) (records_gives (seen s) l f) (with_variables s) (λ _. refl)
  form_counts (form.Entries f) = asks_count (entries_meaning (seen s) l f) (Shaped s.variables) (entries_gives (seen s) l f) (with_variables s) (λ _. refl)
  form_counts (form.Datasource x) = asks_count (datasource_meaning (seen s) l x) Selectable (datasource_gives (seen s) l x) (with_datasource s) (λ _. refl)
  form_counts form.NoFormFeed = h
  form_counts (form.NewPage n) = np_counts n
  form_counts (form.Heading n from) = h
  form_counts (form.NoHeading n) = h
  form_counts form.Remark = h

  parsed_counts : (x : Option Line) → Keeps counting (parsed_meaning t start l body s x) c Counted
  parsed_counts (Some f) = form_counts f
  parsed_counts None = h

-- One line.
pub line_counts : (t : List ℕ) (s : State) (c : ℕ) → Counted s c → Keeps counting (line_meaning t s) c Counted
unfolding line_meaning
line_counts t s c h = parsed_counts t s.position.at s.position.line (line_at t s.position.at) (past_line s (length (line_at t s.position.at))) c h (parse_line (line_at t s.position.at))
