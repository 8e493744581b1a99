-- The text of every report: lines of 0x20–0x7E, each with its line end, and form feeds. So a line that a page counts is one line of
-- its text.
use Rattle.std.specs.Prelude.{Option, Some, None, Result, Ok, Err}
use Rattle.meaning.specs.declared.refusal.Refusal.{Refusal}
use Rattle.arguments.specs.declared.argument.Argument.{Argument}
use mathlib.Core.Path.{◌≡◌, refl, sym, subst}
use mathlib.Core.Bool.{Bool, true, false, cond}
use mathlib.Core.List.{List, [], ◌∷◌}
use Prim.Native.Nat.{ℕ, zero, suc, ◌-◌}
use borrow.Author.Tests.{leb-true}
use lib.Dec.{leb, ltb, eqb}
use lib.IntN.{pos}
use lib.Signed.{lt_z}
use lib.ListN.{length, drop, take}
use Rattle.scan.specs.declared.run.Class.TheVariants.{InLine}
use Rattle.scan.specs.Line.{line_at}
use Rattle.scan.proofs.RunLaws.{take_span}
use Rattle.lines.specs.declared.command.Line.{Line}
use Rattle.lines.specs.declared.command.Line.TheVariants as form
use Rattle.lines.specs.Readers.Command.{parse_line}
use Rattle.template.specs.declared.Extent.{Extent}
use Rattle.template.specs.declared.seek.Sought.TheVariants.{TableEnd}
use Rattle.template.specs.Order.{template_checked}
use Rattle.template.proofs.Accepted.{accepted_runs}
use Rattle.cells.specs.Cell.{each, between, printable}
use Rattle.cells.specs.Store.{cells_held, holds_cells}
use Rattle.cells.proofs.BigEndian.{and_true}
use Rattle.cells.proofs.Limits.{AnswerHas, Lettered, ask_lettered}
use Rattle.meaning.specs.Answer as A
use Rattle.meaning.specs.Answer.{Answer}
use Rattle.meaning.specs.Each.{Each}
use Rattle.meaning.specs.Tree.{done, stop, bind}
use Rattle.meaning.specs.Meaning.{Meaning}
use Rattle.meaning.specs.declared.question.Question.{Question}
use Rattle.meaning.specs.declared.refusal.Refusal.TheVariants.{TooManyLines, BadStore}
use Rattle.meaning.proofs.Yielding.{Yields, yields_any}
use Rattle.values.specs.Machine.{Variables}
use Rattle.values.specs.Source.{answers}
use Rattle.values.proofs.Giving.{Gives, Anything}
use Rattle.commands.specs.Settling.{integer_meaning}
use Rattle.commands.specs.Setting.{set_meaning}
use Rattle.commands.specs.Testing.{zero_meaning, test_meaning}
use Rattle.commands.specs.Looping.{Looping, innermost, begin_meaning, end_meaning}
use Rattle.control.specs.Fetching.{records_meaning, entries_meaning}
use Rattle.control.specs.Selecting.{datasource_meaning}
use Rattle.control.proofs.Giving.{Shaped, set_gives, records_gives, entries_gives, integer_gives, zero_gives, test_gives, Begun, Counting, begin_gives, end_gives, Selectable, datasource_gives}
use Rattle.control.proofs.Ranges as C
use Rattle.pages.specs.declared.page.Page.{Page}
use Rattle.pages.specs.declared.heading.Heading.{Heading}
use Rattle.pages.specs.Heading.{no_heading}
use Rattle.pages.specs.Page.{head_line, break_meaning, line_step}
use Rattle.control.specs.State.{State, seen, with_position, with_variables, with_datasource, with_tables, with_page, no_variables}
use Rattle.control.specs.Line.{past_line, jumped, setting, branched, testing, table_begun, table_counted, breaking, breaking_for, new_page_meaning, headed, form_meaning, parsed_meaning, line_meaning}
use Rattle.executed_line.proofs.Sounds.{each_same}
use Rattle.report.specs.Report.{run_from, start_of, run_meaning, Outcome, refused_report, checked_outcome, report_of}
use Rattle.output.specs.Printable.{Clean, Proper}
use Rattle.output.proofs.Bytes.{Permitted, bytes_permitted, line_clean}
use Rattle.output.proofs.Values.{AnswerClean, VariablesClean, set_clean, records_clean, entries_clean}
use Rattle.output.proofs.Saying.{Says, says_bind, asks_say, says_events}
use Rattle.output.proofs.Lines.{break_says, step_says}

-- SV, R and T, and the $PH lines of the headings
record StateClean (t : List ℕ) (s : State) : Type 0 where
  variables : VariablesClean s.variables
  heads : Each (λ h. Clean (head_line t h)) s.layout.headings

variables_none : VariablesClean no_variables
variables_none = record { strings = each_same Clean 99 [] tt; records = each_same (Each AnswerClean) 10 [] tt; entries = each_same (Each AnswerClean) 10 [] tt }

blank_clean : (t : List ℕ) → Clean (head_line t no_heading)
unfolding head_line
blank_clean t = tt

-- a heading keeps the place and the length of its $PH line
head_clean : (t : List ℕ) → Each Permitted t → (at from l : ℕ) → Clean (head_line t (record { start = at; length = length (line_at t at); from = from; number = l }))
unfolding head_line
head_clean t h at from l = go (eqb l 0)
  where
    go : (b : Bool) → Clean (cond b [] (take (length (line_at t at)) (drop at t)))
    go true = tt
    go false = subst Clean (sym (take_span InLine (drop at t))) (line_clean t h at)

module _ (t : List ℕ) (whole : Each Permitted t) (at l : ℕ) (s : State) (h : StateClean t s) where
  abbrev body : List ℕ
  body = line_at t at

  place_clean : (k n : ℕ) → StateClean t (with_position s k n)
  place_clean k n = record { variables = h.variables; heads = h.heads }

  tables_clean : (x : Looping) (k n : ℕ) → StateClean t (with_position (with_tables s x.tables) k n)
  tables_clean x k n = record { variables = h.variables; heads = h.heads }

  page_clean : (p : Page) → StateClean t (with_page s p)
  page_clean p = record { variables = h.variables; heads = h.heads }

  head_set : (n : ℕ) (x : Heading) → Clean (head_line t x) → StateClean t (headed s n x)
  head_set n x c = record { variables = h.variables; heads = C.numbered_each (λ y. Clean (head_line t y)) s.layout.headings n x c h.heads }

  -- a command that only asks
  asked : {A : Type 0} (m : Meaning A) (Θ Φ : A → Type 0) → Gives m Θ → Yields AnswerClean m Φ → (f : A → State) → ((a : A) → Φ a → StateClean t (f a)) → Says (bind m (λ a. done (f a))) (StateClean t)
  asked m Θ Φ g y f k = says_bind m (λ a. done (f a)) Φ (StateClean t) (asks_say m Θ Φ g y) k

  -- one whose values are no strings
  only_asks : {A : Type 0} (m : Meaning A) (Θ : A → Type 0) → Gives m Θ → (f : A → State) → ((a : A) → StateClean t (f a)) → Says (bind m (λ a. done (f a))) (StateClean t)
  only_asks m Θ g f k = asked m Θ (λ _. Unit {0}) g (yields_any AnswerClean m) f (λ a _. k a)

  set_says : (m : Meaning Variables) (Θ : Variables → Type 0) → Gives m Θ → Yields AnswerClean m VariablesClean → Says (setting s m) (StateClean t)
  set_says m Θ g y = asked m Θ VariablesClean g y (with_variables s) (λ x c. record { variables = c; heads = h.heads })

  test_says : (m : Meaning Bool) → Gives m Anything → Says (testing t s m) (StateClean t)
  unfolding branched
  test_says m g = only_asks m Anything g (branched t s) by
    where
      by : (b : Bool) → StateClean t (branched t s b)
      by true = h
      by false = place_clean _ _

  begun_clean : (x : Looping) → StateClean t (table_begun t s x)
  unfolding table_begun
  begun_clean x = by x.elsewhere
    where
      by : (b : Bool) → StateClean t (cond b (jumped t s TableEnd) (with_tables s x.tables))
      by true = place_clean _ _
      by false = tables_clean x _ _

  ended_clean : (x : Looping) → StateClean t (table_counted s x)
  unfolding table_counted
  ended_clean x = by x.elsewhere
    where
      by : (b : Bool) → StateClean t (cond b (with_position (with_tables s x.tables) (innermost x.tables).start (innermost x.tables).line) (with_tables s x.tables))
      by true = tables_clean x _ _
      by false = tables_clean x _ _

  paged : (m : Meaning Page) → Says m Anything → Says (bind m (λ p. done (with_page s p))) (StateClean t)
  paged m k = says_bind m (λ p. done (with_page s p)) Anything (StateClean t) k (λ p _. page_clean p)

  breaks_say : Says (breaking l s) (StateClean t)
  unfolding breaking
  breaks_say = paged (break_meaning l s.layout.form_feeds s.page) (break_says l s.layout.form_feeds s.page)

  np_says : (n : Option Argument) → Says (new_page_meaning l body s n) (StateClean t)
  unfolding new_page_meaning breaking_for
  np_says None = breaks_say
  np_says (Some a) =
      says_bind (integer_meaning (seen s) body l a) (breaking_for l s) (λ _. Unit {0}) (StateClean t) (asks_say (integer_meaning (seen s) body l a) Anything (λ _. Unit {0}) (integer_gives (seen s) body l a) (yields_any AnswerClean (integer_meaning (seen s) body l a))) (λ z _. by (lt_z (pos (61 - s.page.row)) z))
    where
      by : (b : Bool) → Says (cond b (breaking l s) (done s)) (StateClean t)
      by true = breaks_say
      by false = h

  form_says : (f : Line) → Says (form_meaning t at l body s f) (StateClean t)
  unfolding form_meaning
  form_says form.Text = paged (line_step (seen s) t l s.layout.form_feeds s.layout.headings body s.page) (step_says (seen s) h.variables t l s.layout.form_feeds s.layout.headings h.heads body (line_clean t whole at) s.page)
  form_says (form.Section a b) = record { variables = variables_none; heads = each_same (λ x. Clean (head_line t x)) 9 no_heading (blank_clean t) }
  form_says (form.Set o v a) = set_says (set_meaning (seen s) body l o v a) (Shaped s.variables) (set_gives (seen s) body l o v a) (set_clean (seen s) h.variables l body (line_clean t whole at) o v a)
  form_says (form.IfNot a) = test_says (zero_meaning (seen s) body l true a) (zero_gives (seen s) body l true a)
  form_says (form.If a) = test_says (zero_meaning (seen s) body l false a) (zero_gives (seen s) body l false a)
  form_says (form.Compare k a b) = test_says (test_meaning (seen s) body l k a b) (test_gives (seen s) body l k a b)
  form_says form.Else = place_clean _ _
  form_says form.EndIf = h
  form_says (form.BeginTable a) = only_asks (begin_meaning (seen s) body l s.tables s.position.at s.position.line a) (Begun s.tables s.position.at s.position.line) (begin_gives (seen s) body l s.tables s.position.at s.position.line a) (table_begun t s) begun_clean
  form_says (form.EndTable k) = only_asks (end_meaning (seen s) body l s.tables k) (Counting s.tables) (end_gives (seen s) body l s.tables k) (table_counted s) ended_clean
  form_says (form.Records f) = set_says (records_meaning (seen s) l f) (Shaped s.variables) (records_gives (seen s) l f) (records_clean (seen s) h.variables l f)
  form_says (form.Entries f) = set_says (entries_meaning (seen s) l f) (Shaped s.variables) (entries_gives (seen s) l f) (entries_clean (seen s) h.variables l f)
  form_says (form.Datasource x) = only_asks (datasource_meaning (seen s) l x) Selectable (datasource_gives (seen s) l x) (with_datasource s) (λ d. record { variables = h.variables; heads = h.heads })
  form_says form.NoFormFeed = record { variables = h.variables; heads = h.heads }
  form_says (form.NewPage n) = np_says n
  form_says (form.Heading n from) = head_set n (record { start = at; length = length body; from = from; number = l }) (head_clean t whole at from l)
  form_says (form.NoHeading n) = head_set n no_heading (blank_clean t)
  form_says form.Remark = h

  parsed_says : (x : Option Line) → Says (parsed_meaning t at l body s x) (StateClean t)
  parsed_says (Some f) = form_says f
  parsed_says None = h

line_says : (t : List ℕ) → Each Permitted t → (s : State) → StateClean t s → Says (line_meaning t s) (StateClean t)
unfolding line_meaning
line_says t whole s h = parsed_says t whole s.position.at s.position.line (past_line s (length (line_at t s.position.at))) (record { variables = h.variables; heads = h.heads }) (parse_line (line_at t s.position.at))

run_says : (n : ℕ) (t : List ℕ) → Each Permitted t → (end : ℕ) (s : State) → StateClean t s → Says (run_from n t end s) (StateClean t)
unfolding run_from
run_says zero t whole end s h = by (ltb s.position.at end)
  where
    by : (b : Bool) → Says (cond {A = Meaning State} b (stop TooManyLines s.position.line) (done s)) (StateClean t)
    by true = tt
    by false = h
run_says (suc n) t whole end s h = by (ltb s.position.at end) (λ s' k. run_says n t whole end s' k)
  where
    by : (b : Bool) → ((s' : State) → StateClean t s' → Says (run_from n t end s') (StateClean t)) → Says (cond {A = Meaning State} b (bind (line_meaning t s) (run_from n t end)) (done s)) (StateClean t)
    by true k = says_bind (line_meaning t s) (run_from n t end) (StateClean t) (StateClean t) (line_says t whole s h) k
    by false k = h

start_clean : (t : List ℕ) (r : Extent) → StateClean t (start_of r)
start_clean t r = record { variables = variables_none; heads = each_same (λ x. Clean (head_line t x)) 9 no_heading (blank_clean t) }

-- What a store answers is printable where it is a string.
bytes_clean : (s : List ℕ) → printable s ≡ true → Clean s
unfolding each between
bytes_clean [] h = tt
bytes_clean (b ∷ s) h =
    let t = and_true (between 32 126 b) (printable s) h in
    let u = and_true (leb 32 b) (leb b 126) t.0 in
    (record { least = leb-true 32 b u.0; most = leb-true b 126 u.1 }, bytes_clean s t.1)

answer_clean : (a : Answer) → AnswerHas Lettered a → AnswerClean a
answer_clean A.missing h = tt
answer_clean (A.cell (A.number q)) h = tt
answer_clean (A.cell (A.string s)) h = bytes_clean s h
answer_clean (A.highest n) h = tt

answers_clean : (b : List ℕ) (n : ℕ) (q : Question) → AnswerClean (answers b n q)
answers_clean b n q = answer_clean (answers b n q) (ask_lettered b n q)

abbrev pub AllProper : Outcome → Type 0
AllProper o = Each Proper o.events

-- Every line that a report prints is one line of 0x20–0x7E with its 0x0A, and every break a form feed or, under $NOFF, nothing.
pub text_is_lines : (t name b : List ℕ) (n places room : ℕ) → AllProper (report_of t name b n places room)
unfolding report_of checked_outcome
text_is_lines t name b n places room = by (holds_cells (cells_held b n))
  where
    checked : (k : Result Extent (Refusal × ℕ)) → template_checked t name ≡ k → AllProper (checked_outcome t (answers b n) places room k)
    checked (Ok r) e =
        says_events (answers b n) (answers_clean b n) (StateClean t) places room (run_meaning t r)
        (run_says 50000 t (bytes_permitted t (accepted_runs t name r e).checks.bytes) r.until (start_of r) (start_clean t r))
    checked (Err (e, l)) i = tt

    by : (f : Bool) → AllProper (cond f (checked_outcome t (answers b n) places room (template_checked t name)) (refused_report BadStore 0))
    by true = checked (template_checked t name) refl
    by false = tt
