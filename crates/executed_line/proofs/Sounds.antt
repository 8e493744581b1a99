-- What holds between the lines of a run, whatever the store answers: shown once of the definition, used for the 60 lines of a
-- page and for what the code needs alike.
use Rattle.std.specs.Prelude.{Option, Some, None}
use mathlib.Core.Path.{◌≡◌, refl, sym, ap, ◌∙◌}
use mathlib.Core.Bool.{Bool, true, false, cond}
use mathlib.Core.List.{List, [], ◌∷◌}
use Prim.Native.Nat.{ℕ, zero, suc, ◌+◌, ◌-◌, ◌≤◌, ◌<◌}
use native.Mathlib.Omega.{arith}
use borrow.Author.Tests.{ne_eqb}
use lib.IntN.{pos}
use lib.Signed.{lt_z}
use lib.ListN.{length, drop, replicate, length-replicate}
use Rattle.scan.specs.declared.run.Class.TheVariants.{InLine}
use Rattle.scan.specs.Line.{line_at}
use Rattle.scan.proofs.RunLaws.{take_span}
use Rattle.nesting.specs.declared.Shape.{Shape}
use Rattle.nesting.specs.declared.Shape.TheVariants.{Section, Remark, Test, Else, EndTest, Table, EndTable, Plain}
use Rattle.arguments.specs.declared.argument.Argument.{Argument}
use Rattle.lines.specs.declared.command.Line.{Line}
use Rattle.lines.specs.declared.command.Line.TheVariants as form
use Rattle.lines.specs.Readers.Command.{parse_line}
use Rattle.template.specs.declared.seek.Sought.TheVariants.{Branch, TestEnd, TableEnd}
use Rattle.template.specs.Shape.{shape_in, shape_of}
use Rattle.template.specs.Opening.{Checks}
use Rattle.template.proofs.Opening.{opens_line}
use Rattle.meaning.specs.Answer.{Answer}
use Rattle.meaning.specs.Each.{Each}
use Rattle.meaning.specs.Tree.{done, bind}
use Rattle.meaning.specs.Rule.{Keeps, page_limit}
use Rattle.meaning.specs.Meaning.{Meaning}
use Rattle.meaning.proofs.Keeping.{keeps_bind}
use Rattle.values.specs.Machine.{Variables}
use Rattle.values.proofs.Giving.{Gives, Anything, gives_keeps}
use Rattle.commands.specs.declared.table.Table as C
use Rattle.commands.specs.Settling.{integer_meaning}
use Rattle.commands.specs.Setting.{set_meaning}
use Rattle.commands.specs.Testing.{zero_meaning, test_meaning}
use Rattle.commands.specs.Looping.{Looping, innermost, new_table, counted_to, begin_meaning, end_meaning}
use Rattle.control.specs.Fetching.{records_meaning, entries_meaning}
use Rattle.control.specs.Selecting.{datasource_meaning}
use Rattle.control.proofs.Giving.{Shaped, numbered_length, set_gives, records_gives, entries_gives, integer_gives, zero_gives, test_gives, Begun, skipped, opened, Counting, ended, again, begin_gives, end_gives, Selectable, datasource_gives}
use Rattle.control.proofs.Ranges.{numbered_each}
use Rattle.pages.specs.declared.page.Page.{Page}
use Rattle.pages.specs.declared.heading.Heading.{Heading}
use Rattle.pages.specs.Heading.{no_heading}
use Rattle.pages.specs.Page.{head_line, head_from, break_meaning, line_step}
use Rattle.pages.proofs.Stepping.{blank_fits}
use Rattle.lines.proofs.Accepted.{heading_accepted}
use Rattle.pages.proofs.Sixty as P
use Rattle.control.specs.State.{State, seen, with_position, with_variables, with_datasource, with_tables, with_layout, with_page, no_variables, cleared}
use Rattle.control.specs.Line.{past_line, jumped, setting, branched, testing, table_begun, table_counted, breaking, breaking_for, new_page_meaning, headed, form_meaning, parsed_meaning, line_meaning}
use Rattle.control.specs.Inner.Sound.{Nested, Fit, Sound, Full}
use Rattle.executed_line.proofs.Places.{nested_plain, nested_remark, nested_section, nested_end_test, nested_test, nested_failed, nested_else, nested_begun, nested_skipped, nested_ended, nested_again}

-- LINENUM is one more than the lines on the page
pub record On (t : List ℕ) (g : ℕ) (s : State) (c : ℕ) : Type 0 where
  pub sound : Sound t g s
  pub next : s.page.row ≡ suc c

-- ---- headings

pub blank_heading : (t : List ℕ) → Fit t no_heading
unfolding head_line head_from
blank_heading t = record { fits = blank_fits; short = omega arith }

line_heading : (t : List ℕ) (at n line : ℕ) (from : ℕ) → 1 ≤ line → parse_line (line_at t at) ≡ Some (form.Heading n from) → length (line_at t at) ≤ 132 → Fit t (record { start = at; length = length (line_at t at); from = from; number = line })
unfolding head_line head_from
line_heading t at n line from h e k =
    let d : line ≡ 0 → ⊥ = λ z. omega arith in
    let x : Heading = record { start = at; length = length (line_at t at); from = from; number = line } in
    let a : head_line t x ≡ line_at t at = rw (ne_eqb line 0 d) (take_span InLine (drop at t)) in
    let b : head_from x ≡ from = rw (ne_eqb line 0 d) in
    record { fits = rw (a, b) (heading_accepted (line_at t at) n from e); short = rw a k }

pub each_same : {A : Type 0} (P : A → Type 0) (n : ℕ) (h : A) → P h → Each P (replicate n h)
each_same P zero h p = tt
each_same P (suc n) h p = (p, each_same P n h p)

-- ---- as many variables as there are

full_same : {v v' : Variables} → Full v → Shaped v v' → Full v'
full_same f e = record { integers = e.integers ∙ f.integers; decimals = e.decimals ∙ f.decimals; strings = e.strings ∙ f.strings; records = e.records ∙ f.records; entries = e.entries ∙ f.entries }

pub full_none : Full no_variables
full_none = record { integers = length-replicate 99 (pos 0); decimals = length-replicate 99 (pos 0); strings = length-replicate {A = List ℕ} 99 []; records = length-replicate {A = List Answer} 10 []; entries = length-replicate {A = List Answer} 10 [] }

-- ---- the state behind a line, with one part changed

module _ {t : List ℕ} {g : ℕ} {s : State} (i : Sound t g s) where
  pub sound_at : (at line : ℕ) → (at < length t → Nested t at line s.tables) → Sound t g (with_position s at line)
  sound_at at line h = record { checks = i.checks; nested = h; number = i.number; first_row = i.first_row; last_row = i.last_row; datasource = i.datasource; variables = i.variables; headings = i.headings; heads = i.heads }

  sound_tables : (at line : ℕ) (ts : List C.Table) → (at < length t → Nested t at line ts) → Sound t g (with_position (with_tables s ts) at line)
  sound_tables at line ts h = record { checks = i.checks; nested = h; number = i.number; first_row = i.first_row; last_row = i.last_row; datasource = i.datasource; variables = i.variables; headings = i.headings; heads = i.heads }

  sound_variables : (v : Variables) → Shaped s.variables v → Sound t g (with_variables s v)
  sound_variables v e = record { checks = i.checks; nested = i.nested; number = i.number; first_row = i.first_row; last_row = i.last_row; datasource = i.datasource; variables = full_same i.variables e; headings = i.headings; heads = i.heads }

  sound_datasource : (d : ℕ) → d ≤ 35 → Sound t g (with_datasource s d)
  sound_datasource d h = record { checks = i.checks; nested = i.nested; number = i.number; first_row = i.first_row; last_row = i.last_row; datasource = h; variables = i.variables; headings = i.headings; heads = i.heads }

  sound_heading : (n : ℕ) (h : Heading) → Fit t h → Sound t g (headed s n h)
  sound_heading n h f = record { checks = i.checks; nested = i.nested; number = i.number; first_row = i.first_row; last_row = i.last_row; datasource = i.datasource; variables = i.variables; headings = numbered_length s.layout.headings n h ∙ i.headings; heads = numbered_each (Fit t) s.layout.headings n h f i.heads }

  sound_feeds : (f : Bool) → Sound t g (with_layout s s.layout.headings f)
  sound_feeds f = record { checks = i.checks; nested = i.nested; number = i.number; first_row = i.first_row; last_row = i.last_row; datasource = i.datasource; variables = i.variables; headings = i.headings; heads = i.heads }

  sound_page : (g' : ℕ) (p : Page) → p.number ≤ g' → 1 ≤ p.row → p.row ≤ 61 → Sound t g' (with_page s p)
  sound_page g' p a b c = record { checks = i.checks; nested = i.nested; number = a; first_row = b; last_row = c; datasource = i.datasource; variables = i.variables; headings = i.headings; heads = i.heads }

  sound_cleared : Sound t g (cleared s)
  sound_cleared = record { checks = i.checks; nested = i.nested; number = i.number; first_row = i.first_row; last_row = i.last_row; datasource = i.datasource; variables = full_none; headings = length-replicate 9 no_heading; heads = each_same (Fit t) 9 no_heading (blank_heading t) }

-- a line raises PAGENUM by at most one
pub sound_more : {t : List ℕ} {g : ℕ} {s : State} (g' : ℕ) → g ≤ g' → Sound t g s → Sound t g' s
sound_more g' h i = record { checks = i.checks; nested = i.nested; number = omega (arith, i.number); first_row = i.first_row; last_row = i.last_row; datasource = i.datasource; variables = i.variables; headings = i.headings; heads = i.heads }

-- ---- the line at s, by its form

module _ {t : List ℕ} {g : ℕ} {s : State} {c : ℕ} (i : On t g s c) (h : s.position.at < length t) where
  abbrev body : List ℕ
  body = line_at t s.position.at

  abbrev s₁ : State
  s₁ = past_line s (length body)

  checks : Checks t
  checks = i.sound.checks

  here : Nested t s.position.at s.position.line s.tables
  here = i.sound.nested h

  wider : Sound t (g + 1) s
  wider = sound_more (g + 1) (omega arith) i.sound

  -- behind the line, where the nesting goes on there
  behind : Nested t s₁.position.at s₁.position.line s.tables → On t (g + 1) s₁ c
  behind k = record { sound = sound_at wider s₁.position.at s₁.position.line (λ _. k); next = i.next }

  shaped : (x : Shape) (f : Line) → parse_line body ≡ Some f → shape_in (Some f) ≡ x → shape_of body ≡ x
  unfolding shape_of
  shaped x f e k = ap shape_in e ∙ k

  plain : shape_of body ≡ Plain → On t (g + 1) s₁ c
  plain e = behind (nested_plain checks here h e)

  -- a command that only sets
  sets_keep : (m : Meaning Variables) → Gives m (Shaped s.variables) → On t (g + 1) s₁ c → Keeps (page_limit 60) (setting s₁ m) c (On t (g + 1))
  sets_keep m k o = keeps_bind (page_limit 60) m (λ x. done (with_variables s₁ x)) c (λ x c'. Shaped s.variables x × (c' ≡ c)) (On t (g + 1)) (gives_keeps (page_limit 60) m c (Shaped s.variables) k) (λ x c' q. record { sound = sound_variables o.sound x q.0; next = o.next ∙ ap suc (sym q.1) })

  -- a test
  tests_keep : (m : Meaning Bool) → Gives m Anything → shape_of body ≡ Test → Keeps (page_limit 60) (testing t s₁ m) c (On t (g + 1))
  unfolding branched
  tests_keep m k e = keeps_bind (page_limit 60) m (λ holds. done (branched t s₁ holds)) c (λ b c'. Anything b × (c' ≡ c)) (On t (g + 1)) (gives_keeps (page_limit 60) m c Anything k) (λ b c' q. by b c' q.1)
    where
      by : (b : Bool) (c' : ℕ) → c' ≡ c → On t (g + 1) (branched t s₁ b) c'
      by true c' q = rw q (behind (nested_test checks here h e))
      by false c' q = rw q (record { sound = sound_at wider (jumped t s₁ Branch).position.at (jumped t s₁ Branch).position.line (λ k. nested_failed checks here h e k); next = i.next })

  begins_keep : (x : Looping) → shape_of body ≡ Table → Begun s.tables s₁.position.at s₁.position.line x → On t (g + 1) (table_begun t s₁ x) c
  unfolding table_begun
  begins_keep _ e skipped = record { sound = sound_at wider (jumped t s₁ TableEnd).position.at (jumped t s₁ TableEnd).position.line (λ k. nested_skipped checks here h e k); next = i.next }
  begins_keep _ e (opened n) = record { sound = sound_tables wider s₁.position.at s₁.position.line (new_table n s₁.position.at s₁.position.line ∷ s.tables) (λ _. nested_begun checks here h e (new_table n s₁.position.at s₁.position.line) refl refl); next = i.next }

  ends_keep : (x : Looping) → shape_of body ≡ EndTable → Counting s.tables x → On t (g + 1) (table_counted s₁ x) c
  unfolding table_counted
  ends_keep _ e ended = record { sound = sound_tables wider s₁.position.at s₁.position.line (drop 1 s.tables) (λ _. nested_ended checks here h e); next = i.next }
  ends_keep _ e (again n j k) = record { sound = sound_tables wider (innermost s.tables).start (innermost s.tables).line (counted_to (innermost s.tables) n ∷ drop 1 s.tables) (λ _. nested_again checks here h n e); next = i.next }

  -- a page that the line left
  paged : (m : Meaning Page) → Keeps (page_limit 60) m c (P.On (g + 1)) → On t (g + 1) s₁ c → Keeps (page_limit 60) (bind m (λ p. done (with_page s₁ p))) c (On t (g + 1))
  paged m k o = keeps_bind (page_limit 60) m (λ p. done (with_page s₁ p)) c (P.On (g + 1)) (On t (g + 1)) k (λ p c' q. record { sound = sound_page o.sound (g + 1) p q.number (omega (arith, q.next)) (omega (arith, q.next, q.most)); next = q.next })

  breaks_keep : On t (g + 1) s₁ c → Keeps (page_limit 60) (breaking s.position.line s₁) c (On t (g + 1))
  unfolding breaking
  breaks_keep o = paged (break_meaning s.position.line s.layout.form_feeds s.page) (P.break_keeps s.position.line g s.layout.form_feeds s.page c i.sound.number) o

  pages_keep : (n : Option Argument) → On t (g + 1) s₁ c → Keeps (page_limit 60) (new_page_meaning s.position.line body s₁ n) c (On t (g + 1))
  unfolding new_page_meaning breaking_for
  pages_keep None o = breaks_keep o
  pages_keep (Some a) o = keeps_bind (page_limit 60) (integer_meaning (seen s₁) body s.position.line a) (breaking_for s.position.line s₁) c (λ z c'. Anything z × (c' ≡ c)) (On t (g + 1)) (gives_keeps (page_limit 60) (integer_meaning (seen s₁) body s.position.line a) c Anything (integer_gives (seen s₁) body s.position.line a)) (λ z c' q. rw q.1 (by (lt_z (pos (61 - s.page.row)) z)))
    where
      by : (b : Bool) → Keeps (page_limit 60) (cond b (breaking s.position.line s₁) (done s₁)) c (On t (g + 1))
      by true = breaks_keep o
      by false = o

  form_keeps : (f : Line) → parse_line body ≡ Some f → Keeps (page_limit 60) (form_meaning t s.position.at s.position.line body s₁ f) c (On t (g + 1))
  unfolding form_meaning shape_in
  form_keeps form.Text e = paged (line_step (seen s₁) t s.position.line s.layout.form_feeds s.layout.headings body s.page) (P.step_keeps (seen s₁) t s.position.line s.layout.form_feeds s.layout.headings body g s.page c (record { next = i.next; most = omega (arith, i.next, i.sound.last_row); number = i.sound.number })) (plain (shaped Plain form.Text e refl))
  form_keeps (form.Section a b) e = let o = behind (nested_section checks here h (shaped Section (form.Section a b) e refl)) in record { sound = sound_cleared o.sound; next = i.next }
  form_keeps (form.Set o v a) e = sets_keep (set_meaning (seen s₁) body s.position.line o v a) (set_gives (seen s₁) body s.position.line o v a) (plain (shaped Plain (form.Set o v a) e refl))
  form_keeps (form.IfNot a) e = tests_keep (zero_meaning (seen s₁) body s.position.line true a) (zero_gives (seen s₁) body s.position.line true a) (shaped Test (form.IfNot a) e refl)
  form_keeps (form.If a) e = tests_keep (zero_meaning (seen s₁) body s.position.line false a) (zero_gives (seen s₁) body s.position.line false a) (shaped Test (form.If a) e refl)
  form_keeps (form.Compare k a b) e = tests_keep (test_meaning (seen s₁) body s.position.line k a b) (test_gives (seen s₁) body s.position.line k a b) (shaped Test (form.Compare k a b) e refl)
  form_keeps form.Else e = record { sound = sound_at wider (jumped t s₁ TestEnd).position.at (jumped t s₁ TestEnd).position.line (λ k. nested_else checks here h (shaped Else form.Else e refl) k); next = i.next }
  form_keeps form.EndIf e = behind (nested_end_test checks here h (shaped EndTest form.EndIf e refl))
  form_keeps (form.BeginTable a) e = keeps_bind (page_limit 60) (begin_meaning (seen s₁) body s.position.line s.tables s₁.position.at s₁.position.line a) (λ x. done (table_begun t s₁ x)) c (λ x c'. Begun s.tables s₁.position.at s₁.position.line x × (c' ≡ c)) (On t (g + 1)) (gives_keeps (page_limit 60) (begin_meaning (seen s₁) body s.position.line s.tables s₁.position.at s₁.position.line a) c (Begun s.tables s₁.position.at s₁.position.line) (begin_gives (seen s₁) body s.position.line s.tables s₁.position.at s₁.position.line a)) (λ x c' q. rw q.1 (begins_keep x (shaped Table (form.BeginTable a) e refl) q.0))
  form_keeps (form.EndTable k) e = keeps_bind (page_limit 60) (end_meaning (seen s₁) body s.position.line s.tables k) (λ x. done (table_counted s₁ x)) c (λ x c'. Counting s.tables x × (c' ≡ c)) (On t (g + 1)) (gives_keeps (page_limit 60) (end_meaning (seen s₁) body s.position.line s.tables k) c (Counting s.tables) (end_gives (seen s₁) body s.position.line s.tables k)) (λ x c' q. rw q.1 (ends_keep x (shaped EndTable (form.EndTable k) e refl) q.0))
  form_keeps (form.Records f) e = sets_keep (records_meaning (seen s₁) s.position.line f) (records_gives (seen s₁) s.position.line f) (plain (shaped Plain (form.Records f) e refl))
  form_keeps (form.Entries f) e = sets_keep (entries_meaning (seen s₁) s.position.line f) (entries_gives (seen s₁) s.position.line f) (plain (shaped Plain (form.Entries f) e refl))
  form_keeps (form.Datasource x) e = let o = plain (shaped Plain (form.Datasource x) e refl) in keeps_bind (page_limit 60) (datasource_meaning (seen s₁) s.position.line x) (λ d. done (with_datasource s₁ d)) c (λ d c'. Selectable d × (c' ≡ c)) (On t (g + 1)) (gives_keeps (page_limit 60) (datasource_meaning (seen s₁) s.position.line x) c Selectable (datasource_gives (seen s₁) s.position.line x)) (λ d c' q. record { sound = sound_datasource o.sound d q.0.high; next = i.next ∙ ap suc (sym q.1) })
  form_keeps form.NoFormFeed e = record { sound = sound_feeds (plain (shaped Plain form.NoFormFeed e refl)).sound false; next = i.next }
  form_keeps (form.NewPage n) e = pages_keep n (plain (shaped Plain (form.NewPage n) e refl))
  form_keeps (form.Heading n from) e = record { sound = sound_heading (plain (shaped Plain (form.Heading n from) e refl)).sound n (record { start = s.position.at; length = length body; from = from; number = s.position.line }) (line_heading t s.position.at n s.position.line from (omega (arith, here.number)) e (opens_line checks here.opens h).short); next = i.next }
  form_keeps (form.NoHeading n) e = record { sound = sound_heading (plain (shaped Plain (form.NoHeading n) e refl)).sound n no_heading (blank_heading t); next = i.next }
  form_keeps form.Remark e = behind (nested_remark checks here h (shaped Remark form.Remark e refl))

  -- One line.
  pub line_keeps : Keeps (page_limit 60) (line_meaning t s) c (On t (g + 1))
  unfolding line_meaning
  line_keeps = go (parse_line body) refl
    where
      go : (x : Option Line) → parse_line body ≡ x → Keeps (page_limit 60) (parsed_meaning t s.position.at s.position.line body s₁ x) c (On t (g + 1))
      go (Some f) e = form_keeps f e
      go None e = absurd ((opens_line checks here.opens h).parsed e)
