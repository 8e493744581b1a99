-- "pages (PAGENUM at the end)", at any end: of a run that finished, of one with a line too many, of one refused or cut off before
-- its last line printed anything, and of one refused or cut off inside a text line, after its break. So for the pages of a call.
use Rattle.std.specs.Prelude.{Option, Some, None, Ok}
use Rattle.arguments.specs.declared.argument.Argument.{Argument}
use mathlib.Core.Path.{◌≡◌, refl, sym, ap, ◌∙◌, subst}
use mathlib.Core.Bool.{Bool, true, false, cond}
use mathlib.Core.List.{List, [], ◌∷◌, ◌++◌, append_assoc, append-nil}
use Prim.Native.Nat.{ℕ, zero, suc, ◌+◌, ◌-◌, ◌<◌}
use native.Mathlib.Omega.{arith}
use borrow.Author.Tests.{leb-true, leb-false, ltb-true}
use lib.Dec.{leb, ltb}
use lib.IntN.{pos}
use lib.Signed.{lt_z}
use lib.ListN.{length}
use Rattle.scan.specs.Line.{line_at}
use Rattle.lines.specs.declared.command.Line.{Line}
use Rattle.lines.specs.declared.command.Line.TheVariants as form
use Rattle.lines.specs.Readers.Command.{parse_line}
use Rattle.texts.specs.Pieces.{pieces_of}
use Rattle.template.specs.declared.Extent.{Extent}
use Rattle.template.specs.Order.{template_checked}
use Rattle.meaning.specs.Answer.{Answer}
use Rattle.meaning.specs.Event.{Event, break, breaks}
use Rattle.meaning.specs.Tree.{done, stop, bind, Cause, refused, cut, End, finished, halted, Run, run}
use Rattle.meaning.specs.Rule.{Keeps}
use Rattle.meaning.specs.Meaning.{Meaning}
use Rattle.meaning.specs.declared.question.Question.{Question}
use Rattle.meaning.specs.declared.refusal.Refusal.{Refusal}
use Rattle.meaning.specs.declared.refusal.Refusal.TheVariants.{TooManyLines}
use Rattle.meaning.specs.declared.refusal.Overflow.TheVariants.{Output}
use Rattle.meaning.proofs.Binding.{behind}
use Rattle.meaning.proofs.Runs.{run_print, run_print_full}
use Rattle.meaning.proofs.Keeping.{keeps_bind, keeps_run}
use Rattle.meaning.proofs.Events.{breaks_append}
use Rattle.values.specs.Machine.{Machine}
use Rattle.values.specs.Source.{answers}
use Rattle.values.proofs.Giving.{Gives, Anything, gives_bind, gives_keeps}
use Rattle.pages.specs.Text.{field_values, rendered, any_wrong, printed_unless_wrong, text_meaning}
use Rattle.pages.specs.declared.page.Page.{Page}
use Rattle.pages.specs.declared.heading.Heading.{Heading}
use Rattle.pages.specs.Page.{broken_of, advanced_of, on, say_meaning, break_meaning, turn_meaning, line_step}
use Rattle.pages.specs.Inner.Listing.{turned_page, Due, says_on, lines_due}
use Rattle.pages.proofs.Listing.{step_says}
use Rattle.pages.proofs.Counting.{values_give}
use Rattle.commands.specs.Settling.{integer_meaning}
use Rattle.commands.specs.Setting.{set_meaning}
use Rattle.commands.specs.Testing.{zero_meaning, test_meaning}
use Rattle.commands.specs.Looping.{begin_meaning, end_meaning}
use Rattle.control.specs.Fetching.{records_meaning, entries_meaning}
use Rattle.control.specs.Selecting.{datasource_meaning}
use Rattle.control.proofs.Giving.{Shaped, set_gives, records_gives, entries_gives, integer_gives, zero_gives, test_gives, Begun, Counting, begin_gives, end_gives, Selectable, datasource_gives}
use Rattle.control.specs.State.{State, seen, with_variables, with_datasource, with_page}
use Rattle.control.specs.Line.{past_line, branched, table_begun, table_counted, breaking, breaking_for, new_page_meaning, form_meaning, parsed_meaning, line_meaning}
use Rattle.history.specs.LentStore.{LentStore, in_form}
use Rattle.report.specs.Report.{run_from, start_of, run_meaning, ran_to, checked_outcome, report_of}
use Rattle.report.specs.Inner.Stretch.{stretch}
use Rattle.report.proofs.Pages.{pages_are_pagenum, pagenum_counts}
use Rattle.demands.specs.Calls.{ReportCall}
use Rattle.demands.specs.Due.{bytes_due}
use Rattle.demands.specs.Ending.{LastPage, finally, lines_used_up, nothing_printed, in_text_line}
use Rattle.demands.proofs.Halting.{places_behind, room_behind, HaltedIn, first, second, finished_then, halted_first, halted_in, gives_nothing, lines_only, no_breaks}

abbrev Ran : Type 0 → Type 0
Ran A = Run Question Refusal ℕ A

abbrev end_in : {A : Type 0} → Ran A → End Refusal ℕ A
end_in x = x.end

abbrev events_in : {A : Type 0} → Ran A → List Event
events_in x = x.events

abbrev Whatever : {A : Type 0} → A → Unit {0} → Type 0
Whatever a s = Unit {0}

-- ---- a line on a page prints no break

text_unbroken : (m : Machine) (l : List ℕ) (from n : ℕ) → Keeps lines_only (text_meaning m l from n) tt Whatever
unfolding text_meaning
text_unbroken m l from n =
    keeps_bind lines_only (field_values m l n (pieces_of l from)) (λ ws. printed_unless_wrong n (any_wrong ws) (rendered (pieces_of l from) ws)) tt (λ ws s. Anything ws × (s ≡ tt)) Whatever (gives_keeps lines_only (field_values m l n (pieces_of l from)) tt Anything (values_give m l n (pieces_of l from)))
    (λ ws s _. go (any_wrong ws) (rendered (pieces_of l from) ws))
  where
    go : (w : Bool) (b : List ℕ) → Keeps lines_only (printed_unless_wrong n w b) tt Whatever
    go true b = tt
    go false b = (tt, tt)

says_unbroken : (m : Machine) (ds : List Due) (p : Page) → Keeps lines_only (says_on m ds p) tt Whatever
unfolding say_meaning
says_unbroken m [] p = tt
says_unbroken m (d ∷ ds) p =
    keeps_bind lines_only (say_meaning m d.bytes d.from d.number p) (λ _. says_on m ds (advanced_of p)) tt Whatever Whatever
    (keeps_bind lines_only (text_meaning (on m p) d.bytes d.from d.number) (λ _. done (advanced_of p)) tt Whatever Whatever (text_unbroken (on m p) d.bytes d.from d.number) (λ _ s _. tt))
    (λ _ s _. says_unbroken m ds (advanced_of p))

unfinished : {A : Type 0} (a : A) (c : Cause Refusal) (l : ℕ) → ◌≡◌ {A = End Refusal ℕ A} (finished a) (halted c l) → ⊥
unfinished {A} a c l e = subst IsFinished e tt
  where
    IsFinished : End Refusal ℕ A → Type 0
    IsFinished (finished a) = Unit {0}
    IsFinished (halted c l) = ⊥

module _ (source : Question → Answer) (c : Cause Refusal) (l : ℕ) where
  abbrev feed : Bool → List ℕ
  feed feeds = cond feeds (12 ∷ []) []

  -- a break that was cut off wrote nothing
  break_halted : (due : ℕ) (feeds : Bool) (p : Page) (n r : ℕ) → (run source n r (break_meaning due feeds p)).end ≡ halted c l → (run source n r (break_meaning due feeds p)).events ≡ []
  unfolding run break_meaning
  break_halted due feeds p n r h = go (leb (length (feed feeds)) r) refl
    where
      go : (b : Bool) → leb (length (feed feeds)) r ≡ b → (run source n r (break_meaning due feeds p)).events ≡ []
      go true e =
          absurd (unfinished (broken_of p) c l (sym (ap end_in (run_print source n r (break (feed feeds)) due (done (broken_of p)) (leb-true (length (feed feeds)) r e))) ∙ h))
      go false e = ap events_in (run_print_full source n r (break (feed feeds)) due (done (broken_of p)) (leb-false (length (feed feeds)) r e))

  -- one that was written raises PAGENUM
  break_finished : (due : ℕ) (feeds : Bool) (p q : Page) (n r : ℕ) → (run source n r (break_meaning due feeds p)).end ≡ finished q → breaks (run source n r (break_meaning due feeds p)).events ≡ 1
  unfolding run break_meaning breaks
  break_finished due feeds p q n r h = go (leb (length (feed feeds)) r) refl
    where
      go : (b : Bool) → leb (length (feed feeds)) r ≡ b → breaks (run source n r (break_meaning due feeds p)).events ≡ 1
      go true e = ap (λ (x : Ran Page). breaks x.events) (run_print source n r (break (feed feeds)) due (done (broken_of p)) (leb-true (length (feed feeds)) r e))
      go false e =
          absurd (unfinished q (cut Output) due (sym h ∙ ap end_in (run_print_full source n r (break (feed feeds)) due (done (broken_of p)) (leb-false (length (feed feeds)) r e))))

  -- how a line was halted that is due on page p, after these events: before it printed anything, or as a text line, behind its break
  pub data Halts (f : Option Line) (p : Page) (vs : List Event) : Type 0 where
    nothing : vs ≡ [] → Halts f p vs
    inside : f ≡ Some form.Text → (turned_page p).number ≡ p.number + breaks vs → Halts f p vs

  step_halted : (m : Machine) (t : List ℕ) (due : ℕ) (feeds : Bool) (hs : List Heading) (x : List ℕ) (p : Page) (n r : ℕ)
      → (run source n r (line_step m t due feeds hs x p)).end ≡ halted c l → Halts (Some form.Text) p (run source n r (line_step m t due feeds hs x p)).events
  unfolding run breaks turn_meaning
  step_halted m t due feeds hs x p n r h = rw (step_says m t due x feeds hs p) (go (halted_in source (turn_meaning due feeds p) says n r c l (subst (λ (y : Meaning Page). (run source n r y).end ≡ halted c l) (step_says m t due x feeds hs p) h)))
    where
      says : Page → Meaning Page
      says _ = says_on m (lines_due t due hs x (turned_page p)) (turned_page p)

      n' : ℕ
      n' = places_behind source n r (turn_meaning due feeds p)

      r' : ℕ
      r' = room_behind source n r (turn_meaning due feeds p)

      turn_halted : (b : Bool) → (run source n r (cond b (break_meaning due feeds p) (done p))).end ≡ halted c l → (run source n r (cond b (break_meaning due feeds p) (done p))).events ≡ []
      turn_halted true e = break_halted due feeds p n r e
      turn_halted false e = refl

      turn_finished : (b : Bool) (q : Page) → (run source n r (cond b (break_meaning due feeds p) (done p))).end ≡ finished q → (cond b (broken_of p) p).number ≡ p.number + breaks (run source n r (cond b (break_meaning due feeds p) (done p))).events
      turn_finished true q e = omega (arith, break_finished due feeds p q n r e)
      turn_finished false q e = omega arith

      go : HaltedIn source (turn_meaning due feeds p) says n r c l → Halts (Some form.Text) p (run source n r (bind (turn_meaning due feeds p) says)).events
      go (first e v) = nothing (v ∙ turn_halted (ltb 60 p.row) e)
      go (second q f e v) =
          let u = no_breaks (run source n' r' (says_on m (lines_due t due hs x (turned_page p)) (turned_page p))).events (keeps_run lines_only source n' r' (says_on m (lines_due t due hs x (turned_page p)) (turned_page p)) tt Whatever (says_unbroken m (lines_due t due hs x (turned_page p)) (turned_page p))) in
          let k = turn_finished (ltb 60 p.row) q f in
          let a = breaks_append (run source n r (turn_meaning due feeds p)).events (run source n' r' (says_on m (lines_due t due hs x (turned_page p)) (turned_page p))).events in
          inside refl (omega (arith, ap breaks v, a, u, k))

  -- ---- a line

  module _ (t : List ℕ) (start at : ℕ) (body : List ℕ) (s : State) where
    -- a command that only asks
    asks_halted : {A : Type 0} (f : Option Line) (m : Meaning A) (Φ : A → Type 0) → Gives m Φ → (k : A → State) (n r : ℕ) → Halts f s.page (run source n r (bind m (λ a. done (k a)))).events
    asks_halted f m Φ g k n r =
        nothing (gives_nothing source n r (bind m (λ a. done (k a))) Anything (gives_bind m (λ a. done (k a)) Φ Anything g (λ a _. tt)))

    -- a page that a break or a text line leaves
    paged_halted : (f : Option Line) (m : Meaning Page) (n r : ℕ) → (run source n r (bind m (λ p. done (with_page s p)))).end ≡ halted c l
        → ((run source n r m).end ≡ halted c l → Halts f s.page (run source n r m).events) → Halts f s.page (run source n r (bind m (λ p. done (with_page s p)))).events
    unfolding run
    paged_halted f m n r h k = go (halted_in source m (λ p. done (with_page s p)) n r c l h)
      where
        go : HaltedIn source m (λ p. done (with_page s p)) n r c l → Halts f s.page (run source n r (bind m (λ p. done (with_page s p)))).events
        go (first e v) = subst (Halts f s.page) (sym v) (k e)
        go (second p _ e v) = absurd (unfinished (with_page s p) c l e)

    breaking_halted : (f : Option Line) (n r : ℕ) → (run source n r (breaking at s)).end ≡ halted c l → Halts f s.page (run source n r (breaking at s)).events
    unfolding breaking
    breaking_halted f n r h = paged_halted f (break_meaning at s.layout.form_feeds s.page) n r h (λ e. nothing (break_halted at s.layout.form_feeds s.page n r e))

    np_halted : (f : Option Line) (o : Option Argument) (n r : ℕ) → (run source n r (new_page_meaning at body s o)).end ≡ halted c l → Halts f s.page (run source n r (new_page_meaning at body s o)).events
    unfolding new_page_meaning breaking_for run
    np_halted f None n r h = breaking_halted f n r h
    np_halted f (Some a) n r h = go (halted_in source (integer_meaning (seen s) body at a) (breaking_for at s) n r c l h)
      where
        quiet : (run source n r (integer_meaning (seen s) body at a)).events ≡ []
        quiet = gives_nothing source n r (integer_meaning (seen s) body at a) Anything (integer_gives (seen s) body at a)

        by : (b : Bool) (n' r' : ℕ) → (run source n' r' (cond b (breaking at s) (done s))).end ≡ halted c l → Halts f s.page (run source n' r' (cond b (breaking at s) (done s))).events
        by true n' r' e = breaking_halted f n' r' e
        by false n' r' e = absurd (unfinished s c l e)

        go : HaltedIn source (integer_meaning (seen s) body at a) (breaking_for at s) n r c l → Halts f s.page (run source n r (bind (integer_meaning (seen s) body at a) (breaking_for at s))).events
        go (first e v) = nothing (v ∙ quiet)
        go (second z _ e v) =
            subst (Halts f s.page) (sym (v ∙ ap (λ (vs : List Event). vs ++ (run source (places_behind source n r (integer_meaning (seen s) body at a)) (room_behind source n r (integer_meaning (seen s) body at a)) (breaking_for at s z)).events) quiet))
            (by (lt_z (pos (61 - s.page.row)) z) (places_behind source n r (integer_meaning (seen s) body at a)) (room_behind source n r (integer_meaning (seen s) body at a)) e)

    form_halted : (f : Line) (n r : ℕ) → (run source n r (form_meaning t start at body s f)).end ≡ halted c l → Halts (Some f) s.page (run source n r (form_meaning t start at body s f)).events
    unfolding form_meaning run
    form_halted form.Text n r h = paged_halted (Some form.Text) (line_step (seen s) t at s.layout.form_feeds s.layout.headings body s.page) n r h (step_halted (seen s) t at s.layout.form_feeds s.layout.headings body s.page n r)
    form_halted (form.Section a b) n r h = nothing refl
    form_halted (form.Set o v a) n r h = asks_halted _ (set_meaning (seen s) body at o v a) (Shaped s.variables) (set_gives (seen s) body at o v a) (with_variables s) n r
    form_halted (form.IfNot a) n r h = asks_halted _ (zero_meaning (seen s) body at true a) Anything (zero_gives (seen s) body at true a) (branched t s) n r
    form_halted (form.If a) n r h = asks_halted _ (zero_meaning (seen s) body at false a) Anything (zero_gives (seen s) body at false a) (branched t s) n r
    form_halted (form.Compare k a b) n r h = asks_halted _ (test_meaning (seen s) body at k a b) Anything (test_gives (seen s) body at k a b) (branched t s) n r
    form_halted form.Else n r h = nothing refl
    form_halted form.EndIf n r h = nothing refl
    form_halted (form.BeginTable a) n r h = asks_halted _ (begin_meaning (seen s) body at s.tables s.position.at s.position.line a) (Begun s.tables s.position.at s.position.line) (begin_gives (seen s) body at s.tables s.position.at s.position.line a) (table_begun t s) n r
    form_halted (form.EndTable k) n r h = asks_halted _ (end_meaning (seen s) body at s.tables k) (Counting s.tables) (end_gives (seen s) body at s.tables k) (table_counted s) n r
    form_halted (form.Records f) n r h = asks_halted _ (records_meaning (seen s) at f) (Shaped s.variables) (records_gives (seen s) at f) (with_variables s) n r
    form_halted (form.Entries f) n r h = asks_halted _ (entries_meaning (seen s) at f) (Shaped s.variables) (entries_gives (seen s) at f) (with_variables s) n r
    form_halted (form.Datasource x) n r h = asks_halted _ (datasource_meaning (seen s) at x) Selectable (datasource_gives (seen s) at x) (with_datasource s) n r
    form_halted form.NoFormFeed n r h = nothing refl
    form_halted (form.NewPage o) n r h = np_halted (Some (form.NewPage o)) o n r h
    form_halted (form.Heading k from) n r h = nothing refl
    form_halted (form.NoHeading k) n r h = nothing refl
    form_halted form.Remark n r h = nothing refl

    parsed_halted : (x : Option Line) (n r : ℕ) → (run source n r (parsed_meaning t start at body s x)).end ≡ halted c l → Halts x s.page (run source n r (parsed_meaning t start at body s x)).events
    unfolding run
    parsed_halted (Some f) n r h = form_halted f n r h
    parsed_halted None n r h = nothing refl

  line_halted : (t : List ℕ) (s : State) (n r : ℕ) → (run source n r (line_meaning t s)).end ≡ halted c l → Halts (parse_line (bytes_due t s)) s.page (run source n r (line_meaning t s)).events
  unfolding line_meaning
  line_halted t s n r h = parsed_halted t s.position.at s.position.line (line_at t s.position.at) (past_line s (length (line_at t s.position.at))) (parse_line (line_at t s.position.at)) n r h

  -- ---- a run

  -- all k lines were executed, another is due, and it is the one that the end names
  pub record UsedUp (k end lines : ℕ) (state : State) : Type 0 where
    pub all : lines ≡ k
    pub due : state.position.at < end
    pub named : ◌≡◌ {A = End Refusal ℕ State} (halted c l) (halted (refused TooManyLines) state.position.line)

  -- what ended a run of at most k lines behind so many whole ones: one too many, the next before it printed anything, or the next, a
  -- text line, behind its break
  pub data Last (k : ℕ) (t : List ℕ) (end : ℕ) (s : State) (n r lines : ℕ) (state : State) (own : List Event) : Type 0 where
    one_too_many : UsedUp k end lines state → own ≡ [] → Last k t end s n r lines state own
    nothing_yet : (run source n r (stretch (suc lines) t end s)).end ≡ halted c l → own ≡ [] → Last k t end s n r lines state own
    in_text : (run source n r (stretch (suc lines) t end s)).end ≡ halted c l → parse_line (bytes_due t state) ≡ Some form.Text → (turned_page state.page).number ≡ state.page.number + breaks own → Last k t end s n r lines state own

  -- so many lines were executed whole, and the next one, or one too many, ended the run
  pub record HaltsAfter (k : ℕ) (t : List ℕ) (end : ℕ) (s : State) (m : Meaning State) (n r : ℕ) : Type 0 where
    pub lines : ℕ
    pub state : State
    pub reached : (run source n r (stretch lines t end s)).end ≡ finished state
    pub own : List Event
    pub events : (run source n r m).events ≡ (run source n r (stretch lines t end s)).events ++ own
    pub last : Last k t end s n r lines state own

  run_halted : (k : ℕ) (t : List ℕ) (end : ℕ) (s : State) (n r : ℕ) → (run source n r (run_from k t end s)).end ≡ halted c l → HaltsAfter k t end s (run_from k t end s) n r
  unfolding run_from stretch run
  run_halted zero t end s n r h = by (ltb s.position.at end) refl h
    where
      by : (b : Bool) → ltb s.position.at end ≡ b → (run source n r (cond {A = Meaning State} b (stop TooManyLines s.position.line) (done s))).end ≡ halted c l → HaltsAfter 0 t end s (cond {A = Meaning State} b (stop TooManyLines s.position.line) (done s)) n r
      by true e h = record { lines = 0; state = s; reached = refl; own = []; events = refl; last = one_too_many (record { all = refl; due = ltb-true s.position.at end e; named = sym h }) refl }
      by false e h = absurd (unfinished s c l h)
  run_halted (suc k) t end s n r h = by (ltb s.position.at end) refl h (λ s' n' r' h'. run_halted k t end s' n' r' h')
    where
      next_halts : ltb s.position.at end ≡ true → (run source n r (line_meaning t s)).end ≡ halted c l → (run source n r (stretch 1 t end s)).end ≡ halted c l
      next_halts e f = rw e (halted_first source (line_meaning t s) (stretch 0 t end) n r c l f)

      at_once : ltb s.position.at end ≡ true → (run source n r (line_meaning t s)).end ≡ halted c l → Halts (parse_line (bytes_due t s)) s.page (run source n r (line_meaning t s)).events
          → Last (suc k) t end s n r 0 s (run source n r (line_meaning t s)).events
      at_once e f (nothing q) = nothing_yet (next_halts e f) q
      at_once e f (inside q k) = in_text (next_halts e f) q k

      due : ltb s.position.at end ≡ true → ((s' : State) (n' r' : ℕ) → (run source n' r' (run_from k t end s')).end ≡ halted c l → HaltsAfter k t end s' (run_from k t end s') n' r')
          → HaltedIn source (line_meaning t s) (run_from k t end) n r c l → HaltsAfter (suc k) t end s (bind (line_meaning t s) (run_from k t end)) n r
      due e next (first f v) = record { lines = 0; state = s; reached = refl; own = (run source n r (line_meaning t s)).events; events = v; last = at_once e f (line_halted t s n r f) }
      due e next (second s' f g v) = later (next s' _ _ g)
        where
          n' : ℕ
          n' = places_behind source n r (line_meaning t s)

          r' : ℕ
          r' = room_behind source n r (line_meaning t s)

          one_more : (j : ℕ) → run source n r (stretch (suc j) t end s) ≡ behind (run source n r (line_meaning t s)).asked (run source n r (line_meaning t s)).events (run source n' r' (stretch j t end s'))
          one_more j = rw e (finished_then source (line_meaning t s) (stretch j t end) n r s' f)

          again : (j : ℕ) (u : State) (own : List Event) → Last k t end s' n' r' j u own → Last (suc k) t end s n r (suc j) u own
          again j u own (one_too_many x q) = one_too_many (record { all = ap suc x.all; due = x.due; named = x.named }) q
          again j u own (nothing_yet f q) = nothing_yet (ap end_in (one_more (suc j)) ∙ f) q
          again j u own (in_text f x i) = in_text (ap end_in (one_more (suc j)) ∙ f) x i

          later : HaltsAfter k t end s' (run_from k t end s') n' r' → HaltsAfter (suc k) t end s (bind (line_meaning t s) (run_from k t end)) n r
          later x = record {
            lines = suc x.lines;
            state = x.state;
            reached = ap end_in (one_more x.lines) ∙ x.reached;
            own = x.own;
            events = v ∙ ap (λ (vs : List Event). (run source n r (line_meaning t s)).events ++ vs) x.events ∙ sym (append_assoc (run source n r (line_meaning t s)).events (run source n' r' (stretch x.lines t end s')).events x.own) ∙ ap (λ (vs : List Event). vs ++ x.own) (sym (ap events_in (one_more x.lines)));
            last = again x.lines x.state x.own x.last;
          }

      by : (b : Bool) → ltb s.position.at end ≡ b → (run source n r (cond {A = Meaning State} b (bind (line_meaning t s) (run_from k t end)) (done s))).end ≡ halted c l
          → ((s' : State) (n' r' : ℕ) → (run source n' r' (run_from k t end s')).end ≡ halted c l → HaltsAfter k t end s' (run_from k t end s') n' r')
          → HaltsAfter (suc k) t end s (cond {A = Meaning State} b (bind (line_meaning t s) (run_from k t end)) (done s)) n r
      by true e h next = due e next (halted_in source (line_meaning t s) (run_from k t end) n r c l h)
      by false e h next = absurd (unfinished s c l h)

-- ---- the end

-- "pages (PAGENUM at the end)", for every template, run, source of answers, read list and output
pub pages_at_the_end : (source : Question → Answer) (t : List ℕ) (r : Extent) (places room : ℕ) → LastPage source t r places room (ran_to (run source places room (run_meaning t r))).pages (run source places room (run_meaning t r)).end
unfolding breaks
pages_at_the_end source t r places room = by (run source places room (run_meaning t r)).end refl
  where
    x : Run Question Refusal ℕ State
    x = run source places room (run_meaning t r)

    early : (c : Cause Refusal) (l : ℕ) → x.end ≡ halted c l → HaltsAfter source c l 50000 t r.until (start_of r) (run_meaning t r) places room → LastPage source t r places room (1 + breaks x.events) x.end
    early c l e h = go h.last
      where
        number : 1 + breaks x.events ≡ h.state.page.number + breaks h.own
        number = omega (arith, pagenum_counts source places room t r h.lines h.state h.reached, ap breaks h.events, breaks_append (run source places room (stretch h.lines t r.until (start_of r))).events h.own)

        unprinted : h.own ≡ [] → x.events ≡ (run source places room (stretch h.lines t r.until (start_of r))).events
        unprinted q = h.events ∙ ap (λ (vs : List Event). (run source places room (stretch h.lines t r.until (start_of r))).events ++ vs) q ∙ append-nil _

        same : h.own ≡ [] → 1 + breaks x.events ≡ h.state.page.number
        same q = number ∙ omega (arith, ap breaks q)

        go : Last source c l 50000 t r.until (start_of r) places room h.lines h.state h.own → LastPage source t r places room (1 + breaks x.events) x.end
        go (one_too_many u q) = lines_used_up h.state (e ∙ u.named) (rw u.all at h.reached) u.due (rw u.all at (unprinted q)) (same q)
        go (nothing_yet f q) = nothing_printed c l h.lines h.state e h.reached f (unprinted q) (same q)
        go (in_text f y i) = in_text_line c l h.lines h.state e h.reached f y h.own h.events i (number ∙ sym i)

    by : (e : End Refusal ℕ State) → x.end ≡ e → LastPage source t r places room (1 + breaks x.events) x.end
    by (finished s) e = finally s e (pages_are_pagenum source places room t r s e)
    by (halted c l) e = early c l e (run_halted source c l 50000 t r.until (start_of r) places room e)

-- ---- a call

-- on a store in form the report of an accepted template is what its run comes to
accepted_runs_to : (t name : List ℕ) (m : LentStore) (r : Extent) (places room : ℕ) → in_form m ≡ true → template_checked t name ≡ Ok r
    → report_of t name m.buffer m.length places room ≡ ran_to (run (answers m.buffer m.length) places room (run_meaning t r))
unfolding report_of checked_outcome
accepted_runs_to t name m r places room f e = rw (f, e) refl

-- Where checks 1 to 6 pass, the pages that a call hands back are PAGENUM at the end of its run.
pub pages_handed_back : (t name : List ℕ) (m : LentStore) (x : ReportCall t name m) (r : Extent) → in_form m ≡ true → template_checked t name ≡ Ok r
    → LastPage (answers m.buffer m.length) t r (length x.reads) (length x.text) x.returned.pages (run (answers m.buffer m.length) (length x.reads) (length x.text) (run_meaning t r)).end
pages_handed_back t name m x r f e =
    rw (x.contract.result, accepted_runs_to t name m r (length x.reads) (length x.text) f e) (pages_at_the_end (answers m.buffer m.length) t r (length x.reads) (length x.text))
