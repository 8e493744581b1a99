-- A line by its form and values: what each call of `execute` requires, and that it does what the definition says.
use Rattle.meaning.specs.declared.refusal.Refusal.{Refusal}
use Rattle.std.specs.Prelude.{Option, Result, Ok, Err}
use mathlib.Core.Path.{◌≡◌, refl, sym, ap, ◌∙◌, subst}
use mathlib.Core.Bool.{Bool, true, false}
use mathlib.Core.List.{List, [], ◌∷◌, map}
use Prim.Native.Nat.{ℕ, zero, suc, ◌+◌, ◌*◌, ◌-◌, ◌≤◌}
use native.Mathlib.Omega.{arith}
use lib.IntN.{ℤ, pos}
use lib.Signed.{lt_z}
use lib.ListN.{length, take, drop, replicate, length-take, length-drop}
use Rattle.values.specs.Inner.Registers.{Puts}
use Rattle.arguments.specs.declared.argument.Argument.{Argument}
use Rattle.arguments.specs.declared.index.Index.{Index}
use Rattle.lines.specs.declared.command.Comparison.{Comparison}
use Rattle.lines.specs.declared.command.Operation.{Operation}
use Rattle.lines.specs.declared.command.Target.{Target}
use Rattle.lines.specs.declared.command.Fetch.{Fetch}
use Rattle.lines.specs.declared.command.Line.{Line}
use Rattle.lines.specs.declared.command.Line.TheVariants as form
use Rattle.lines.specs.Inner.Sound as parsed
use Rattle.template.specs.declared.seek.Sought.TheVariants.{TestEnd, TableEnd}
use Rattle.texts.proofs.FieldLaws.{fields_few}
use Rattle.buffers.proofs.Laws.{map_set}
use Rattle.meaning.specs.Answer.{Answer}
use Rattle.meaning.specs.declared.question.Question.{Question}
use Rattle.meaning.proofs.Binding.{bind_assoc}
use Rattle.meaning.specs.Each.{Each}
use Rattle.meaning.specs.Tree.{done, bind}
use Rattle.meaning.proofs.Doing.{does_done, does_stop}
use Rattle.values.specs.Inner.Texts.{Strings, strings}
use Rattle.values.specs.declared.scene.Scene.{Scene}
use Rattle.values.specs.declared.fetch.Along.{Along}
use Rattle.values.specs.declared.fetch.Along.TheVariants.{Records, Entries}
use Rattle.values.specs.Machine.{Variables, set_numbered}
use Rattle.values.specs.Fetching.{fetch_meaning}
use Rattle.values.specs.Inner.Hearing.{place_of}
use Rattle.values.specs.Indexes.{index_number}
use Rattle.values.specs.Inner.Word.{questions}
use Rattle.values.specs.Inner.Fetch.{Fetchable, FetchValue}
use Rattle.values.specs.Inner.State.{texts, fetched, bank, integers_in, decimals_in, lengths_in, records_in, entries_in, headings_in, tables_in, Held, held, variables_of, machine}
use Rattle.values.specs.declared.worth.Worth as W
use Rattle.values.specs.Worth.{Worth}
use Rattle.values.specs.Inner.Yielding.{meant}
use Rattle.values.specs.Inner.Working.{Worths, worths}
use Rattle.commands.specs.Settling.{Settled, concluded, integer_from}
use Rattle.commands.specs.Inner.Taking.{integer_or, Takes}
use Rattle.commands.specs.Setting.{set_of}
use Rattle.commands.specs.Inner.Assigning.{Rowed, Assigns}
use Rattle.commands.specs.Testing.{compared}
use Rattle.commands.specs.Inner.Judging.{JudgesZero}
use Rattle.commands.specs.Inner.Open.{opened, open_of, beginning, passing, AtMostOpen, Stays, begin_from, end_from, BeginsTable, EndsTable}
use Rattle.control.specs.Selecting.{datasource_from, datasource_meaning}
use Rattle.control.specs.Fetching.{with_records, with_entries, records_meaning, entries_meaning}
use Rattle.values.proofs.Clearing.{zeros_bank, zeros_behind, texts_cleared, fetched_cleared}
use Rattle.pages.specs.Inner.Pass.{lent}
use Rattle.pages.specs.declared.heading.Heading.{Heading}
use Rattle.pages.specs.Heading.{no_heading}
use Rattle.pages.specs.Inner.Packed.{heading_in, headings_of, Small}
use Rattle.pages.specs.Page.{head_line, head_from, highest_defined, break_meaning, line_step}
use Rattle.pages.specs.declared.page.Page.{Page}
use Rattle.pages.specs.Inner.Listing.{heads_due}
use Rattle.pages.specs.Inner.Paging.{AllFit, fields_in, TurnReady, StepReady, Steps}
use Rattle.pages.proofs.Stepping.{blank_fits, blank_fields}
use Rattle.pages.proofs.Highest.{highest_most}
use Rattle.control.specs.declared.state.Flow.{Flow}
use Rattle.control.specs.State.{State, seen, with_variables, with_datasource, with_tables, with_page, cleared}
use Rattle.control.specs.Line.{jumped, branched, table_begun, table_counted, breaking, breaking_for, headed, form_meaning}
use Rattle.control.specs.Inner.Sound.{Fit}
use Rattle.control.specs.Inner.Executing.{source_of, state_at, machine_in, Executes, FormReady, SameRows}
use Rattle.control.specs.Inner.Forms.{form_with}
use Rattle.control.specs.Inner.Remembering.{Remembered}
use Rattle.control.proofs.Commanding.{then_executes, went_executes, settles_executes, mapped_same, over_executes}
use Rattle.control.proofs.Following.{datasource_is}
use Rattle.control.proofs.Remembering.{remembered_same}
use Rattle.meaning.specs.Meaning.{Meaning}
use Rattle.meaning.specs.declared.end.Stop.{Stop}
use Rattle.meaning.specs.Number.{ended_in}
use Rattle.meaning.specs.Inner.Place.{Does}
use Rattle.values.specs.declared.log.Log.{Log}
use Rattle.values.specs.Inner.Logged.{filled_to}
use Rattle.values.specs.Inner.Fetch.{Fetches}
use Rattle.std.specs.Prelude.{Result, Ok, Err}
use Rattle.control.specs.Inner.Going.{datasource_in, depth_in, feeds_in, page_in, jumped_in, again_in}
use Rattle.control.specs.Inner.Arms.{on_line, Jumpable, Settles, branched_in, begun_in, over_in, datasource_at, Refills, Clears, Heads, PagesLine}
use Rattle.pages.specs.Inner.Paging.{Breaks}

all_fit : (t : List ℕ) (due : ℕ) (hs : List Heading) (n : ℕ) → Each (Fit t) hs → AllFit (heads_due t due (take n hs))
all_fit t due hs zero e = (blank_fits, tt)
all_fit t due [] (suc n) e = (blank_fits, tt)
all_fit t due (x ∷ hs) (suc n) e = (e.0.fits, all_fit t due hs n e.1)

few_fields : (t : List ℕ) (due : ℕ) (hs : List Heading) (n : ℕ) → Each (Fit t) hs → fields_in (heads_due t due (take n hs)) ≤ 33 * n
few_fields t due hs zero e = omega (arith, blank_fields)
few_fields t due [] (suc n) e = omega (arith, blank_fields)
few_fields t due (x ∷ hs) (suc n) e = omega (arith, fields_few (head_line t x) (head_from x) e.0.short, few_fields t due hs n e.1)

headings_cleared : (n : ℕ) → headings_of (replicate n 0) ≡ replicate n no_heading
unfolding heading_in
headings_cleared zero = refl
headings_cleared (suc n) = ap (λ (l : List Heading). no_heading ∷ l) (headings_cleared n)

-- what is kept as Rn or Tn stands for the answers
fetched_kept : (source : Question → Answer) (along : Along) (words : List ℕ) (n w : ℕ) → map (fetched source along) (set_numbered words n w) ≡ set_numbered (map (fetched source along) words) n (fetched source along w)
unfolding set_numbered
fetched_kept source along words zero w = refl
fetched_kept source along words (suc n) w = map_set (fetched source along) words n w

-- a part that is full ends inside its row
bank_full : {A : Type 0} (l : List A) (i k : ℕ) → length (bank i k l) ≡ k → 1 ≤ k → i + k ≤ length l
unfolding bank
bank_full l i k e h = omega (arith, e, length-take k (drop i l), length-drop i l)

bank_long : {A : Type 0} (l l' : List A) (i k : ℕ) → length l' ≡ length l → length (bank i k l') ≡ length (bank i k l)
unfolding bank
bank_long l l' i k e = omega (arith, e, length-take k (drop i l), length-drop i l, length-take k (drop i l'), length-drop i l')

-- ---- the calls of `execute`

module _ {body b index t : List ℕ} {h : Held} {scene : Scene} {start : ℕ} {f : Flow} {line : Line} {T : List ℕ} {u : ℕ} {log : Log} (k : FormReady body b index t h scene start f line T u log) where
  abbrev s : State
  s = state_at b h f

  abbrev S : Strings
  S = strings body b h.rows

  seen_same : machine_in b h scene ≡ seen s
  seen_same = ap (machine_in b h) k.scened

  source_same : scene.datasource ≡ f.datasource
  source_same = ap (λ (x : Scene). x.datasource) k.scened

  sound : (l : Line) → line ≡ l → parsed.Sound body l
  sound l e = subst (parsed.Sound body) e k.parsed

  jumpable_in : {ws : List ℕ} → Remembered t ws → Jumpable t ws f
  jumpable_in r = record { short = omega (arith, k.template); few = omega (arith, k.few); remembered = r }

  pub jumpable : Jumpable t h.words f
  jumpable = jumpable_in k.remembered

  pub section_ready : (198 ≤ length h.numbers) × (128 ≤ length h.words)
  section_ready = (bank_full h.numbers 99 99 k.decimals (omega arith), bank_full h.words 119 9 k.headings (omega arith))

  pub set_ready : Rowed h.rows
  set_ready = record { rows_held = k.rows }

  fetchable : (n : ℕ) → n ≤ 65535 → Fetchable scene.datasource n log.asked
  fetchable n e = record { datasource = omega (arith, source_same, k.datasource); parameter = e; place = omega (arith, k.places) }

  pub records_ready : (x : Fetch) → line ≡ form.Records x → Fetchable scene.datasource x.parameter log.asked
  records_ready x e = fetchable x.parameter (sound (form.Records x) e)

  pub entries_ready : (x : Fetch) → line ≡ form.Entries x → Fetchable scene.datasource x.parameter log.asked
  entries_ready x e = fetchable x.parameter (sound (form.Entries x) e)

  pub heading_small : (n from : ℕ) → line ≡ form.Heading n from → Small (record { start = start; length = length body; from = from; number = scene.number })
  heading_small n from e = record { start = omega (arith, k.placed); length = omega (arith, k.short); from = omega (arith, (sound (form.Heading n from) e).1, k.short); number = omega (arith, k.numbered.1) }

  tables_row : 148 ≤ length h.words
  tables_row = bank_full h.words 128 20 k.table_words (omega arith)

  pub begin_ready : (x : Argument) → line ≡ form.BeginTable x → AtMostOpen 4 h.words f.depth
  begin_ready x e = record { few = k.room_for_table x e; row = tables_row }

  pub begun_ready : (x : Argument) → line ≡ form.BeginTable x → {ws : List ℕ} → Stays h.words ws → (Jumpable t ws f) × (f.depth ≤ 4)
  begun_ready x e d = (jumpable_in (remembered_same (d.above 148 64 (omega arith)) k.remembered), k.room_for_table x e)

  pub end_ready : AtMostOpen 5 h.words f.depth
  end_ready = record { few = k.tables; row = tables_row }

  pub turn_ready : TurnReady f.page T u
  turn_ready = record { room = k.room; number = omega (arith, k.page); row = k.row }

  abbrev hs : List Heading
  hs = headings_of (headings_in h.words)

  -- the text line, as a part of the template
  abbrev due : Heading
  due = record { start = start; length = length body; from = 0; number = scene.number }

  pub step_ready : line ≡ form.Text → StepReady (lent b index h.numbers h.rows h.words) scene f.page t hs due T u log
  step_ready e = record {
    heads = all_fit t scene.number hs (highest_defined hs 9) k.heads;
    fits = rw k.within (sound form.Text e);
    logged = rw k.within (omega (arith, k.places, few_fields t scene.number hs (highest_defined hs 9) k.heads, highest_most hs 9, fields_few body 0 k.short));
    first = refl;
    short_template = omega (arith, k.template);
    short_store = k.stored;
    datasource = omega (arith, source_same, k.datasource);
    room = k.room;
    row = k.row;
    number = omega (arith, k.page);
  }

  -- ---- what they do

  branch_same : (holds : Bool) → state_at b h (branched_in t f holds) ≡ branched t s holds
  unfolding branched
  branch_same true = refl
  branch_same false = refl

  branch_page : (holds : Bool) → (branched_in t f holds).page ≡ f.page
  branch_page true = refl
  branch_page false = refl

  -- the tables as a command left them
  tables_same : (ws : List ℕ) (g : Flow) → Stays h.words ws → state_at b (held h.numbers h.rows ws) g ≡ with_tables (state_at b h g) (open_of ws g.depth)
  tables_same ws g d =
      let l : lengths_in ws ≡ lengths_in h.words = d.others 0 99 (omega arith) in
      let m : records_in ws ≡ records_in h.words = d.others 99 10 (omega arith) in
      let o : entries_in ws ≡ entries_in h.words = d.others 109 10 (omega arith) in
      let q : headings_in ws ≡ headings_in h.words = d.others 119 9 (omega arith) in
      λ z. record { position = record { at = g.at; line = g.line }; variables = record { integers = integers_in h.numbers; decimals = decimals_in h.numbers; strings = texts h.rows 0 (l z); records = map (fetched (source_of b) Records) (m z); entries = map (fetched (source_of b) Entries) (o z) }; datasource = g.datasource; tables = open_of ws g.depth; layout = record { headings = headings_of (q z); form_feeds = g.feeds }; page = g.page }

  begun_same : (ws : List ℕ) → Stays h.words ws → open_of ws f.depth ≡ open_of h.words f.depth → (holds : Bool) → state_at b (held h.numbers h.rows ws) (begun_in t f holds) ≡ table_begun t s (beginning ws f.depth holds)
  unfolding table_begun
  begun_same ws d e true = tables_same ws (depth_in f (f.depth + 1)) d
  begun_same ws d e false = tables_same ws (jumped_in t f TableEnd) d ∙ ap (with_tables (state_at b h (jumped_in t f TableEnd))) e

  begun_page : (holds : Bool) → (begun_in t f holds).page ≡ f.page
  begun_page true = refl
  begun_page false = refl

  ended_same : (ws : List ℕ) → Stays h.words ws → (holds : Bool) → state_at b (held h.numbers h.rows ws) (over_in (tables_in ws) f holds) ≡ table_counted s (passing ws f.depth holds)
  unfolding table_counted
  ended_same ws d true = tables_same ws (again_in (tables_in ws) f) d
  ended_same ws d false = tables_same ws (depth_in f (f.depth - 1)) d

  ended_page : (ws : List ℕ) (holds : Bool) → (over_in ws f holds).page ≡ f.page
  ended_page ws true = refl
  ended_page ws false = refl

  heads_same : (ws : List ℕ) (n : ℕ) (x : Heading) → Heads h.words n x ws → state_at b (held h.numbers h.rows ws) f ≡ headed s n x
  heads_same ws n x d =
      let y : tables_in ws ≡ tables_in h.words = d.above 128 20 (omega arith) in
      let l : lengths_in ws ≡ lengths_in h.words = d.others 0 99 (omega arith) in
      let m : records_in ws ≡ records_in h.words = d.others 99 10 (omega arith) in
      let o : entries_in ws ≡ entries_in h.words = d.others 109 10 (omega arith) in
      λ z. record { position = record { at = f.at; line = f.line }; variables = record { integers = integers_in h.numbers; decimals = decimals_in h.numbers; strings = texts h.rows 0 (l z); records = map (fetched (source_of b) Records) (m z); entries = map (fetched (source_of b) Entries) (o z) }; datasource = f.datasource; tables = opened (y z) f.depth; layout = record { headings = d.set z; form_feeds = f.feeds }; page = f.page }

  -- R, T and the variables as a command left them, with the headings and tables as they were
  variables_same : (h' : Held) → headings_in h'.words ≡ headings_in h.words → tables_in h'.words ≡ tables_in h.words → state_at b h' f ≡ with_variables s (variables_of (source_of b) h')
  variables_same h' e y = λ z. record { position = record { at = f.at; line = f.line }; variables = variables_of (source_of b) h'; datasource = f.datasource; tables = opened (y z) f.depth; layout = record { headings = headings_of (e z); form_feeds = f.feeds }; page = f.page }

  module _ (v : Worths) where
    abbrev With : Held → Flow → List ℕ → ℕ → Log → Result (Unit {0}) Stop → Type 0
    With h' f' T' u' log' r = Executes 330 (form_with t start scene.number body s line v) b h f T u log h' f' T' u' log' r

    pub went_line : (l : Line) → line ≡ l → form_with t start scene.number body s l v ≡ done s → With h f T u log (Ok tt)
    went_line l e q = rw (e, q) (went_executes b h h f f T u log s refl refl (refl, refl))

    pub else_line : (f' : Flow) → line ≡ form.Else → f' ≡ jumped_in t f TestEnd → With h f' T u log (Ok tt)
    unfolding form_with form_meaning
    else_line f' e i = rw (e, i) (went_executes b h h f (jumped_in t f TestEnd) T u log (jumped t s TestEnd) refl refl (refl, refl))

    pub no_form_feed_line : line ≡ form.NoFormFeed → With h (feeds_in f false) T u log (Ok tt)
    unfolding form_with form_meaning
    no_form_feed_line e = rw e (went_executes b h h f (feeds_in f false) T u log (state_at b h (feeds_in f false)) refl refl (refl, refl))

    selects_is : (y : Index) → datasource_meaning (machine_in b h scene) scene.number y ≡ concluded scene.number (datasource_from (index_number (integers_in h.numbers) scene.turn y))
    unfolding datasource_meaning
    selects_is y = refl

    pub datasource_line : (f' : Flow) (r : Result (Unit {0}) Stop) (n : ℕ) (z : ℤ) (y : Index) → line ≡ form.Datasource y → z ≡ scene.turn → n ≡ place_of (index_number (integers_in h.numbers) z y) → Settles scene.number f (datasource_in f) (datasource_at n) f' r → With h f' T u log r
    unfolding form_with form_meaning
    datasource_line f' r n z y e q g w =
        let i = index_number (integers_in h.numbers) scene.turn y in
        rw (e, ← seen_same, selects_is y) (settles_executes (datasource_at n) (datasource_from i) (λ x. x) (with_datasource s) (datasource_is i ∙ ap datasource_at (sym (g ∙ ap (λ (x : ℤ). place_of (index_number (integers_in h.numbers) x y)) q)) ∙ mapped_same (datasource_at n)) w (refl, refl) (λ _. refl) (λ _. refl))

    pub text_line : (p' : Page) (T' : List ℕ) (u' : ℕ) (log' : Log) (r : Result (Unit {0}) Stop) → line ≡ form.Text → Steps (lent b index h.numbers h.rows h.words) scene f.page t hs f.feeds due T u log p' T' u' log' r → With h (page_in f p') T' u' log' r
    unfolding form_with form_meaning
    text_line p' T' u' log' r e d = rw (e, ← seen_same) (by r (rw k.within at (d.does (length b) k.kept.cells k.kept.ready)))
      where
        m : Meaning Page
        m = line_step (machine_in b h scene) t scene.number f.feeds hs body f.page

        few : log'.asked ≤ log.asked + 330
        few = omega (arith, rw k.within at d.few, few_fields t scene.number hs (highest_defined hs 9) k.heads, highest_most hs 9, fields_few body 0 k.short)

        by : (q : Result (Unit {0}) Stop) → Does (source_of b) m (filled_to T u log f.page.number) (filled_to T' u' log' p'.number) (ended_in (λ _. p') q) → Executes 330 (bind m (λ y. done (with_page s y))) b h f T u log h (page_in f p') T' u' log' q
        by (Ok x) did = then_executes m (with_page s) few (refl, refl) p' did refl
        by (Err x) did = over_executes m (with_page s) few (refl, refl) x did

    pub heading_line : (ws : List ℕ) (n from : ℕ) → line ≡ form.Heading n from → Heads h.words n (record { start = start; length = length body; from = from; number = scene.number }) ws → With (held h.numbers h.rows ws) f T u log (Ok tt)
    unfolding form_with form_meaning
    heading_line ws n from e x = rw e (went_executes b h (held h.numbers h.rows ws) f f T u log (headed s n (record { start = start; length = length body; from = from; number = scene.number })) refl (heads_same ws n _ x) (refl, ap length (x.above 128 20 (omega arith))))

    pub no_heading_line : (ws : List ℕ) (n : ℕ) → line ≡ form.NoHeading n → Heads h.words n no_heading ws → With (held h.numbers h.rows ws) f T u log (Ok tt)
    unfolding form_with form_meaning
    no_heading_line ws n e x = rw e (went_executes b h (held h.numbers h.rows ws) f f T u log (headed s n no_heading) refl (heads_same ws n _ x) (refl, ap length (x.above 128 20 (omega arith))))

    -- what was fetched, then the variables with it
    fetched_line : (along : Along) (from : ℕ) (put : List Answer → Variables) (ws : List ℕ) (log' : Log) (r : Result (Unit {0}) Stop) (x : Result ℕ Stop) (y : Fetch) → FetchValue h.numbers scene along y log log' x → Refills from y.number x h.words ws r → from + 10 ≤ 119 → ((w : ℕ) → Puts h.words from 10 y.number w ws → variables_of (source_of b) (held h.numbers h.rows ws) ≡ put (fetched (source_of b) along w)) → Executes 330 (bind (bind (fetch_meaning (machine_in b h scene) scene.number along y.parameter y.«record» y.entry y.count) (λ l. done (put l))) (λ v. done (with_variables s v))) b h f T u log (held h.numbers h.rows ws) f T u log' r
    fetched_line along from put ws log' r x y d i o e = rw (bind_assoc m (λ l. done (put l)) (λ z. done (with_variables s z))) (by x refl (g.does (source_of b) T u f.page.number))
      where
        m : Meaning (List Answer)
        m = fetch_meaning (machine_in b h scene) scene.number along y.parameter y.«record» y.entry y.count

        g : Fetches (λ source. fetch_meaning (machine source (held h.numbers h.rows h.words) scene) scene.number along y.parameter y.«record» y.entry y.count) along log log' x
        g = d.fetches h.rows h.words

        few : log'.asked ≤ log.asked + 330
        few = omega (arith, g.few)

        rows : SameRows h (held h.numbers h.rows ws)
        rows = (refl, ap length (i.above 128 20 (omega arith)))

        by : (q : Result ℕ Stop) → x ≡ q → Does (source_of b) m (filled_to T u log f.page.number) (filled_to T u log' f.page.number) (ended_in (fetched (source_of b) along) x) → Executes 330 (bind m (λ l. done (with_variables s (put l)))) b h f T u log (held h.numbers h.rows ws) f T u log' r
        by (Ok w) q did =
            let j = i.puts w q in
            rw j.0 (then_executes m (λ l. with_variables s (put l)) few rows (fetched (source_of b) along w) (rw q at did) (variables_same (held h.numbers h.rows ws) (j.1.above 119 9 (omega arith)) (i.above 128 20 (omega arith)) ∙ ap (with_variables s) (e w j.1)))
        by (Err w) q did =
            let j = i.kept w q in
            rw j.0 (over_executes m (λ l. with_variables s (put l)) few rows w (rw q at did))

    abbrev put_records : Fetch → List Answer → Variables
    put_records y l = with_records (variables_of (source_of b) h) (set_numbered (map (fetched (source_of b) Records) (records_in h.words)) y.number l)

    records_is : (y : Fetch) → records_meaning (machine_in b h scene) scene.number y ≡ bind (fetch_meaning (machine_in b h scene) scene.number Records y.parameter y.«record» y.entry y.count) (λ l. done (put_records y l))
    unfolding records_meaning
    records_is y = refl

    pub records_line : (ws : List ℕ) (log' : Log) (r : Result (Unit {0}) Stop) (x : Result ℕ Stop) (y : Fetch) → line ≡ form.Records y → FetchValue h.numbers scene Records y log log' x → Refills 99 y.number x h.words ws r → With (held h.numbers h.rows ws) f T u log' r
    unfolding form_with form_meaning
    records_line ws log' r x y e d i =
        rw (e, ← seen_same, records_is y) (fetched_line Records 99 (put_records y) ws log' r x y d i (omega arith) (λ w q.
        rw (q.below 0 99 (omega arith), q.above 109 10 (omega arith)) (ap (with_records (variables_of (source_of b) h)) (ap (map (fetched (source_of b) Records)) q.own ∙ fetched_kept (source_of b) Records (records_in h.words) y.number w))))

    abbrev put_entries : Fetch → List Answer → Variables
    put_entries y l = with_entries (variables_of (source_of b) h) (set_numbered (map (fetched (source_of b) Entries) (entries_in h.words)) y.number l)

    entries_is : (y : Fetch) → entries_meaning (machine_in b h scene) scene.number y ≡ bind (fetch_meaning (machine_in b h scene) scene.number Entries y.parameter y.«record» y.entry y.count) (λ l. done (put_entries y l))
    unfolding entries_meaning
    entries_is y = refl

    pub entries_line : (ws : List ℕ) (log' : Log) (r : Result (Unit {0}) Stop) (x : Result ℕ Stop) (y : Fetch) → line ≡ form.Entries y → FetchValue h.numbers scene Entries y log log' x → Refills 109 y.number x h.words ws r → With (held h.numbers h.rows ws) f T u log' r
    unfolding form_with form_meaning
    entries_line ws log' r x y e d i =
        rw (e, ← seen_same, entries_is y) (fetched_line Entries 109 (put_entries y) ws log' r x y d i (omega arith) (λ w q.
        rw (q.below 0 99 (omega arith), q.below 99 10 (omega arith)) (ap (with_entries (variables_of (source_of b) h)) (ap (map (fetched (source_of b) Entries)) q.own ∙ fetched_kept (source_of b) Entries (entries_in h.words) y.number w))))

    pub section_line : (numbers' : List ℤ) (words' : List ℕ) (f' : Flow) (x y : ℕ) → line ≡ form.Section x y → Clears h.numbers h.words f numbers' words' f' → With (held numbers' h.rows words') f' T u log (Ok tt)
    unfolding form_with form_meaning
    section_line numbers' words' f' x y e c =
        rw (e, c.went) (went_executes b h (held numbers' h.rows words') f (feeds_in f true) T u log (cleared s) refl same (refl, ap length (ap (bank 128 20) c.words_zero ∙ zeros_behind 0 h.words 128 128 20 (omega arith))))
      where
        numbers_zero : (i n : ℕ) → i + n ≤ 198 → bank i n numbers' ≡ replicate n (pos 0)
        numbers_zero i n l = ap (bank i n) c.numbers_zero ∙ zeros_bank (pos 0) (drop 198 h.numbers) i n 198 l

        words_zero : (i n : ℕ) → i + n ≤ 128 → bank i n words' ≡ replicate n 0
        words_zero i n l = ap (bank i n) c.words_zero ∙ zeros_bank 0 (drop 128 h.words) i n 128 l

        same : state_at b (held numbers' h.rows words') (feeds_in f true) ≡ cleared s
        same =
            let i : integers_in numbers' ≡ replicate 99 (pos 0) = numbers_zero 0 99 (omega arith) in
            let j : decimals_in numbers' ≡ replicate 99 (pos 0) = numbers_zero 99 99 (omega arith) in
            let l : texts h.rows 0 (lengths_in words') ≡ replicate 99 [] = ap (texts h.rows 0) (words_zero 0 99 (omega arith)) ∙ texts_cleared h.rows 0 99 in
            let m : map (fetched (source_of b) Records) (records_in words') ≡ replicate 10 [] = ap (map (fetched (source_of b) Records)) (words_zero 99 10 (omega arith)) ∙ fetched_cleared (source_of b) Records 10 in
            let o : map (fetched (source_of b) Entries) (entries_in words') ≡ replicate 10 [] = ap (map (fetched (source_of b) Entries)) (words_zero 109 10 (omega arith)) ∙ fetched_cleared (source_of b) Entries 10 in
            let y : tables_in words' ≡ tables_in h.words = ap (bank 128 20) c.words_zero ∙ zeros_behind 0 h.words 128 128 20 (omega arith) in
            let q : headings_of (headings_in words') ≡ replicate 9 no_heading = ap headings_of (words_zero 119 9 (omega arith)) ∙ headings_cleared 9 in
            λ z. record { position = record { at = f.at; line = f.line }; variables = record { integers = i z; decimals = j z; strings = l z; records = m z; entries = o z }; datasource = f.datasource; tables = opened (y z) f.depth; layout = record { headings = q z; form_feeds = true }; page = f.page }

  -- ---- with the values of the arguments

  module _ (w : W.Worth) (q : Worth) where
    abbrev Valued : Held → Flow → Result (Unit {0}) Stop → Type 0
    Valued h' f' r = Executes 330 (form_with t start scene.number body s line (worths (meant S w) q)) b h f T u log h' f' T u log r

    pub set_line : (h' : Held) (r : Result (Unit {0}) Stop) (z : Settled (Unit {0})) (o : Operation) (x : Target) (y : Argument) → line ≡ form.Set o x y → Assigns body b h o x w h' z → r ≡ on_line scene.number z → Valued h' f r
    unfolding form_with
    set_line h' r z o x y e d i =
        rw e (settles_executes {to = λ _. f} z (set_of (variables_of (source_of b) h) o x (meant S w)) (λ _. variables_of (source_of b) h') (with_variables s) (d.same (source_of b)) (by z i) (d.held.rows_held ∙ sym k.rows, ap length (d.above 128 20 (omega arith))) (λ _. refl) (λ _. variables_same h' (d.above 119 9 (omega arith)) (d.above 128 20 (omega arith))))
      where
        by : (v : Settled (Unit {0})) → r ≡ on_line scene.number v → Settles scene.number f (λ _. f) v f r
        by (Ok x) i = record { end = i; flow = refl }
        by (Err x) i = record { end = i; flow = refl }

    -- a test that came to j
    test_does : (f' : Flow) (r : Result (Unit {0}) Stop) (j : Result Bool Refusal) (z : Settled Bool) → j ≡ z → Settles scene.number f (branched_in t f) j f' r → Executes 330 (bind (concluded scene.number z) (λ y. done (branched t s y))) b h f T u log h f' T u log r
    test_does f' r j z d i = settles_executes j z (λ y. y) (branched t s) (sym d ∙ mapped_same j) i (refl, refl) branch_page branch_same

    pub if_zero_line : (f' : Flow) (r : Result (Unit {0}) Stop) (j : Result Bool Refusal) (y : Argument) → line ≡ form.IfNot y → JudgesZero true w j → Settles scene.number f (branched_in t f) j f' r → Valued h f' r
    unfolding form_with
    if_zero_line f' r j y e d i = rw e (test_does f' r j _ (d.same S) i)

    pub if_non_zero_line : (f' : Flow) (r : Result (Unit {0}) Stop) (j : Result Bool Refusal) (y : Argument) → line ≡ form.If y → JudgesZero false w j → Settles scene.number f (branched_in t f) j f' r → Valued h f' r
    unfolding form_with
    if_non_zero_line f' r j y e d i = rw e (test_does f' r j _ (d.same S) i)

    pub compare_line : (f' : Flow) (r : Result (Unit {0}) Stop) (j : Result Bool Refusal) (c : Comparison) (x y : Argument) → line ≡ form.Compare c x y → j ≡ compared c (meant S w) q → Settles scene.number f (branched_in t f) j f' r → Valued h f' r
    unfolding form_with
    compare_line f' r j c x y e d i = rw e (test_does f' r j _ d i)

    pub begin_line : (ws : List ℕ) (f' : Flow) (r : Result (Unit {0}) Stop) (n : Result ℤ Refusal) (j : Result Bool Refusal) (y : Argument) → line ≡ form.BeginTable y → Takes integer_from w n → BeginsTable n f.at f.line h.words f.depth ws j → Settles scene.number f (begun_in t f) j f' r → Valued (held h.numbers h.rows ws) f' r
    unfolding form_with
    begin_line ws f' r n j y e d g i =
        rw e (settles_executes j (begin_from (open_of h.words f.depth) f.at f.line (integer_from (meant S w))) (beginning ws f.depth) (table_begun t s) (ap (begin_from (open_of h.words f.depth) f.at f.line) (sym (d.same S)) ∙ g.same) i (refl, bank_long h.words ws 128 20 g.stays.same) begun_page (begun_same ws g.stays g.rest))

    pub end_line : (ws : List ℕ) (f' : Flow) (r : Result (Unit {0}) Stop) (n : Result ℤ Refusal) (j : Result Bool Refusal) (y : Option Argument) → line ≡ form.EndTable y → Takes (integer_or (pos 1) y) w n → EndsTable n h.words f.depth ws j → Settles scene.number f (over_in (tables_in ws) f) j f' r → Valued (held h.numbers h.rows ws) f' r
    unfolding form_with
    end_line ws f' r n j y e d g i =
        rw e (settles_executes j (end_from (open_of h.words f.depth) (integer_or (pos 1) y (meant S w))) (passing ws f.depth) (table_counted s) (ap (end_from (open_of h.words f.depth)) (sym (d.same S)) ∙ g.same) i (refl, bank_long h.words ws 128 20 g.stays.same) (ended_page (tables_in ws)) (ended_same ws g.stays))

    module _ (f' : Flow) (T' : List ℕ) (u' : ℕ) (r : Result (Unit {0}) Stop) where
      breaks_does : Breaks scene.number f.feeds f.page T u f'.page T' u' r → f' ≡ page_in f f'.page → Executes 330 (breaking scene.number s) b h f T u log h f' T' u' log r
      unfolding breaking
      breaks_does d e = by r (d.does (source_of b) (questions log.words) log.asked log.places)
        where
          by : (q : Result (Unit {0}) Stop) → Does (source_of b) (break_meaning scene.number f.feeds f.page) (filled_to T u log f.page.number) (filled_to T' u' log f'.page.number) (ended_in (λ _. f'.page) q) → Executes 330 (bind (break_meaning scene.number f.feeds f.page) (λ y. done (with_page s y))) b h f T u log h f' T' u' log q
          by (Ok x) did = then_executes (break_meaning scene.number f.feeds f.page) (with_page s) (omega arith) (refl, refl) f'.page did (ap (state_at b h) e)
          by (Err x) did = over_executes (break_meaning scene.number f.feeds f.page) (with_page s) (omega arith) (refl, refl) x did

      pub new_page_line : (n : Result ℤ Refusal) (y : Option Argument) → line ≡ form.NewPage y → Takes (integer_or (pos 62) y) w n → PagesLine n scene.number f T u f' T' u' r → Executes 330 (form_with t start scene.number body s line (worths (meant S w) q)) b h f T u log h f' T' u' log r
      unfolding form_with breaking_for
      new_page_line n y e d g = rw (e, ← (d.same S)) (by n refl)
        where
          by : (z : Result ℤ Refusal) → n ≡ z → Executes 330 (bind (concluded scene.number n) (breaking_for scene.number s)) b h f T u log h f' T' u' log r
          by (Err x) z =
              let y = g.refused x z in
              rw (z, y.0, y.1.flow, y.1.text, y.1.printed) (record { does = does_stop (source_of b) (filled_to T u log f.page.number) x scene.number; few = omega arith; rows = (refl, refl) })
          by (Ok m) z = rw z (choose (lt_z (pos (61 - f.page.row)) m) refl)
            where
              choose : (c : Bool) → lt_z (pos (61 - f.page.row)) m ≡ c → Executes 330 (breaking_for scene.number s m) b h f T u log h f' T' u' log r
              choose true c = let y = g.breaks m z c in rw c (breaks_does y.0 y.1)
              choose false c =
                  let y = g.stays m z c in
                  rw (c, y.0, y.1.flow, y.1.text, y.1.printed) (record { does = does_done (source_of b) (filled_to T u log f.page.number) s; few = omega arith; rows = (refl, refl) })
