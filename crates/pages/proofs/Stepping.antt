-- The loop over the lines due, and a text line with what comes before it.
use mathlib.Core.Path.{◌≡◌, refl, sym, ◌∙◌, ap}
use mathlib.Core.Bool.{Bool, true}
use mathlib.Core.List.{List, [], ◌∷◌, ◌++◌}
use Prim.Native.Nat.{ℕ, suc, ◌+◌, ◌≤◌, ◌<◌}
use native.Mathlib.Omega.{arith}
use native.Mathlib.Numerals.{add-one}
use lib.ListN.{length, drop, get_or, length-take, length-drop, drop_of_length-le}
use lib.Seq.{drop-cons}
use Rattle.meaning.specs.Answer.{Answer}
use Rattle.meaning.specs.Tree.{done, bind}
use Rattle.meaning.specs.Meaning.{Meaning}
use Rattle.meaning.specs.declared.question.Question.{Question}
use Rattle.meaning.proofs.Doing.{then_does, then_over, does_done}
use Rattle.meaning.proofs.Looping.{Leads, leads_start, leads_next, leads_over, leads_end}
use Rattle.values.specs.declared.scene.Scene.{Scene}
use Rattle.values.specs.Inner.Word.{questions}
use Rattle.values.specs.Source.{answers}
use Rattle.texts.specs.Pieces.{or_no_pieces, pieces_of, field_count}
use Rattle.texts.specs.Width.{total_width}
use Rattle.texts.specs.Readers.Text.{pieces_within, text_pieces, fits_behind, text_fits}
use Rattle.pages.specs.declared.page.Page.{Page}
use Rattle.pages.specs.declared.heading.Heading.{Heading}
use Rattle.pages.specs.Page.{advanced_of, say_meaning, top_meaning, line_step}
use Rattle.pages.specs.Inner.Listing.{Due, says_on, shown, text_due, lines_due, bytes_of, due_of, lines_on, lead_of, line_due}
use Rattle.pages.proofs.Listing.{lines_by, lines_few, top_says, lines_count, line_at}
use Rattle.std.specs.Prelude.{Result, Ok, Err}
use Rattle.meaning.specs.declared.end.Stop.{Stop}
use Rattle.values.specs.declared.log.Log.{Log}
use Rattle.values.specs.Inner.Logged.{filled_to}
use Rattle.pages.specs.Inner.Pass.{Lent, machine_of, Sourced, Sayable, Tells}
use Rattle.pages.specs.Inner.Paging.{scene_on, Turns, AllFit, fields_in, LinesReady, SaysLines, StepReady, Steps}

-- a blank line fits, and has no field
pub blank_fits : text_fits [] 0 ≡ true
unfolding text_fits fits_behind text_pieces pieces_within total_width
blank_fits = refl

pub blank_fields : field_count (pieces_of [] 0) ≡ 0
unfolding pieces_of or_no_pieces text_pieces pieces_within
blank_fields = refl

-- ---- where the loop stands: the rest of the lines, from a page and what is filled there

pub record InLines (x : Lent) (s : Scene) (p₀ : Page) (t : List ℕ) (hs : List Heading) (line : Heading) (lead : ℕ) (text₀ : List ℕ) (m₀ : ℕ) (log₀ : Log) (k : ℕ) (p : Page) (text : List ℕ) (m : ℕ) (log : Log) : Type 0 where
  pub here : Sourced x (λ source. Leads source (says_on (machine_of x s source) (lines_on t hs line p₀) p₀) (filled_to text₀ m₀ log₀ p₀.number) (says_on (machine_of x s source) (drop k (lines_on t hs line p₀)) p) (filled_to text m log p.number))
  pub fit : AllFit (drop k (lines_on t hs line p₀))
  pub few : log.asked + fields_in (drop k (lines_on t hs line p₀)) ≤ log₀.asked + fields_in (lines_on t hs line p₀)
  pub row : p.row + length (drop k (lines_on t hs line p₀)) ≤ 62
  pub ready : LinesReady x s p₀ t (lines_on t hs line p₀) text₀ m₀ log₀
  pub led : lead ≡ lead_of hs p₀
  pub nine : length hs ≤ 9
  pub room : m ≤ length text
  pub kept : length text ≡ length text₀

pub lines_begin : (x : Lent) (s : Scene) (p : Page) (t : List ℕ) (hs : List Heading) (line : Heading) (lead : ℕ) (text : List ℕ) (m : ℕ) (log : Log) → LinesReady x s p t (lines_on t hs line p) text m log → lead ≡ lead_of hs p → length hs ≤ 9 → InLines x s p t hs line lead text m log 0 p text m log
lines_begin x s p t hs line lead text m log h e n = record {
  here = λ b cs z. leads_start (answers x.store b) (says_on (machine_of x s (answers x.store b)) (lines_on t hs line p) p) (filled_to text m log p.number);
  fit = h.fit;
  few = omega arith;
  row = h.row;
  ready = h;
  led = e;
  nine = n;
  room = h.room;
  kept = refl;
}

module _ {x : Lent} {s : Scene} {p₀ : Page} {t : List ℕ} {hs : List Heading} {line : Heading} {lead : ℕ} {text₀ : List ℕ} {m₀ : ℕ} {log₀ : Log} {k : ℕ} {p : Page} {text : List ℕ} {m : ℕ} {log : Log} (i : InLines x s p₀ t hs line lead text₀ m₀ log₀ k p text m log) where
  abbrev ds : List Due
  ds = lines_on t hs line p₀

  count : length ds ≡ lead + 1
  count = lines_count t hs line p₀ ∙ ap (λ (n : ℕ). n + 1) (sym i.led)

  module _ (h : k < lead + 1) {next : Heading} (named : next ≡ line_due hs lead k line) where
    left : drop k ds ≡ due_of t next ∷ drop (k + 1) ds
    left =
        let e : get_or ds k (due_of t line) ≡ due_of t next = line_at t hs line p₀ i.nine k (due_of t line) (omega (arith, i.led)) ∙ ap (due_of t) (sym (rw i.led at named)) in
        rw add-one (drop-cons ds k (due_of t line) (omega (arith, count)) ∙ ap (λ (d : Due). d ∷ drop (suc k) ds) e)

    fit' : AllFit (due_of t next ∷ drop (k + 1) ds)
    fit' = rw left at i.fit

    few' : log.asked + (field_count (pieces_of (bytes_of t next) next.from) + fields_in (drop (k + 1) ds)) ≤ log₀.asked + fields_in ds
    few' = rw left at i.few

    pub line_row : p.row + 1 + length (drop (k + 1) ds) ≤ 62
    line_row = omega (arith, i.row, ap length left)

    module _ {y : Scene} {body : List ℕ} (hy : y ≡ scene_on s p next.number) (hb : body ≡ bytes_of t next) where
      pub line_ready : Sayable x y.datasource body next.from log.asked × (m ≤ length text)
      line_ready = rw (hy, hb) (
        record {
          fits = fit'.0;
          short_line = omega (arith, i.ready.short_template, length-take next.length (drop next.start t), length-drop next.start t);
          short_store = i.ready.short_store;
          datasource = i.ready.datasource;
          logged = omega (arith, few', i.ready.logged);
        },
        i.room,
      )

      abbrev one : (Question → Answer) → Meaning Page
      one source = say_meaning (machine_of x s source) (bytes_of t next) next.from next.number p

      abbrev rest : (Question → Answer) → Page → Meaning Page
      rest source _ = says_on (machine_of x s source) (drop (k + 1) ds) (advanced_of p)

      here' : Sourced x (λ source. Leads source (says_on (machine_of x s source) ds p₀) (filled_to text₀ m₀ log₀ p₀.number) (bind (one source) (rest source)) (filled_to text m log p.number))
      here' b cs z = rw left at (i.here b cs z)

      module _ {text' : List ℕ} {m' : ℕ} {log' : Log} where
        told : {r : Result (Unit {0}) Stop} → Tells x y body next.from text m log text' m' log' r → Tells x (scene_on s p next.number) (bytes_of t next) next.from text m log text' m' log' r
        told d = rw (hy, hb) at d

        pub line_same : {r : Result (Unit {0}) Stop} → Tells x y body next.from text m log text' m' log' r → length text' ≡ length text₀
        line_same d = d.kept ∙ i.kept

        pub line_over : {e : Stop} → Tells x y body next.from text m log text' m' log' (Err e) → SaysLines x s p₀ ds text₀ m₀ log₀ p text' m' log' (Err e)
        unfolding say_meaning
        line_over d = record {
          does = λ b cs z. leads_over (one (answers x.store b)) (rest (answers x.store b)) (here' b cs z) (then_over (λ _. done (advanced_of p)) ((told d).does b cs z p.number));
          few = omega (arith, few', d.few, ap (λ (l : List ℕ). field_count (pieces_of l next.from)) hb);
          kept = line_same d;
          room = omega (arith, d.room, i.kept);
        }

        pub line_next : {u : Unit {0}} → Tells x y body next.from text m log text' m' log' (Ok u) → (p' : Page) → p' ≡ advanced_of p → InLines x s p₀ t hs line lead text₀ m₀ log₀ (k + 1) p' text' m' log'
        unfolding say_meaning
        line_next d p' hp = rw hp (record {
          here = λ b cs z. leads_next (one (answers x.store b)) (rest (answers x.store b)) (here' b cs z) (then_does (λ _. done (advanced_of p)) ((told d).does b cs z p.number) (does_done (answers x.store b) (filled_to text' m' log' p.number) (advanced_of p)));
          fit = fit'.1;
          few = omega (arith, few', d.few, ap (λ (l : List ℕ). field_count (pieces_of l next.from)) hb);
          row = line_row;
          ready = i.ready;
          led = i.led;
          nine = i.nine;
          room = omega (arith, d.room, d.kept);
          kept = line_same d;
        })

  pub lines_said : lead + 1 ≤ k → SaysLines x s p₀ ds text₀ m₀ log₀ p text m log (Ok tt)
  lines_said h = record {
    does = λ b cs z. leads_end (rw (drop_of_length-le ds {i = k} (omega (arith, count))) at (i.here b cs z));
    few = omega (arith, i.few);
    kept = i.kept;
    room = omega (arith, i.room, i.kept);
  }

-- ---- a break, then the lines

fit_last : (ds : List Due) (d : Due) → AllFit ds → text_fits d.bytes d.from ≡ true → AllFit (ds ++ (d ∷ []))
fit_last [] d a b = (b, tt)
fit_last (x ∷ ds) d a b = (a.0, fit_last ds d a.1 b)

fields_last : (ds : List Due) (d : Due) → fields_in (ds ++ (d ∷ [])) ≡ fields_in ds + field_count (pieces_of d.bytes d.from)
fields_last [] d = omega arith
fields_last (x ∷ ds) d = omega (arith, fields_last ds d)

module _ (x : Lent) (s : Scene) (p : Page) (t : List ℕ) (hs : List Heading) (feeds : Bool) (line : Heading) (text : List ℕ) (m : ℕ) (log : Log) (h : StepReady x s p t hs line text m log) where
  abbrev heads : List Due
  heads = shown t line.number hs

  abbrev then_lines : (Question → Answer) → Page → Meaning Page
  then_lines source p = bind (top_meaning (machine_of x s source) t line.number hs p) (λ q. say_meaning (machine_of x s source) (bytes_of t line) 0 line.number q)

  module _ (p₁ : Page) (text₁ : List ℕ) (m₁ : ℕ) where
    abbrev pub Turned : Result (Unit {0}) Stop → Type 0
    Turned r = Turns line.number feeds p text m p₁ text₁ m₁ r

    -- the break didn't fit
    pub step_over : (e : Stop) → Turned (Err e) → Steps x s p t hs feeds line text m log p₁ text₁ m₁ log (Err e)
    unfolding line_step
    step_over e d = record {
      does = λ b cs z. then_over (then_lines (answers x.store b)) (d.does (answers x.store b) (questions log.words) log.asked log.places);
      few = omega arith;
      kept = d.kept;
      room = d.room;
    }

    few : fields_in (lines_on t hs line p₁) ≤ fields_in heads + field_count (pieces_of (bytes_of t line) line.from)
    few = lines_by t line.number hs p₁ (due_of t line) (λ ds. fields_in ds ≤ fields_in heads + field_count (pieces_of (bytes_of t line) line.from)) (omega arith) (λ _. omega (arith, fields_last heads (due_of t line)))

    module _ (u : Unit {0}) (d₁ : Turned (Ok u)) where
      pub step_lines_ready : LinesReady x s p₁ t (lines_on t hs line p₁) text₁ m₁ log
      step_lines_ready = record {
        fit = lines_by t line.number hs p₁ (due_of t line) AllFit (h.fits, tt) (λ _. fit_last heads (due_of t line) h.heads h.fits);
        logged = omega (arith, few, h.logged);
        short_template = h.short_template;
        short_store = h.short_store;
        datasource = h.datasource;
        room = omega (arith, d₁.room, d₁.kept);
        row = lines_few t line.number hs p₁ (due_of t line) 61 d₁.row (omega arith);
      }

      module _ (p₂ : Page) (text₂ : List ℕ) (m₂ : ℕ) (log₂ : Log) (r : Result (Unit {0}) Stop) (d₂ : SaysLines x s p₁ (lines_on t hs line p₁) text₁ m₁ log p₂ text₂ m₂ log₂ r) where
        text_due_law : due_of t line ≡ text_due line.number (bytes_of t line)
        text_due_law = λ i. record { bytes = bytes_of t line; from = h.first i; number = line.number }

        said : SaysLines x s p₁ (lines_due t line.number hs (bytes_of t line) p₁) text₁ m₁ log p₂ text₂ m₂ log₂ r
        said = rw text_due_law at d₂

        pub step_same : length text₂ ≡ length text
        step_same = d₂.kept ∙ d₁.kept

        pub steps : Steps x s p t hs feeds line text m log p₂ text₂ m₂ log₂ r
        unfolding line_step
        steps = record {
          does = λ b cs z. then_does (then_lines (answers x.store b)) (d₁.does (answers x.store b) (questions log.words) log.asked log.places) (rw (top_says (machine_of x s (answers x.store b)) t line.number (bytes_of t line) hs p₁) (said.does b cs z));
          few = omega (arith, d₂.few, few);
          kept = step_same;
          room = omega (arith, d₂.room, d₁.kept);
        }
