-- A stretch of lines, line by line.
use mathlib.Core.Path.{◌≡◌, refl, sym, ap, ◌∙◌, subst}
use mathlib.Core.Bool.{false≢true}
use mathlib.Core.List.{List}
use Prim.Native.Nat.{ℕ, zero, suc, ◌+◌, ◌-◌, ◌≤◌, ◌<◌}
use native.Mathlib.Omega.{arith}
use native.Mathlib.Nat.{sub-zero}
use borrow.Author.Tests.{lt-ltb, le-ltb}
use lib.IntN.{ℤ}
use lib.ListN.{length, take, drop, replicate, length-take, length-drop}
use lib.Seq.{length-take-le}
use Rattle.meaning.specs.Answer.{Answer}
use Rattle.meaning.specs.Tree.{done, stop, bind, End, finished, halted, refused}
use Rattle.meaning.specs.Inner.Place.{Place, at, Does}
use Rattle.meaning.specs.Rule.{page_limit}
use Rattle.meaning.specs.Number.{cause_of, ended_in, stopped}
use Rattle.meaning.specs.Meaning.{Meaning}
use Rattle.meaning.specs.declared.question.Question.{Question}
use Rattle.meaning.specs.declared.refusal.Refusal.{Refusal}
use Rattle.meaning.specs.declared.refusal.Refusal.TheVariants.{TooManyLines}
use Rattle.meaning.proofs.Doing.{then_does, then_over, does_done, does_stop, room_kept, left_kept, text_kept}
use Rattle.meaning.proofs.Looping.{Leads, leads_start, leads_next, leads_end}
use Rattle.meaning.proofs.Keeping.{yields}
use Rattle.values.specs.Inner.Word.{questions}
use Rattle.values.specs.Inner.State.{bank, tables_in, Held, held}
use Rattle.control.specs.declared.state.Flow.{Flow}
use Rattle.control.specs.State.{State}
use Rattle.control.specs.Line.{line_meaning}
use Rattle.control.specs.Inner.Executing.{source_of, Kept, state_at, LineReady, Executes}
use Rattle.control.specs.Inner.Remembering.{Remembered}
use Rattle.executed_line.proofs.Sounds.{On, sound_more, line_keeps}
use Rattle.report.specs.declared.state.Saved.{Saved}
use Rattle.report.specs.declared.state.Stretch.{Stretch}
use Rattle.report.specs.Report.{run_from}
use Rattle.report.specs.Inner.Start.{over_at, full_at}
use Rattle.report.specs.Inner.Begun.{held_in}
use Rattle.report.specs.Inner.Stretch.{stretch, store_of, state_in, Standing, RunReady, fresh, Ran}
use Rattle.report.proofs.Splitting.{run_split}
use Rattle.meaning.specs.declared.end.Stop.{Stop}
use Rattle.meaning.specs.declared.end.Halt.TheVariants.{Refused}
use Rattle.values.specs.declared.log.Log.{Log}
use Rattle.values.specs.Inner.Logged.{filled_to}
use Rattle.std.specs.Prelude.{Result, Ok, Err}

module _ (t : List ℕ) (end : ℕ) where
  -- ---- the clauses
  stretch_more : (k : ℕ) (s : State) → s.position.at < end → stretch (suc k) t end s ≡ bind (line_meaning t s) (stretch k t end)
  unfolding stretch
  stretch_more k s h = rw (lt-ltb s.position.at end h)

  run_more : (f : ℕ) (s : State) → 0 < f → s.position.at < end → run_from f t end s ≡ bind (line_meaning t s) (run_from (f - 1) t end)
  unfolding run_from
  run_more zero s z h = absurd (omega arith)
  run_more (suc f) s z h = let e : suc f - 1 ≡ f = omega arith in rw (lt-ltb s.position.at end h, e)

  run_done : (f : ℕ) (s : State) → end ≤ s.position.at → run_from f t end s ≡ done s
  unfolding run_from
  run_done zero s h = rw (le-ltb s.position.at end h)
  run_done (suc f) s h = rw (le-ltb s.position.at end h)

  run_late : (f : ℕ) (s : State) → f ≤ 0 → s.position.at < end → run_from f t end s ≡ stop TooManyLines s.position.line
  unfolding run_from
  run_late zero s z h = rw (lt-ltb s.position.at end h)
  run_late (suc f) s z h = absurd (omega arith)

-- ---- where the loop stands

abbrev pub saved_in : Saved → List ℤ → List ℕ → Flow → ℕ → ℕ → ℕ → Saved
saved_in v numbers words f left printed logged =
    record {
      flow = f;
      left = left;
      end = v.end;
      len = v.len;
      count = v.count;
      printed = printed;
      asked = v.asked + logged;
      places = v.places;
      numbers = numbers;
      words = words;
    }

-- from what v says, the lines so far led here
pub record Going (t b : List ℕ) (v : Saved) (rows : List (List ℕ)) (T₀ : List ℕ) (h : Held) (f : Flow) (T : List ℕ) (log : Log) (left printed : ℕ) : Type 0 where
  pub leads : (j : ℕ) → Leads (source_of (store_of v b)) (stretch (v.left - left + j) t v.end (state_in v rows b)) (fresh T₀ v) (stretch j t v.end (state_at (store_of v b) h f)) (at T printed (questions log.words) log.asked (v.places - v.asked) f.page.number)
  pub lent : log.places ≡ v.places - v.asked
  pub standing : Standing t left (state_at (store_of v b) h f)
  pub rows_held : length h.rows ≡ 99
  pub table_words : length (tables_in h.words) ≡ 20
  pub remembered : Remembered t h.words
  pub text_same : length T ≡ length T₀
  pub room : printed ≤ length T
  pub spent : left ≤ v.left
  pub logged_most : log.asked ≤ 512
  pub places_left_law : log.asked ≤ v.places - v.asked
  pub begun : 0 < log.asked → left < v.left

words_tables : (words : List ℕ) → length words ≡ 212 → length (tables_in words) ≡ 20
unfolding bank
words_tables words e = omega (arith, e, length-take 20 (drop 128 words), length-drop 128 words)

module _ (t b index T : List ℕ) (rows : List (List ℕ)) (s : Stretch) (r : RunReady t b index T rows s.saved) where
  abbrev v : Saved
  v = s.saved

  abbrev source : Question → Answer
  source = source_of (store_of v b)

  -- the part of the buffer that a line is lent
  abbrev part : List ℕ
  part = take (v.len - 0) b

  part_is : part ≡ store_of v b
  part_is = ap (λ (n : ℕ). take n b) (sub-zero v.len)

  -- the part of the index that has its cells
  abbrev cells : List ℕ
  cells = take (v.count - 0) index

  cells_is : cells ≡ take v.count index
  cells_is = ap (λ (n : ℕ). take n index) (sub-zero v.count)

  pub going_start : length v.words ≡ 212 → Going t b v rows T (held_in v rows) v.flow T (record { words = replicate 512 0; asked = 0; places = v.places - v.asked }) v.left v.printed
  going_start e = record {
    leads = λ j. let z : v.left - v.left + j ≡ j = omega arith in rw z (leads_start source (stretch j t v.end (state_in v rows b)) (fresh T v));
    lent = refl;
    standing = r.standing;
    rows_held = r.rows_held;
    table_words = words_tables v.words e;
    remembered = r.remembered;
    text_same = refl;
    room = r.room;
    spent = omega arith;
    logged_most = omega arith;
    places_left_law = omega arith;
    begun = λ z. absurd (omega arith);
  }

  module _ (h : Held) (f : Flow) (T₁ : List ℕ) (log : Log) (left printed : ℕ) (g : Going t b v rows T h f T₁ log left printed) where
    abbrev here : Place Question
    here = at T₁ printed (questions log.words) log.asked (v.places - v.asked) f.page.number

    -- the questions fit the read list
    pub asked_fit : v.asked + log.asked ≤ v.places
    asked_fit = omega (arith, g.places_left_law, r.asked)

    -- the stretch so far
    so_far : Does source (stretch (v.left - left) t v.end (state_in v rows b)) (fresh T v) here (finished (state_at (store_of v b) h f))
    unfolding stretch
    so_far = let z : v.left - left + 0 ≡ v.left - left = omega arith in rw z at (leads_end (g.leads 0))

    -- what the run does from here, it does from the start
    finish : (P' : Place Question) (e : End Refusal ℕ State) → Does source (run_from left t v.end (state_at (store_of v b) h f)) here P' e → Does source (run_from v.left t v.end (state_in v rows b)) (fresh T v) P' e
    finish P' e d =
        let z : v.left ≡ v.left - left + left = omega (arith, g.spent) in
        subst (λ (tree : Meaning State). Does source tree (fresh T v) P' e) (sym (ap (λ (k : ℕ). run_from k t v.end (state_in v rows b)) z ∙ run_split t v.end (v.left - left) left (state_in v rows b)))
        (then_does (run_from left t v.end) so_far d)

    module _ (f' : Flow) (T' : List ℕ) (rows' : List (List ℕ)) (Q' : List ℕ) (printed' logged' : ℕ) (last : State) (e : Result (Unit {0}) Stop) (x : Stretch) (few : logged' ≤ 512) (i : x ≡ over_at e f'.page.number printed' v.asked Q' logged') where
      -- the run is over
      ran_over : Does source (run_from v.left t v.end (state_in v rows b)) (fresh T v) (at T' printed' (questions Q') logged' (v.places - v.asked) f'.page.number) (ended_in (λ _. last) e) → Ran t b index T rows s T' rows' x
      unfolding over_at
      ran_over d = subst (Ran t b index T rows s T' rows') (sym i) (record {
        few = few;
        place = refl;
        on = λ y. absurd (false≢true y);
        ready = λ y. absurd (false≢true y);
        less = λ y. absurd (false≢true y);
        asked = λ y. absurd (false≢true y);
        same_end = λ y. absurd (false≢true y);
        same_store = λ y. absurd (false≢true y);
        same_places = λ y. absurd (false≢true y);
        over = λ _. record { ended = e; last = last; does = d; number = refl; line = refl; questions = refl };
      })

    module _ (x : Stretch) where
      -- no line is due
      pub run_ends : v.end ≤ f.at → x ≡ over_at (Ok tt) f.page.number printed v.asked log.words log.asked → Ran t b index T rows s T₁ h.rows x
      run_ends k i =
          ran_over f T₁ h.rows log.words printed log.asked (state_at (store_of v b) h f) (Ok tt) x g.logged_most i
          (finish here (finished (state_at (store_of v b) h f)) (rw (run_done t v.end left (state_at (store_of v b) h f) k) (does_done source here (state_at (store_of v b) h f))))

      -- 7: "50,000 lines were executed and another is due, which is named."
      pub run_exceeds : (e : Stop) → e ≡ stopped (Refused TooManyLines) f.line → left ≤ 0 → f.at < v.end → x ≡ over_at (Err e) f.page.number printed v.asked log.words log.asked → Ran t b index T rows s T₁ h.rows x
      run_exceeds e q z k i =
          ran_over f T₁ h.rows log.words printed log.asked (state_at (store_of v b) h f) (Err e) x g.logged_most i
          (rw q (finish here (halted (refused TooManyLines) f.line) (rw (run_late t v.end left (state_at (store_of v b) h f) z k) (does_stop source here TooManyLines f.line))))

      -- the log is full
      pub run_full : (numbers : List ℤ) (words : List ℕ) → h ≡ held numbers h.rows words → 180 < log.asked → x ≡ full_at v.asked log.words log.asked (saved_in v numbers words f left printed log.asked) → Ran t b index T rows s T₁ h.rows x
      unfolding full_at
      run_full numbers words q k i = subst (Ran t b index T rows s T₁ h.rows) (sym i) (record {
        few = g.logged_most;
        place = refl;
        on = λ _. subst (λ (y : Held). Does source (stretch (v.left - left) t v.end (state_in v rows b)) (fresh T v) here (finished (state_at (store_of v b) y f))) q so_far;
        ready = λ _. record {
          stored = r.stored;
          short = r.short;
          kept = r.kept;
          counted = r.counted;
          inside = r.inside;
          standing = subst (λ (y : Held). Standing t left (state_at (store_of v b) y f)) q g.standing;
          room = g.room;
          asked = asked_fit;
          rows_held = g.rows_held;
          remembered = subst (λ (y : Held). Remembered t y.words) q g.remembered;
          indexed = r.indexed;
        };
        less = λ _. g.begun (omega (arith, k));
        asked = λ _. refl;
        same_end = λ _. refl;
        same_store = λ _. refl;
        same_places = λ _. refl;
        over = λ y. absurd (false≢true (sym y));
      })

    module _ (z : 0 < left) (k : f.at < v.end) (few : log.asked ≤ 180) where
      within : f.at < length t
      within = omega (arith, k, r.inside)

      pub line_ready : LineReady part cells t h f T₁ printed log
      line_ready = subst (λ (q : List ℕ). LineReady q cells t h f T₁ printed log) (sym part_is) (record {
        kept = subst (Kept (store_of v b)) (sym cells_is) r.kept;
        stored = omega (arith, length-take-le v.len b r.stored, r.short);
        sound = sound_more 50001 (omega (arith, g.standing.most)) g.standing.sound;
        inside = within;
        rows = g.rows_held;
        table_words = g.table_words;
        remembered = g.remembered;
        room = g.room;
        places = omega (arith, few);
      })

      module _ (h' : Held) (f' : Flow) (T₂ : List ℕ) (printed' : ℕ) (log' : Log) where
        abbrev Came : Result (Unit {0}) Stop → Type 0
        Came o = (Executes 332 (line_meaning t (state_at part h f)) part h f T₁ printed log h' f' T₂ printed' log' o) × Remembered t h'.words

        abbrev there : Place Question
        there = at T₂ printed' (questions log'.words) log'.asked (v.places - v.asked) f'.page.number

        module _ (o : Result (Unit {0}) Stop) (d' : Came o) where
          d : Executes 332 (line_meaning t (state_at (store_of v b) h f)) (store_of v b) h f T₁ printed log h' f' T₂ printed' log' o
          d = subst (λ (q : List ℕ). Executes 332 (line_meaning t (state_at q h f)) q h f T₁ printed log h' f' T₂ printed' log' o) part_is d'.0

          pub lent_next : log'.places ≡ v.places - v.asked
          lent_next = d.does.did.places ∙ g.lent

          did : Does source (line_meaning t (state_at (store_of v b) h f)) here there (ended_in (λ _. state_at (store_of v b) h' f') o)
          did =
              subst (λ (k : ℕ). Does source (line_meaning t (state_at (store_of v b) h f)) here (at T₂ printed' (questions log'.words) log'.asked k f'.page.number) (ended_in (λ _. state_at (store_of v b) h' f') o)) lent_next
              (subst (λ (k : ℕ). Does source (line_meaning t (state_at (store_of v b) h f)) (at T₁ printed (questions log.words) log.asked k f.page.number) (filled_to T₂ printed' log' f'.page.number) (ended_in (λ _. state_at (store_of v b) h' f') o)) g.lent d.does)

          logged_next : log'.asked ≤ 512
          logged_next = omega (arith, d.few, few)

          pub places_next : log'.asked ≤ v.places - v.asked
          places_next = left_kept did g.places_left_law

          pub asked_next : v.asked + log'.asked ≤ v.places
          asked_next = omega (arith, places_next, r.asked)

          pub text_next : length T₂ ≡ length T
          text_next = text_kept did ∙ g.text_same

        -- the line stopped the run
        pub run_halts : (e : Stop) → Came (Err e) → (x : Stretch) → x ≡ over_at (Err e) f'.page.number printed' v.asked log'.words log'.asked → Ran t b index T rows s T₂ h'.rows x
        run_halts e d' x i =
            ran_over f' T₂ h'.rows log'.words printed' log'.asked (state_at (store_of v b) h' f') (Err e) x (logged_next (Err e) d') i
            (finish there (halted (cause_of e.halt) e.line) (rw (run_more t v.end left (state_at (store_of v b) h f) z k) (then_over (run_from (left - 1) t v.end) (did (Err e) d'))))

        module _ (u : Unit {0}) (d' : Came (Ok u)) where
          line_done : Does source (line_meaning t (state_at (store_of v b) h f)) here there (finished (state_at (store_of v b) h' f'))
          line_done = did (Ok u) d'

          on_now : On t (50001 - left) (state_at (store_of v b) h f) (f.page.row - 1)
          on_now = record { sound = g.standing.sound; next = omega (arith, g.standing.sound.first_row) }

          on_next_law : (c : ℕ) × On t (50001 - left + 1) (state_at (store_of v b) h' f') c
          on_next_law = yields (page_limit 60) (f.page.row - 1) (On t (50001 - left + 1)) line_done (line_keeps on_now within)

          stands : Standing t (left - 1) (state_at (store_of v b) h' f')
          stands =
              let w : 50001 - left + 1 ≡ 50001 - (left - 1) = omega (arith, z, g.standing.most) in
              record { most = omega (arith, g.standing.most); sound = rw w at on_next_law.1.sound }

          pub going_next : Going t b v rows T h' f' T₂ log' (left - 1) printed'
          going_next = record {
            leads = λ j.
                let w : v.left - left + suc j ≡ v.left - (left - 1) + j = omega (arith, z, g.spent) in
                leads_next (line_meaning t (state_at (store_of v b) h f)) (stretch j t v.end) (rw (w, stretch_more t v.end j (state_at (store_of v b) h f) k) at (g.leads (suc j))) line_done;
            lent = lent_next (Ok u) d';
            standing = stands;
            rows_held = (d (Ok u) d').rows.0 ∙ g.rows_held;
            table_words = (d (Ok u) d').rows.1 ∙ g.table_words;
            remembered = d'.1;
            text_same = text_next (Ok u) d';
            room = room_kept line_done g.room;
            spent = omega (arith, g.spent);
            logged_most = logged_next (Ok u) d';
            places_left_law = places_next (Ok u) d';
            begun = λ _. omega (arith, z, g.spent);
          }
