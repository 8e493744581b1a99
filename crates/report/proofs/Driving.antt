-- A report, stretch by stretch, as plain lists: what a turn of `report` leaves for the rest.
use mathlib.Core.Path.{◌≡◌, refl, sym, ap, ◌∙◌, subst}
use mathlib.Core.Bool.{Bool, true, false, cond}
use mathlib.Core.List.{List}
use Prim.Native.Nat.{ℕ, suc, ◌+◌, ◌-◌, ◌≤◌, ◌<◌}
use native.Mathlib.Omega.{arith}
use native.Mathlib.Nat.{sub-zero}
use lib.ListN.{length, take, replicate, length-map, length-replicate}
use lib.Seq.{sets, length-sets}
use Rattle.cells.specs.Store.{holds_cells}
use Rattle.meaning.specs.Answer.{Answer}
use Rattle.meaning.specs.Tree.{End, finished, run}
use Rattle.meaning.specs.Inner.Place.{Place, at, Does}
use Rattle.meaning.specs.Number.{number_of, line_named, ended_in}
use Rattle.meaning.specs.Meaning.{Meaning}
use Rattle.meaning.specs.declared.question.Question.{Question}
use Rattle.meaning.specs.declared.refusal.Refusal.{Refusal}
use Rattle.meaning.proofs.Doing.{text_kept}
use Rattle.meaning.proofs.Looping.{Leads, leads_start, leads_next}
use Rattle.meaning.proofs.Moving.{asked_most, moved}
use Rattle.values.specs.Inner.Word.{unpacked, questions}
use Rattle.report.specs.declared.Report.{Report}
use Rattle.report.specs.declared.state.Saved.{Saved}
use Rattle.report.specs.declared.state.Stretch.{Stretch}
use Rattle.control.specs.State.{State}
use Rattle.report.specs.Report.{run_from, start_of, run_meaning, ran_to, checked_outcome, report_of}
use Rattle.report.specs.Reported.{HandsBack, Reported}
use Rattle.report.specs.Inner.Begun.{Begun}
use Rattle.report.specs.Inner.Stretch.{stretch, state_in, store_of, Standing, RunReady, fresh, Ran}
use Rattle.control.specs.Inner.Executing.{source_of, Kept}
use Rattle.report.proofs.Splitting.{run_split}
use Rattle.template.proofs.Accepted.{accepted_runs}
use Rattle.report.proofs.Sounding.{start_standing}
use Rattle.report.proofs.Stored.{part_held, part_answers}
use Rattle.meaning.specs.declared.end.Stop.{Stop}
use Rattle.std.specs.Prelude.{Result, Ok, Err}

-- between two stretches: what the rest does from here, the whole does from the start
pub record Going (t name b : List ℕ) (n : ℕ) (T₀ : List ℕ) (R₀ : List Question) (v : Saved) (rows : List (List ℕ)) (index T : List ℕ) (R : List Question) : Type 0 where
  pub ready : RunReady t b index T rows v
  pub whole : Meaning State
  pub outcome : report_of t name b n (length R₀) (length T₀) ≡ ran_to (run (source_of (take n b)) (length R₀) (length T₀) whole)
  pub leads : Leads (source_of (take n b)) whole (at T₀ 0 R₀ 0 (length R₀) 1) (run_from v.left t v.end (state_in v rows b)) (at T v.printed R v.asked (length R₀) v.flow.page.number)
  pub len : v.len ≡ n
  pub lent : v.places ≡ length R₀

-- where the loop of `report` stands
pub record Reached (t name b : List ℕ) (n : ℕ) (T₀ : List ℕ) (R₀ : List Question) (s : Stretch) (rows : List (List ℕ)) (index T : List ℕ) (R : List Question) : Type 0 where
  pub text_same : length T ≡ length T₀
  pub reads_same : length R ≡ length R₀
  pub going : s.more ≡ true → Going t name b n T₀ R₀ s.saved rows index T R
  pub over : s.more ≡ false → Reported t name b n T₀ R₀ T R s.report

-- how much is left: the lines, and the stretch that ends the run
unfoldable pub left_of : Stretch → ℕ
left_of s = cond s.more (suc s.saved.left) 0

empty : length (questions (replicate 512 0)) ≡ 512
empty = length-map (replicate 512 0) unpacked ∙ length-replicate {A = ℕ} 512 0

-- the number and the line don't hang on what a finished run yields
end_number : (e : Result (Unit {0}) Stop) (s : State) → number_of (ended_in (λ x. x) e) ≡ number_of (ended_in (λ _. s) e)
end_number (Ok x) s = refl
end_number (Err h) s = refl

end_line : (e : Result (Unit {0}) Stop) (s : State) → line_named (ended_in (λ x. x) e) ≡ line_named (ended_in (λ _. s) e)
end_line (Ok x) s = refl
end_line (Err h) s = refl

report_same : {k k' l l' p p' b b' q q' : ℕ} → k ≡ k' → l ≡ l' → p ≡ p' → b ≡ b' → q ≡ q' → ◌≡◌ {A = Report} (record { number = k; line = l; pages = p; bytes = b; questions = q }) (record { number = k'; line = l'; pages = p'; bytes = b'; questions = q' })
report_same x y z v w = rw (x, y, z, v, w)

-- what a run from the start left behind
handed : (source : Question → Answer) (tree : Meaning State) (T : List ℕ) (R : List Question) (T' : List ℕ) (R' : List Question) (r : Report) (s : State) (e : Result (Unit {0}) Stop) → r.number ≡ number_of (ended_in (λ x. x) e) → r.line ≡ line_named (ended_in (λ x. x) e)
    → Does source tree (at T 0 R 0 (length R) 1) (at T' r.bytes R' r.questions (length R) r.pages) (ended_in (λ _. s) e) → HandsBack (ran_to (run source (length R) (length T) tree)) T R T' R' r
handed source tree T R T' R' r s e i j d =
    let y = rw (sub-zero (length R), sub-zero (length T)) at d.did in
    record {
      result = report_same (i ∙ end_number e s ∙ ap number_of y.end) (j ∙ end_line e s ∙ ap line_named y.end) y.pages (omega (arith, y.printed)) (omega (arith, y.asked));
      text = y.text;
      reads = y.log;
    }

module _ (t name b : List ℕ) (n : ℕ) (T₀ : List ℕ) (R₀ : List Question) where
  abbrev source : Question → Answer
  source = source_of (take n b)

  abbrev P₀ : Place Question
  P₀ = at T₀ 0 R₀ 0 (length R₀) 1

  module _ (index : List ℕ) (s : Stretch) (rows : List (List ℕ)) (hr : length rows ≡ 99) (hi : length index ≡ 5461) (g : Begun t name b n (length R₀) index s) where
    untouched : s.more ≡ false → Reported t name b n T₀ R₀ T₀ R₀ s.report
    untouched e = let u = g.refused e (length T₀) in record { result = u.result; text = sym (ap (sets T₀ 0) u.text); reads = sym (ap (sets R₀ 0) u.questions) }

    module _ (m : s.more ≡ true) where
      state_is : state_in s.saved rows b ≡ start_of (g.run m)
      state_is = g.start m rows (source_of (store_of s.saved b))

      accepted_as : report_of t name b n (length R₀) (length T₀) ≡ ran_to (run source (length R₀) (length T₀) (run_meaning t (g.run m)))
      unfolding report_of holds_cells checked_outcome
      accepted_as =
          let k = g.kept m in
          let h = sym (part_held b n (g.stored m)) ∙ k.ready.holds in
          rw (h, g.accepted m) (ap (λ (f : Question → Answer). ran_to (run f (length R₀) (length T₀) (run_meaning t (g.run m)))) (sym (part_answers b n (g.stored m))))

      first : (left end printed asked page : ℕ) (st : State) → left ≡ 50000 → end ≡ (g.run m).until → printed ≡ 0 → asked ≡ 0 → page ≡ 1 → st ≡ start_of (g.run m) → Leads source (run_meaning t (g.run m)) P₀ (run_from left t end st) (at T₀ printed R₀ asked (length R₀) page)
      first left end printed asked page st e₁ e₂ e₃ e₄ e₅ e₆ = rw (e₁, e₂, e₃, e₄, e₅, e₆) (leads_start source (run_meaning t (g.run m)) P₀)

      standing_at : (left : ℕ) (st : State) → left ≡ 50000 → st ≡ start_of (g.run m) → Standing t left st
      standing_at left st e₁ e₂ = rw (e₁, e₂) (start_standing t name (g.run m) (g.accepted m))

      may_run : Going t name b n T₀ R₀ s.saved rows index T₀ R₀
      may_run = record {
        ready = record {
          stored = omega (arith, g.len m, g.stored m);
          short = omega (arith, g.len m, g.short m);
          kept = subst (λ (k : ℕ). Kept (take k b) (take s.saved.count index)) (sym (g.len m)) (g.kept m);
          counted = g.counted m;
          inside = omega (arith, g.end m, (accepted_runs t name (g.run m) (g.accepted m)).inside);
          standing = standing_at s.saved.left (state_in s.saved rows b) (g.left m) state_is;
          room = omega (arith, g.printed m);
          asked = omega (arith, g.asked m);
          rows_held = hr;
          remembered = g.remembered m;
          indexed = hi;
        };
        whole = run_meaning t (g.run m);
        outcome = accepted_as;
        leads = first s.saved.left s.saved.end s.saved.printed s.saved.asked s.saved.flow.page.number (state_in s.saved rows b) (g.left m) (g.end m) (g.printed m) (g.asked m) (g.page m) state_is;
        len = g.len m;
        lent = g.lent m;
      }

    pub begins : Reached t name b n T₀ R₀ s rows index T₀ R₀
    begins = record { text_same = refl; reads_same = refl; going = may_run; over = untouched }

  module _ (s : Stretch) (rows : List (List ℕ)) (index T : List ℕ) (R : List Question) (d : Reached t name b n T₀ R₀ s rows index T R) where
    pub run_ready : s.more ≡ true → RunReady t b index T rows s.saved
    run_ready m = (d.going m).ready

    pub ended : s.more ≡ false → Reported t name b n T₀ R₀ T R s.report
    ended m = d.over m

    module _ (m : s.more ≡ true) (T' : List ℕ) (rows' : List (List ℕ)) (r : Stretch) (x : Ran t b index T rows s T' rows' r) where
      abbrev v : Saved
      v = s.saved

      g : Going t name b n T₀ R₀ v rows index T R
      g = d.going m

      -- questions from the log's start, behind those of the read list
      behind : {A : Type 0} (tree : Meaning A) (u page : ℕ) (e : End Refusal ℕ A) → Does (source_of (store_of v b)) tree (fresh T v) (at T' u (questions r.log.words) r.log.n (v.places - v.asked) page) e
          → Does source tree (at T v.printed R v.asked (length R₀) v.flow.page.number) (at T' u (sets R v.asked (take r.log.n (questions r.log.words))) (v.asked + r.log.n) (length R₀) page) e
      behind tree u page e y =
          moved (subst (λ (k : ℕ). Does (source_of (take k b)) tree (fresh T v) (at T' u (questions r.log.words) r.log.n (v.places - v.asked) page) e) g.len y)
          R v.asked (length R₀) (ap (λ (k : ℕ). k - v.asked) (sym g.lent)) (omega (arith, x.few, empty))

      logged_most : r.log.n ≤ v.places - v.asked
      logged_most = by r.more refl
        where
          by : (f : Bool) → r.more ≡ f → r.log.n ≤ v.places - v.asked
          by true e = asked_most (x.on e)
          by false e = asked_most (x.over e).does

      text_kept_on : length T' ≡ length T₀
      text_kept_on = by r.more refl
        where
          by : (f : Bool) → r.more ≡ f → length T' ≡ length T₀
          by true e = text_kept (x.on e) ∙ d.text_same
          by false e = text_kept (x.over e).does ∙ d.text_same

      pub log_fits : (r.log.at + r.log.n ≤ length R) × (r.log.n ≤ 512)
      log_fits = (omega (arith, logged_most, g.ready.asked, g.lent, d.reads_same, x.place), x.few)

      -- the measure falls
      pub falls : left_of r < left_of s
      unfolding left_of
      falls = by r.more refl
        where
          by : (f : Bool) → r.more ≡ f → cond f (suc r.saved.left) 0 < cond s.more (suc v.left) 0
          by true e = rw m (omega (arith, x.less e))
          by false e = rw m (omega arith)

      module _ (index' : List ℕ) (i : index' ≡ index) where
        abbrev R' : List Question
        R' = sets R r.log.at (take r.log.n (questions r.log.words))

        reads_are : R' ≡ sets R v.asked (take r.log.n (questions r.log.words))
        reads_are = ap (λ (k : ℕ). sets R k (take r.log.n (questions r.log.words))) x.place

        reads_kept_on : length R' ≡ length R₀
        reads_kept_on = let z : length R' ≡ length R = simp length-sets in z ∙ d.reads_same

        onward : (e : r.more ≡ true) → Leads source g.whole P₀ (run_from r.saved.left t v.end (state_in r.saved rows' b)) (at T' r.saved.printed (sets R v.asked (take r.log.n (questions r.log.words))) (v.asked + r.log.n) (length R₀) r.saved.flow.page.number)
        onward e =
            let z : v.left ≡ v.left - r.saved.left + r.saved.left = omega (arith, x.less e) in
            leads_next (stretch (v.left - r.saved.left) t v.end (state_in v rows b)) (run_from r.saved.left t v.end)
            (subst (λ (tree : Meaning State). Leads source g.whole P₀ tree (at T v.printed R v.asked (length R₀) v.flow.page.number))
            (ap (λ (k : ℕ). run_from k t v.end (state_in v rows b)) z ∙ run_split t v.end (v.left - r.saved.left) r.saved.left (state_in v rows b)) g.leads)
            (behind (stretch (v.left - r.saved.left) t v.end (state_in v rows b)) r.saved.printed r.saved.flow.page.number (finished (state_in r.saved rows' b)) (x.on e))

        going_on : r.more ≡ true → Going t name b n T₀ R₀ r.saved rows' index' T' R'
        going_on e = record {
          ready = subst (λ (j : List ℕ). RunReady t b j T' rows' r.saved) (sym i) (x.ready e);
          whole = g.whole;
          outcome = g.outcome;
          leads = carried r.saved.end R' r.saved.asked (x.same_end e) reads_are (x.asked e);
          len = x.same_store e ∙ g.len;
          lent = x.same_places e ∙ g.lent;
        }
          where
            carried : (end : ℕ) (R'' : List Question) (asked : ℕ) → end ≡ v.end → R'' ≡ sets R v.asked (take r.log.n (questions r.log.words)) → asked ≡ v.asked + r.log.n
                → Leads source g.whole P₀ (run_from r.saved.left t end (state_in r.saved rows' b)) (at T' r.saved.printed R'' asked (length R₀) r.saved.flow.page.number)
            carried end R'' asked p q k = rw (p, q, k) (onward e)

        finished_with : r.more ≡ false → Reported t name b n T₀ R₀ T' R' r.report
        finished_with e =
            let y = x.over e in
            rw (g.outcome, reads_are)
            (handed source g.whole T₀ R₀ T' (sets R v.asked (take r.log.n (questions r.log.words))) r.report y.last y.ended y.number y.line
            (subst (λ (k : ℕ). Does source g.whole P₀ (at T' r.report.bytes (sets R v.asked (take r.log.n (questions r.log.words))) k (length R₀) r.report.pages) (ended_in (λ _. y.last) y.ended)) (sym y.questions)
            (g.leads.leads _ _ (behind (run_from v.left t v.end (state_in v rows b)) r.report.bytes r.report.pages (ended_in (λ _. y.last) y.ended) y.does))))

        pub goes_on : Reached t name b n T₀ R₀ r rows' index' T' R'
        goes_on = record { text_same = text_kept_on; reads_same = reads_kept_on; going = going_on; over = finished_with }
