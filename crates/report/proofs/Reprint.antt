-- Demand 3 for reports: the same run on the same answers.
use Rattle.meaning.specs.declared.refusal.Refusal.{Refusal}
use Rattle.template.specs.declared.Extent.{Extent}
use Rattle.std.specs.Prelude.{Result, Ok, Err}
use mathlib.Core.Path.{◌≡◌, refl, sym, ap, ◌∙◌, subst}
use mathlib.Core.Bool.{Bool, true, false, cond}
use mathlib.Core.List.{List}
use Prim.Native.Nat.{ℕ, ◌≤◌}
use native.Mathlib.Omega.{arith}
use lib.ListN.{length, take}
use Rattle.template.specs.Order.{template_checked}
use Rattle.history.specs.LentStore as history
use Rattle.history.specs.LentStore.{in_form, answer_in, AsBefore}
use Rattle.history.specs.Change.{Change}
use Rattle.history.specs.History.{after_changes}
use Rattle.history.proofs.Lists.{same_form}
use Rattle.history.proofs.Same.{same_run}
use Rattle.meaning.specs.declared.question.Question.{Question}
use Rattle.meaning.specs.declared.refusal.Refusal.TheVariants.{BadStore}
use Rattle.meaning.specs.Event.{joined}
use Rattle.meaning.proofs.Doing.{filled}
use Rattle.meaning.proofs.Runs.{asked_fits, text_fits_law}
use Rattle.values.specs.Source.{answers}
use Rattle.report.specs.declared.Report.{Report}
use Rattle.report.specs.Report.{run_meaning, Outcome, text_in, refused_report, ran_to, checked_outcome, report_of, report_in}
use Rattle.report.specs.Reported.{HandsBack, Reported}

-- the report on a store
abbrev pub report_on : List ℕ → List ℕ → ℕ → ℕ → history.LentStore → Outcome
report_on t name places room m = report_of t name m.buffer m.length places room

-- "one claim about the whole list of edits, the empty list included", from a store of any bytes: where each question of the
-- first report's read list is answered as before, the second report is the first
pub reprint : (t name : List ℕ) (places room : ℕ) (es : List Change) (m : history.LentStore)
    → AsBefore m (after_changes es m) (report_on t name places room m).questions
    → report_on t name places room (after_changes es m) ≡ report_on t name places room m
unfolding report_of checked_outcome
reprint t name places room es m h = by (in_form m) (in_form (after_changes es m)) (same_form es m) h
  where
    -- checks 2 to 6 don't look at the store
    checked : (k : Result Extent (Refusal × ℕ)) → AsBefore m (after_changes es m) (checked_outcome t (answer_in m) places room k).questions
        → checked_outcome t (answer_in (after_changes es m)) places room k ≡ checked_outcome t (answer_in m) places room k
    checked (Ok r) h = ap ran_to (sym (same_run es m places room (run_meaning t r) h))
    checked (Err (e, l)) h = refl

    by : (f f' : Bool) → f' ≡ f → AsBefore m (after_changes es m) (cond f (checked_outcome t (answer_in m) places room (template_checked t name)) (refused_report BadStore 0)).questions
        → cond f' (checked_outcome t (answer_in (after_changes es m)) places room (template_checked t name)) (refused_report BadStore 0) ≡ cond f (checked_outcome t (answer_in m) places room (template_checked t name)) (refused_report BadStore 0)
    by true f' e h = rw e (checked (template_checked t name) h)
    by false f' e h = rw e

-- ---- the same of two calls

pub record Fits (o : Outcome) (places room : ℕ) : Type 0 where
  pub asked : length o.questions ≤ places
  pub printed : length (text_in o) ≤ room

-- a report fits its buffers
pub report_fits : (t name b : List ℕ) (n places room : ℕ) → Fits (report_of t name b n places room) places room
unfolding report_of checked_outcome joined
report_fits t name b n places room = by (in_form (record { buffer = b; length = n }))
  where
    checked : (k : Result Extent (Refusal × ℕ)) → Fits (checked_outcome t (answers b n) places room k) places room
    checked (Ok r) = record { asked = asked_fits (answers b n) places room (run_meaning t r); printed = text_fits_law (answers b n) places room (run_meaning t r) }
    checked (Err (e, l)) = record { asked = omega arith; printed = omega arith }

    by : (f : Bool) → Fits (cond f (checked_outcome t (answers b n) places room (template_checked t name)) (refused_report BadStore 0)) places room
    by true = checked (template_checked t name)
    by false = record { asked = omega arith; printed = omega arith }

-- what a call that reports o says of it, by its counts
module _ (o : Outcome) (T : List ℕ) (R : List Question) (T' : List ℕ) (R' : List Question) (r : Report) (h : HandsBack o T R T' R' r) (f : Fits o (length R) (length T)) where
  bytes_are : r.bytes ≡ length (text_in o)
  bytes_are = ap (λ (x : Report). x.bytes) h.result

  questions_are : r.questions ≡ length o.questions
  questions_are = ap (λ (x : Report). x.questions) h.result

  pub printed_is : take r.bytes T' ≡ text_in o
  printed_is = filled T T' (text_in o) 0 r.bytes h.text (omega (arith, bytes_are)) (omega (arith, f.printed))

  pub listed_is : take r.questions R' ≡ o.questions
  listed_is = filled R R' o.questions 0 r.questions h.reads (omega (arith, questions_are)) (omega (arith, f.asked))

-- two calls gave the same number, line, pages and counts, printed the same text and listed the same questions
pub record SameReport (T' : List ℕ) (R' : List Question) (r : Report) (T'' : List ℕ) (R'' : List Question) (r' : Report) : Type 0 where
  pub result : r' ≡ r
  pub text : take r'.bytes T'' ≡ take r.bytes T'
  pub reads : take r'.questions R'' ≡ take r.questions R'

same_outcome : (o o' : Outcome) → o' ≡ o → (T : List ℕ) (R : List Question) (T' : List ℕ) (R' : List Question) (r : Report) → HandsBack o T R T' R' r → Fits o (length R) (length T)
    → (S : List ℕ) (Q : List Question) (T'' : List ℕ) (R'' : List Question) (r' : Report) → HandsBack o' S Q T'' R'' r' → Fits o' (length Q) (length S) → SameReport T' R' r T'' R'' r'
same_outcome o o' e T R T' R' r h f S Q T'' R'' r' h' f' = record {
  result = h'.result ∙ ap report_in e ∙ sym h.result;
  text = printed_is o' S Q T'' R'' r' h' f' ∙ ap text_in e ∙ sym (printed_is o T R T' R' r h f);
  reads = listed_is o' S Q T'' R'' r' h' f' ∙ ap (λ (x : Outcome). x.questions) e ∙ sym (listed_is o T R T' R' r h f);
}

-- "the first run, every edit and the second run are handed one store in the same buffer, at the length last handed back";
-- "Both runs are lent text buffers equally long and read lists with equally many places, whatever these held"; each question
-- that the first call listed is answered as before
pub reprinted : (t name : List ℕ) (es : List Change) (m : history.LentStore)
    (T : List ℕ) (R : List Question) (T' : List ℕ) (R' : List Question) (r : Report) → Reported t name m.buffer m.length T R T' R' r
    → AsBefore m (after_changes es m) (take r.questions R')
    → (S : List ℕ) (Q : List Question) (T'' : List ℕ) (R'' : List Question) (r' : Report) → length S ≡ length T → length Q ≡ length R
    → Reported t name (after_changes es m).buffer (after_changes es m).length S Q T'' R'' r'
    → SameReport T' R' r T'' R'' r'
reprinted t name es m T R T' R' r h b S Q T'' R'' r' e_t e_r h' =
    same_outcome o o' same T R T' R' r h fits S Q T'' R'' r' h' (report_fits t name (after_changes es m).buffer (after_changes es m).length (length Q) (length S))
  where
    o : Outcome
    o = report_on t name (length R) (length T) m

    o' : Outcome
    o' = report_on t name (length Q) (length S) (after_changes es m)

    fits : Fits o (length R) (length T)
    fits = report_fits t name m.buffer m.length (length R) (length T)

    same : o' ≡ o
    same = ap (λ (k : ℕ). report_on t name k (length S) (after_changes es m)) e_r ∙ ap (λ (k : ℕ). report_on t name (length R) k (after_changes es m)) e_t
        ∙ reprint t name (length R) (length T) es m (subst (AsBefore m (after_changes es m)) (listed_is o T R T' R' r h fits) b)
