-- The answers of `begin`: the call is refused, or the run may start.
use Rattle.std.specs.Prelude.{Option, Some, None, Result, Ok, Err}
use mathlib.Core.Path.{◌≡◌, refl, sym, ◌∙◌, subst}
use mathlib.Core.Bool.{false≢true}
use mathlib.Core.List.{List}
use Prim.Native.Nat.{ℕ, ◌≤◌}
use lib.ListN.{length}
use Rattle.template.specs.declared.Extent.{Extent}
use Rattle.template.specs.Order.{template_checked}
use Rattle.cells.specs.Store.{cells_held, holds_cells}
use Rattle.cells.specs.Inner.Index.{Indexes}
use Rattle.cells.proofs.Replies.{not_held}
use Rattle.meaning.specs.Event.{joined}
use Rattle.meaning.specs.declared.refusal.Refusal.{Refusal}
use Rattle.meaning.specs.declared.refusal.Refusal.TheVariants as refusal
use Rattle.report.specs.declared.state.Stretch.{Stretch}
use Rattle.report.specs.Report.{refused_report, checked_outcome, report_of}
use Rattle.report.specs.Inner.Start.{start_flow, start_saved, refused_at, started_at}
use Rattle.report.specs.Inner.Begun.{Begun}
use Rattle.report.proofs.Starting.{starts_at, none_remembered}
use Rattle.report.proofs.Stored.{Serving, part_kept}

module _ (t name b : List ℕ) (n places : ℕ) (p p' : List ℕ) (x : Option ℕ) (y : Indexes p (cells_held b n) p' x) (r : Stretch) where
  refused_begun : (e : Refusal) (l : ℕ) → ((room : ℕ) → report_of t name b n places room ≡ refused_report e l) → r ≡ refused_at e l → Begun t name b n places p' r
  unfolding refused_at joined
  refused_begun e l i j = subst (Begun t name b n places p') (sym j) begun
    where
      begun : Begun t name b n places p' (refused_at e l)
      begun = record {
        refused = λ _ room. rw (i room) (record { result = refl; text = refl; questions = refl });
        run = λ m. absurd (false≢true m);
        accepted = λ m. absurd (false≢true m);
        start = λ m. absurd (false≢true m);
        remembered = λ m. absurd (false≢true m);
        end = λ m. absurd (false≢true m);
        left = λ m. absurd (false≢true m);
        page = λ m. absurd (false≢true m);
        printed = λ m. absurd (false≢true m);
        asked = λ m. absurd (false≢true m);
        lent = λ m. absurd (false≢true m);
        len = λ m. absurd (false≢true m);
        stored = λ m. absurd (false≢true m);
        short = λ m. absurd (false≢true m);
        kept = λ m. absurd (false≢true m);
        counted = λ m. absurd (false≢true m);
      }

  -- 1
  pub bad_store : x ≡ None → r ≡ refused_at refusal.BadStore 0 → Begun t name b n places p' r
  unfolding report_of holds_cells
  bad_store e j = refused_begun refusal.BadStore 0 (λ room. rw (not_held b n p p' x y e)) j

  module _ (count : ℕ) (e : x ≡ Some count) (l : 5461 ≤ length p) (k : Result Extent (Refusal × ℕ)) (c : k ≡ template_checked t name) where
    indexed : Serving b n p' count
    indexed = part_kept b n p p' x y count e l

    -- 2 to 6
    pub template_refused : (f : Refusal) (line : ℕ) → k ≡ Err (f, line) → r ≡ refused_at f line → Begun t name b n places p' r
    unfolding report_of holds_cells checked_outcome
    template_refused f line i j = refused_begun f line (λ room. rw (indexed.holds, sym c ∙ i)) j

    pub may_start : (s : Extent) → k ≡ Ok s → r ≡ started_at s n count places → Begun t name b n places p' r
    unfolding started_at start_saved start_flow
    may_start s i j = subst (Begun t name b n places p') (sym j) begun
      where
        begun : Begun t name b n places p' (started_at s n count places)
        begun = record {
          refused = λ m. absurd (false≢true (sym m));
          run = λ _. s;
          accepted = λ _. sym c ∙ i;
          start = λ _ rows source. starts_at s n count places rows source;
          remembered = λ _. none_remembered t;
          end = λ _. refl;
          left = λ _. refl;
          page = λ _. refl;
          printed = λ _. refl;
          asked = λ _. refl;
          lent = λ _. refl;
          len = λ _. refl;
          stored = λ _. indexed.stored;
          short = λ _. indexed.short;
          kept = λ _. indexed.kept;
          counted = λ _. indexed.counted;
        }
