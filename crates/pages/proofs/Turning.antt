-- A break: one law for each return of the code.
use mathlib.Core.Path.{◌≡◌, refl}
use mathlib.Core.Bool.{Bool, true, false}
use mathlib.Core.List.{List, [], ◌∷◌}
use Prim.Native.Nat.{ℕ, ◌+◌, ◌≤◌, ◌<◌}
use native.Mathlib.Omega.{arith}
use native.Mathlib.Nat.{add-zero}
use borrow.Author.Tests.{le-ltb, lt-ltb}
use lib.ListN.{length, set, length-set}
use Rattle.meaning.specs.Event.{break}
use Rattle.meaning.specs.Tree.{done}
use Rattle.meaning.specs.Inner.Place.{at}
use Rattle.meaning.specs.declared.refusal.Refusal.{Refusal}
use Rattle.meaning.specs.declared.refusal.Overflow.TheVariants.{Output}
use Rattle.meaning.specs.declared.end.Halt.TheVariants.{Cut}
use Rattle.meaning.proofs.Doing.{does_done, does_print, does_print_cut}
use Rattle.pages.specs.declared.page.Page.{Page}
use Rattle.pages.specs.Page.{broken_of, break_meaning, turn_meaning}
use Rattle.pages.specs.Inner.Paging.{TurnReady, Breaks, Turns}
use Rattle.std.specs.Prelude.{Result, Ok, Err}
use Rattle.meaning.specs.declared.end.Stop.{Stop}
use Rattle.meaning.specs.Number.{stopped}

-- ---- the break

module _ (due : ℕ) (feeds : Bool) (p : Page) (text : List ℕ) (n : ℕ) (h : TurnReady p text n) where
  pub turn_not : p.row ≤ 60 → Turns due feeds p text n p text n (Ok tt)
  unfolding turn_meaning
  turn_not k = record {
    does = λ o Q a l. rw (le-ltb 60 p.row k) (does_done o (at text n Q a l p.number) p);
    row = h.row;
    kept = refl;
    room = h.room;
  }

  pub break_quiet : (p' : Page) → feeds ≡ false → p' ≡ broken_of p → Breaks due feeds p text n p' text n (Ok tt)
  unfolding break_meaning
  break_quiet p' e hp = rw hp (record {
    does = λ o Q a l. rw e (rw (add-zero n) at (does_print {E = Refusal} o (at text n Q a l p.number) (break []) due (broken_of p) (omega (arith, h.room))));
    row = omega arith;
    kept = refl;
    room = h.room;
  })

  pub break_feeds : (p' : Page) → feeds ≡ true → n < length text → p' ≡ broken_of p → Breaks due feeds p text n p' (set text n 12) (n + 1) (Ok tt)
  unfolding break_meaning
  break_feeds p' e f hp = rw hp (record {
    does = λ o Q a l. rw e (does_print o (at text n Q a l p.number) (break (12 ∷ [])) due (broken_of p) (omega arith));
    row = omega arith;
    kept = length-set text n 12;
    room = omega arith;
  })

  pub break_full : (s : Stop) → s ≡ stopped (Cut Output) due → feeds ≡ true → length text ≤ n → Breaks due feeds p text n p text n (Err s)
  unfolding break_meaning
  break_full s q e f = record {
    does = λ o Q a l. rw (e, q) (does_print_cut o (at text n Q a l p.number) (break (12 ∷ [])) due (done (broken_of p)) h.room (omega arith));
    row = h.row;
    kept = refl;
    room = h.room;
  }

  pub turn_breaks : (p' : Page) (text' : List ℕ) (n' : ℕ) (r : Result (Unit {0}) Stop) → 60 < p.row → Breaks due feeds p text n p' text' n' r → Turns due feeds p text n p' text' n' r
  unfolding turn_meaning
  turn_breaks p' text' n' r k d = record {
    does = λ o Q a l. rw (lt-ltb 60 p.row k) (d.does o Q a l);
    row = d.row;
    kept = d.kept;
    room = d.room;
  }
