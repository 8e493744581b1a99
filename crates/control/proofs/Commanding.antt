-- A command that only asks, and what follows from what it yields; a line that does nothing but set.
use Rattle.std.specs.Prelude.{Err, Ok}
use mathlib.Core.Path.{◌≡◌, refl, ap, ◌∙◌, subst, sym}
use mathlib.Core.List.{List}
use Prim.Native.Nat.{ℕ, ◌+◌, ◌≤◌}
use native.Mathlib.Omega.{arith}
use lib.IntN.{ℤ}
use lib.ListN.{length}
use Rattle.meaning.specs.Meaning.{Meaning}
use Rattle.meaning.proofs.Doing.{then_does, then_over, does_done, does_stop}
use Rattle.values.specs.Inner.State.{Held, held}
use Rattle.commands.specs.Inner.Taking.{mapped}
use Rattle.commands.specs.Settling.{Settled, concluded}
use Rattle.control.specs.declared.state.Flow.{Flow}
use Rattle.control.specs.State.{State}
use Rattle.control.specs.Inner.Executing.{source_of, state_at, SameRows, Executes}
use Rattle.control.specs.Inner.Arms.{Settles}
use Rattle.control.specs.Inner.Remembering.{Remembers}
use Rattle.meaning.specs.Tree.{finished, halted, bind, done}
use Rattle.meaning.specs.Number.{cause_of, ended_in}
use Rattle.meaning.specs.Inner.Place.{Does}
use Rattle.meaning.specs.declared.end.Stop.{Stop}
use Rattle.values.specs.declared.log.Log.{Log}
use Rattle.values.specs.Inner.Logged.{filled_to}
use Rattle.std.specs.Prelude.{Result, Ok, Err}

-- what is asked or printed, then the state that follows from its result
module _ {A : Type 0} {b : List ℕ} {h h' : Held} {f f' : Flow} {T : List ℕ} {u : ℕ} {log : Log} {T' : List ℕ} {u' : ℕ} {log' : Log} (m : Meaning A) (g : A → State) (few : log'.asked ≤ log.asked + 330) (rows : SameRows h h') where
  pub then_executes : (x : A) → Does (source_of b) m (filled_to T u log f.page.number) (filled_to T' u' log' f'.page.number) (finished x) → state_at b h' f' ≡ g x → Executes 330 (bind m (λ y. done (g y))) b h f T u log h' f' T' u' log' (Ok tt)
  then_executes x d e = record {
    does = rw e (then_does (λ y. done (g y)) d (does_done (source_of b) (filled_to T' u' log' f'.page.number) (g x)));
    few = few;
    rows = rows;
  }

  pub over_executes : (s : Stop) → Does (source_of b) m (filled_to T u log f.page.number) (filled_to T' u' log' f'.page.number) (halted (cause_of s.halt) s.line) → Executes 330 (bind m (λ y. done (g y))) b h f T u log h' f' T' u' log' (Err s)
  over_executes s d = record { does = then_over (λ y. done (g y)) d; few = few; rows = rows }

-- a line that does nothing but set
pub went_executes : (b : List ℕ) (h h' : Held) (f f' : Flow) (T : List ℕ) (u : ℕ) (log : Log) (s : State) → f'.page ≡ f.page → state_at b h' f' ≡ s → SameRows h h' → Executes 330 (done s) b h f T u log h' f' T u log (Ok tt)
went_executes b h h' f f' T u log s q k rows = record {
  does = rw (k, q) (does_done (source_of b) (filled_to T u log f.page.number) s);
  few = omega arith;
  rows = rows;
}

-- A line that neither asks nor prints: refused, or the state that follows from its result.
pub settles_executes : {A B : Type 0} {b : List ℕ} {h h' : Held} {f f' : Flow} {T : List ℕ} {u : ℕ} {log : Log} {r : Result (Unit {0}) Stop} {l : ℕ} {to : A → Flow} (x : Settled A) (z : Settled B) (into : A → B) (g : B → State) → z ≡ mapped into x → Settles l f to x f' r → SameRows h h' → ((y : A) → (to y).page ≡ f.page) → ((y : A) → state_at b h' (to y) ≡ g (into y)) → Executes 330 (bind (concluded l z) (λ y. done (g y))) b h f T u log h' f' T u log r
settles_executes {b = b} {h = h} {h' = h'} {f = f} {T = T} {u = u} {log = log} {to = to} (Ok y) z into g q i rows k e = rw (q, i.end, i.flow) (went_executes b h h' f (to y) T u log (g (into y)) (k y) (e y) rows)
settles_executes {b = b} {f = f} {T = T} {u = u} {log = log} {l = l} (Err w) z into g q i rows k e = rw (q, i.end, i.flow) (record { does = does_stop (source_of b) (filled_to T u log f.page.number) w l; few = omega arith; rows = rows })

-- A jump sets no register that a state shows.
jump_state : (b : List ℕ) (numbers : List ℤ) (rows : List (List ℕ)) (g : Flow) {t ws ws' : List ℕ} → Remembers t ws ws' → state_at b (held numbers rows ws') g ≡ state_at b (held numbers rows ws) g
jump_state b numbers rows g d = rw (d.others 0 99 (omega arith), d.others 99 10 (omega arith), d.others 109 10 (omega arith), d.others 119 9 (omega arith), d.others 128 20 (omega arith))

pub jump_executes : {m : Meaning State} {b : List ℕ} {h : Held} {f f' : Flow} {T : List ℕ} {u : ℕ} {log : Log} {numbers : List ℤ} {rows : List (List ℕ)} {t ws ws' T' : List ℕ} {u' : ℕ} {log' : Log} {r : Result (Unit {0}) Stop} → Remembers t ws ws' → Executes 330 m b h f T u log (held numbers rows ws) f' T' u' log' r → Executes 330 m b h f T u log (held numbers rows ws') f' T' u' log' r
jump_executes {m} {b} {h} {f} {f'} {T} {u} {log} {numbers} {rows} {t} {ws} {ws'} {T'} {u'} {log'} {r} d x = record {
  does = subst (λ (s : State). Does (source_of b) m (filled_to T u log f.page.number) (filled_to T' u' log' f'.page.number) (ended_in (λ _. s) r)) (sym (jump_state b numbers rows f' d)) x.does;
  few = x.few;
  rows = (x.rows.0, ap length (d.others 128 20 (omega arith)) ∙ x.rows.1);
}

pub mapped_same : {A : Type 0} (x : Settled A) → x ≡ mapped (λ y. y) x
mapped_same (Ok y) = refl
mapped_same (Err e) = refl

-- The arguments of a line, then the line by their values.
module _ {b : List ℕ} {h : Held} {f : Flow} {T : List ℕ} {u : ℕ} {log log₁ : Log} {A : Type 0} (m : Meaning A) (g : A → Meaning State) (few : log₁.asked ≤ log.asked + 2) where
  pub inputs_then : {h' : Held} {f' : Flow} {T' : List ℕ} {u' : ℕ} {log' : Log} {r : Result (Unit {0}) Stop} (v : A) → Does (source_of b) m (filled_to T u log f.page.number) (filled_to T u log₁ f.page.number) (finished v) → Executes 330 (g v) b h f T u log₁ h' f' T' u' log' r → Executes 332 (bind m g) b h f T u log h' f' T' u' log' r
  inputs_then v d x = record { does = then_does g d x.does; few = omega (arith, x.few); rows = x.rows }

  pub inputs_over : (s : Stop) → Does (source_of b) m (filled_to T u log f.page.number) (filled_to T u log₁ f.page.number) (halted (cause_of s.halt) s.line) → Executes 332 (bind m g) b h f T u log h f T u log₁ (Err s)
  inputs_over s d = record { does = then_over g d; few = omega arith; rows = (refl, refl) }
