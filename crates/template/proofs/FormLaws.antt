-- Laws of checks 3 and 4 in their order.
use Rattle.std.specs.Prelude.{Option, Some, None, Ok, Err}
use mathlib.Core.Path.{◌≡◌, sym, ap, ◌∙◌}
use mathlib.Core.Bool.{Bool}
use mathlib.Core.List.{List}
use Prim.Native.Nat.{ℕ}
use native.Mathlib.Omega.{arith}
use Rattle.nesting.specs.declared.Shape.{Shape}
use Rattle.meaning.specs.declared.refusal.Refusal.{Refusal}
use Rattle.meaning.specs.declared.refusal.Refusal.TheVariants.{BadLine, BadNesting}
use Rattle.template.specs.Verdicts.{fault_refused}
use Rattle.template.specs.Shape.{shape_of, has_form, is_formed}
use Rattle.template.specs.Checks.{form_before_nesting}

pub formed_by : (l : List ℕ) (shape : Shape) (b : Bool) → shape ≡ shape_of l → b ≡ has_form shape → b ≡ is_formed l
unfolding is_formed
formed_by l shape b q r = r ∙ ap has_form q

module _ (f v : Option ℕ) where
  pub form_fault : (n : ℕ) → Some n ≡ f → Err (BadLine, n) ≡ form_before_nesting f v
  unfolding form_before_nesting
  form_fault n k = rw (← k)

  pub nesting_fault : (n : ℕ) → None ≡ f → Some n ≡ v → Err (BadNesting, n) ≡ form_before_nesting f v
  unfolding form_before_nesting
  nesting_fault n k h = rw (← k, ← h)

  pub no_faults : None ≡ f → None ≡ v → Ok tt ≡ form_before_nesting f v
  unfolding form_before_nesting
  no_faults k h = rw (← k, ← h)

  -- 3 turns away a line behind one that is wrong in nesting
  pub later_fault : (x : Refusal × ℕ) → fault_refused BadLine f ≡ Err x → Err x ≡ form_before_nesting f v
  unfolding fault_refused form_before_nesting
  later_fault x k = go f k
    where
      go : (f : Option ℕ) → fault_refused BadLine f ≡ Err x → Err x ≡ form_before_nesting f v
      go None k = absurd (let z : ◌≡◌ {A = ℕ} 0 1 = cc in omega arith)
      go (Some n) k = sym k
