-- Laws of the checks' order.
use Rattle.std.specs.Prelude.{Option, Some, None, Result, Ok, Err}
use mathlib.Core.Path.{◌≡◌, refl, sym, ap, ◌∙◌}
use mathlib.Core.Bool.{Bool, true, false}
use mathlib.Core.List.{List}
use Prim.Native.Nat.{ℕ, ◌≤◌}
use native.Mathlib.Omega.{arith}
use borrow.Author.Tests.{ltb-true, ltb-false}
use lib.Dec.{ltb}
use lib.ListN.{length}
use Rattle.meaning.specs.declared.refusal.Refusal.{Refusal}
use Rattle.meaning.specs.declared.refusal.Refusal.TheVariants.{BadTemplate, BadLine, BadNesting, NoSection}
use Rattle.template.specs.declared.Extent.{Extent}
use Rattle.template.specs.Sections.{section_from, section_end, selection_from, selected}
use Rattle.template.specs.Lines.{lines_of}
use Rattle.template.specs.Verdicts.{fault_refused, bytes_check}
use Rattle.template.specs.Checks.{form_before_nesting}
use Rattle.template.specs.Order.{unless_fault, accepted_run, section_checked}
use Rattle.template.proofs.VerdictLaws.{judged_none, too_long}

-- ---- a check, or else what follows it

module _ (next : Result Extent (Refusal × ℕ)) where
  module _ (e : Refusal) (v : Option ℕ) where
    pub no_fault : (r : Result Extent (Refusal × ℕ)) → fault_refused e v ≡ Ok tt → r ≡ next → r ≡ unless_fault e v next
    unfolding unless_fault
    no_fault r k h = rw (judged_none e v k) h

    pub a_fault : (x : Refusal × ℕ) → fault_refused e v ≡ Err x → Err x ≡ unless_fault e v next
    unfolding fault_refused unless_fault
    a_fault x k = go v k
      where
        go : (v : Option ℕ) → fault_refused e v ≡ Err x → Err x ≡ unless_fault e v next
        go None k = absurd (let z : ◌≡◌ {A = ℕ} 0 1 = cc in omega arith)
        go (Some n) k = let z : (e, n) ≡ x = cc in ap Err (sym z)

  -- 3 and 4 in one
  module _ (f v : Option ℕ) where
    pub no_faults_met : (r : Result Extent (Refusal × ℕ)) → form_before_nesting f v ≡ Ok tt → r ≡ next → r ≡ unless_fault BadLine f (unless_fault BadNesting v next)
    unfolding unless_fault form_before_nesting
    no_faults_met r k h = go f v k
      where
        go : (f v : Option ℕ) → form_before_nesting f v ≡ Ok tt → r ≡ unless_fault BadLine f (unless_fault BadNesting v next)
        go (Some n) v k = absurd (let z : ◌≡◌ {A = ℕ} 0 1 = cc in omega arith)
        go None (Some n) k = absurd (let z : ◌≡◌ {A = ℕ} 0 1 = cc in omega arith)
        go None None k = h

    pub a_fault_met : (x : Refusal × ℕ) → form_before_nesting f v ≡ Err x → Err x ≡ unless_fault BadLine f (unless_fault BadNesting v next)
    unfolding unless_fault form_before_nesting
    a_fault_met x k = go f v k
      where
        go : (f v : Option ℕ) → form_before_nesting f v ≡ Err x → Err x ≡ unless_fault BadLine f (unless_fault BadNesting v next)
        go (Some n) v k = let z : (BadLine, n) ≡ x = cc in ap Err (sym z)
        go None (Some n) k = let z : (BadNesting, n) ≡ x = cc in ap Err (sym z)
        go None None k = absurd (let z : ◌≡◌ {A = ℕ} 0 1 = cc in omega arith)

-- a template without a fault in its bytes is within its length
pub short_by_bytes : (t : List ℕ) → bytes_check t ≡ None → length t ≤ 32768
short_by_bytes t k = go (ltb 32768 (length t)) refl
  where
    go : (p : Bool) → ltb 32768 (length t) ≡ p → length t ≤ 32768
    go false h = ltb-false 32768 (length t) h
    go true h =
        let f : ◌≡◌ {A = Option ℕ} None (Some 0) = sym k ∙ too_long t (ltb-true 32768 (length t) h) in
        let z : ◌≡◌ {A = ℕ} 0 1 = cc in absurd (omega arith)

pub within_length : (t : List ℕ) → fault_refused BadTemplate (bytes_check t) ≡ Ok tt → length t ≤ 32768
within_length t k = short_by_bytes t (judged_none _ _ k)

module _ (t name : List ℕ) (w : Option (ℕ × ℕ)) (q : w ≡ section_from name 0 0 (lines_of t)) where
  pub no_section : w ≡ None → Err (NoSection, 0) ≡ section_checked t name
  unfolding section_checked accepted_run selected selection_from
  no_section k = rw (← q, k)

  pub a_section : (a n e : ℕ) → w ≡ Some (a, n) → e ≡ section_end t name a n → Ok (record { start = a; line = n; until = e }) ≡ section_checked t name
  unfolding section_checked accepted_run selected selection_from
  a_section a n e k h = rw (← q, k, ← h)
