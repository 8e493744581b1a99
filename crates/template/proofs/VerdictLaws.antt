-- Laws of the first line at fault, and of check 2.
use Rattle.std.specs.Prelude.{Option, Some, None, Ok, Err}
use mathlib.Core.Path.{◌≡◌, refl, sym, ap, ◌∙◌}
use mathlib.Core.Bool.{Bool, true, false, false≢true}
use mathlib.Core.List.{List, [], ◌∷◌}
use Prim.Native.Nat.{ℕ, zero, suc, ◌+◌, ◌<◌, ◌≤◌}
use native.Mathlib.Numerals.{add-one}
use native.Mathlib.Omega.{arith}
use borrow.Author.Tests.{le-leb, lt-leb, lt-ltb, le-ltb, leb-true, leb-false, not-false}
use lib.Dec.{leb, eqb}
use lib.ListN.{length, get_or, take, drop, length-drop}
use lib.Seq.{get_or-drop}
use Rattle.meaning.specs.declared.refusal.Refusal.{Refusal}
use Rattle.scan.specs.declared.run.Class.{Class}
use Rattle.scan.specs.declared.run.Class.TheVariants.{Allowed, InLine}
use Rattle.scan.specs.Run.{belongs, span}
use Rattle.scan.proofs.RunLaws.{length_span, take_span}
use Rattle.scan.specs.Line.{all_allowed, line_at, next_line}
use Rattle.scan.specs.Inner.Bytes.{first_refused}
use Rattle.template.specs.Lines.{lines_of}
use Rattle.template.specs.Verdicts.{fault_refused, first_fault, line_allowed, bytes_check}
use Rattle.template.proofs.LineLaws.{lines_none, lines_more}

-- ---- a verdict as it is handed back

module _ (e : Refusal) (v : Option ℕ) where
  pub judged_fine : None ≡ v → Ok tt ≡ fault_refused e v
  unfolding fault_refused
  judged_fine k = rw (← k)

  pub judged_fault : (n : ℕ) → Some n ≡ v → Err (e, n) ≡ fault_refused e v
  unfolding fault_refused
  judged_fault n k = rw (← k)

  pub judged_none : fault_refused e v ≡ Ok tt → v ≡ None
  unfolding fault_refused
  judged_none k = go v k
    where
      go : (v : Option ℕ) → fault_refused e v ≡ Ok tt → v ≡ None
      go None k = refl
      go (Some n) k = absurd (let z : ◌≡◌ {A = ℕ} 0 1 = cc in omega arith)

-- ---- the first line at fault: the loop's rest gives what the whole gives

module _ (passes : List ℕ → Bool) (t : List ℕ) (at n : ℕ) {w : (Option ℕ)} (inv : first_fault passes n (lines_of (drop at t)) ≡ w) where
  pub none_left : length t ≤ at → None ≡ w
  unfolding first_fault
  none_left h = sym (ap (first_fault passes n) (lines_none t at h)) ∙ inv

  pub fault_here : at < length t → passes (line_at t at) ≡ false → Some n ≡ w
  unfolding first_fault
  fault_here h e = sym (rw (lines_more t at h, e)) ∙ inv

  pub fault_later : at < length t → passes (line_at t at) ≡ true → first_fault passes (n + 1) (lines_of (drop (next_line t at) t)) ≡ w
  unfolding first_fault
  fault_later h e = ap (λ (k : ℕ). first_fault passes k (lines_of (drop (next_line t at) t))) (add-one n) ∙ sym (rw (lines_more t at h, e)) ∙ inv

  -- the same with the line that a loop has in hand
  pub passed_later : (line : List ℕ) → at < length t → line ≡ line_at t at → passes line ≡ true → first_fault passes (n + 1) (lines_of (drop (at + (length line + 1)) t)) ≡ w
  passed_later line h e q =
      let l : at + (length line + 1) ≡ next_line t at = omega (arith, ap length e) in
      rw l (fault_later h (ap passes (sym e) ∙ q))

-- ---- allowed bytes

-- of the front of a list, by the run of allowed bytes
all_taken : (n : ℕ) (s : List ℕ) → n ≤ length (span Allowed s) → all_allowed (take n s) ≡ true
unfolding span all_allowed
all_taken zero s h = refl
all_taken (suc n) [] h = absurd (omega arith)
all_taken (suc n) (b ∷ s) h = go (belongs Allowed b) refl h (all_taken n s)
  where
    go : (p : Bool) → belongs Allowed b ≡ p → suc n ≤ length (span Allowed (b ∷ s)) → (n ≤ length (span Allowed s) → all_allowed (take n s) ≡ true) → all_allowed (take (suc n) (b ∷ s)) ≡ true
    go true e k more = let l = rw (e, span) at k in rw (e, all_allowed) (more (omega arith))
    go false e k more = let l = rw (e, span) at k in absurd (omega arith)

not_taken : (n : ℕ) (s : List ℕ) → length (span Allowed s) < n → n ≤ length s → all_allowed (take n s) ≡ false
unfolding span all_allowed
not_taken zero s h k = absurd (omega arith)
not_taken (suc n) [] h k = absurd (omega arith)
not_taken (suc n) (b ∷ s) h k = go (belongs Allowed b) refl h (not_taken n s)
  where
    go : (p : Bool) → belongs Allowed b ≡ p → length (span Allowed (b ∷ s)) < suc n → (length (span Allowed s) < n → n ≤ length s → all_allowed (take n s) ≡ false) → all_allowed (take (suc n) (b ∷ s)) ≡ false
    go true e m more = let l = rw (e, span) at m in rw (e, all_allowed) (more (omega arith) (omega arith))
    go false e m more = rw (e, all_allowed)

-- a run from a place within it, and the byte at which a run ends
run_from : (class : Class) (s : List ℕ) (at : ℕ) → at ≤ length (span class s) → at + length (span class (drop at s)) ≡ length (span class s)
unfolding span
run_from class s zero h = omega arith
run_from class [] (suc at) h = absurd (omega arith)
run_from class (b ∷ s) (suc at) h = go (belongs class b) refl h (run_from class s at)
  where
    go : (p : Bool) → belongs class b ≡ p → suc at ≤ length (span class (b ∷ s)) → (at ≤ length (span class s) → at + length (span class (drop at s)) ≡ length (span class s)) → suc at + length (span class (drop at s)) ≡ length (span class (b ∷ s))
    go true e k more = let l = rw (e, span) at k in rw (e, span) (omega (arith, more (omega arith)))
    go false e k more = let l = rw (e, span) at k in absurd (omega arith)

run_end : (class : Class) (s : List ℕ) → length (span class s) < length s → belongs class (get_or s (length (span class s)) 0) ≡ false
unfolding span
run_end class [] h = absurd (omega arith)
run_end class (b ∷ s) h = go (belongs class b) refl h (run_end class s)
  where
    go : (p : Bool) → belongs class b ≡ p → length (span class (b ∷ s)) < suc (length s) → (length (span class s) < length s → belongs class (get_or s (length (span class s)) 0) ≡ false) → belongs class (get_or (b ∷ s) (length (span class (b ∷ s))) 0) ≡ false
    go true e k more = let l = rw (e, span) at k in rw (e, span) (more (omega arith))
    go false e k more = rw (e, span) e

-- a line ends in the template's end or in a line end, which is allowed
a_line_end : (b : ℕ) → belongs InLine b ≡ false → belongs Allowed b ≡ true
unfolding belongs
a_line_end b e = rw (not-false (eqb b 10) e)

module _ (t : List ℕ) (at : ℕ) (before : at ≤ first_refused t) (inside : at < length t) where
  line_length : length (line_at t at) ≤ length (drop at t)
  line_length = length_span InLine (drop at t)

  -- the line at a place before the first byte that isn't allowed
  pub line_fine : at + length (line_at t at) ≤ first_refused t → all_allowed (line_at t at) ≡ true
  line_fine h =
      ap all_allowed (sym (take_span InLine (drop at t))) ∙ all_taken (length (line_at t at)) (drop at t) (omega (arith, run_from Allowed t at before))

  pub line_faulty : first_refused t < at + length (line_at t at) → all_allowed (line_at t at) ≡ false
  line_faulty h =
      ap all_allowed (sym (take_span InLine (drop at t))) ∙ not_taken (length (line_at t at)) (drop at t) (omega (arith, run_from Allowed t at before)) line_length

  -- the next line begins before it too
  pub next_before : at + length (line_at t at) ≤ first_refused t → next_line t at < length t → next_line t at ≤ first_refused t
  next_before h k = go (leb (next_line t at) (first_refused t)) refl
    where
      go : (p : Bool) → leb (next_line t at) (first_refused t) ≡ p → next_line t at ≤ first_refused t
      go true e = leb-true _ _ e
      go false e =
          let f : first_refused t ≡ at + length (line_at t at) = omega (arith, leb-false (next_line t at) (first_refused t) e) in
          let x : belongs Allowed (get_or t (at + length (line_at t at)) 0) ≡ false = ap (λ (i : ℕ). belongs Allowed (get_or t i 0)) (sym f) ∙ run_end Allowed t (omega arith) in
          let y : belongs InLine (get_or t (at + length (line_at t at)) 0) ≡ false = ap (belongs InLine) (sym (get_or-drop at t (length (line_at t at)) 0)) ∙ run_end InLine (drop at t) (omega (arith, length-drop at t)) in
          absurd (false≢true (sym x ∙ a_line_end _ y))

-- ---- check 2 of a line

pub long_line : (l : List ℕ) → 132 < length l → line_allowed l ≡ false
unfolding line_allowed
long_line l h = rw (lt-leb (length l) 132 h)

pub short_line : (l : List ℕ) (p : Bool) → length l ≤ 132 → all_allowed l ≡ p → line_allowed l ≡ p
unfolding line_allowed
short_line l p h e = rw (le-leb (length l) 132 h) e

pub too_long : (t : List ℕ) → 32768 < length t → bytes_check t ≡ Some 0
unfolding bytes_check
too_long t h = rw (lt-ltb 32768 (length t) h)

pub not_too_long : (t : List ℕ) → length t ≤ 32768 → bytes_check t ≡ first_fault line_allowed 1 (lines_of t)
unfolding bytes_check
not_too_long t h = rw (le-ltb 32768 (length t) h)

-- ---- the loop of check 2, at the line that starts at a place

module _ (t line : List ℕ) (at n refused : ℕ) {w : (Option ℕ)} (inv : first_fault line_allowed n (lines_of (drop at t)) ≡ w) (inside : at < length t) (e : line ≡ line_at t at) where
  pub found_long : 132 < length line → Some n ≡ w
  found_long h = fault_here line_allowed t at n inv inside (ap line_allowed (sym e) ∙ long_line line h)

  module _ (before : at ≤ first_refused t) (r : refused ≡ first_refused t) (short : length line ≤ 132) where
    pub found_refused : refused < at + length line → Some n ≡ w
    found_refused h =
        fault_here line_allowed t at n inv inside (short_line (line_at t at) false (omega (arith, ap length e)) (line_faulty t at before inside (omega (arith, ap length e))))

    pub next_line_law : at + length line ≤ refused → first_fault line_allowed (n + 1) (lines_of (drop (at + (length line + 1)) t)) ≡ w
    next_line_law h =
        let l : at + (length line + 1) ≡ next_line t at = omega (arith, ap length e) in
        rw l (fault_later line_allowed t at n inv inside (short_line (line_at t at) true (omega (arith, ap length e)) (line_fine t at before inside (omega (arith, ap length e)))))

    pub next_fine : at + length line ≤ refused → at + (length line + 1) < length t → at + (length line + 1) ≤ first_refused t
    next_fine h k =
        let l : at + (length line + 1) ≡ next_line t at = omega (arith, ap length e) in
        rw l (next_before t at before inside (omega (arith, ap length e)) (rw l at k))
