-- What is known of an accepted template and its run, and of why a template is refused.
use Rattle.std.specs.Prelude.{Option, Some, None, Result, Ok, Err}
use mathlib.Core.Path.{◌≡◌, refl, sym, ◌∙◌, subst}
use mathlib.Core.Bool.{Bool, true, false, cond, not, ◌&&◌, false≢true}
use mathlib.Core.List.{List, [], ◌∷◌}
use mathlib.Core.Logic.{◌⊎◌, inl, inr}
use Prim.Native.Nat.{ℕ, zero, suc, ◌+◌, ◌<◌, ◌≤◌}
use native.Mathlib.Omega.{arith}
use borrow.Author.Tests.{leb-true, leb-false, ne_eqb}
use lib.Dec.{leb, eqb}
use lib.ListN.{length, drop, length-take}
use Rattle.scan.specs.Line.{line_at, next_line, window}
use Rattle.scan.specs.Words.{begins}
use Rattle.lines.proofs.SectionLaws.{begins_section}
use Rattle.lines.specs.Readers.Command.{parse_line}
use Rattle.meaning.specs.declared.refusal.Refusal.{Refusal}
use Rattle.meaning.specs.declared.refusal.Refusal.TheVariants.{BadTemplate, BadLine, BadNesting, RepeatedSection}
use Rattle.meaning.specs.Number.{refusal_number}
use Rattle.template.specs.Name.{section_word, name_of}
use Rattle.nesting.specs.declared.Shape.TheVariants.{Section}
use Rattle.nesting.specs.Nest.{Mark, tables_open}
use Rattle.template.specs.declared.Extent.{Extent}
use Rattle.template.specs.Lines.{lines_of}
use Rattle.template.specs.Verdicts.{bytes_check}
use Rattle.template.specs.Shape.{shape_in, shape_of, is_formed}
use Rattle.template.specs.Checks.{form_check, nest_check, name_check}
use Rattle.template.specs.Sections.{selects, section_from, end_at, section_end, selection_from, selected}
use Rattle.template.specs.Order.{unless_fault, accepted_run, section_checked, names_checked, nesting_checked, forms_checked, template_checked}
use Rattle.template.specs.Opening.{OpenBefore, at_first, Checks}
use Rattle.template.proofs.LineLaws.{lines_none, lines_more}
use Rattle.template.proofs.NameForm.{formed}
use Rattle.template.proofs.Opening.{checks_short, opens_line, opens_next, behind_section, line_before}

-- ---- a line that a name selects is a section

none_selected : (name : List ℕ) → cond (eqb (length name) 0) (not (eqb 0 0)) (eqb (length (window name 0 8)) 0 && begins (window name 0 8) []) ≡ false
none_selected [] = refl
none_selected (b ∷ name) =
    rw (ne_eqb (suc (length name)) 0 (λ e. omega arith), ne_eqb (length (window (b ∷ name) 0 8)) 0 (λ e. omega (arith, length-take 8 (b ∷ name))))

-- A line with a form that a name selects is a section.
pub selected_section : (name l : List ℕ) → selects name l ≡ true → is_formed l ≡ true → shape_of l ≡ Section
unfolding selects name_of shape_of shape_in
selected_section name l h f = go (begins section_word l) refl
  where
    go : (b : Bool) → begins section_word l ≡ b → shape_in (parse_line l) ≡ Section
    go true e = rw (begins_section l e (formed l f))
    go false e = absurd (false≢true (sym (none_selected name) ∙ rw e at h))

-- ---- the line that was found

-- a section line that starts at a, the k-th line, and what is open before it
pub record SectionLine (t : List ℕ) (a k : ℕ) : Type 0 where
  pub number : ℕ
  pub marks : List Mark
  pub opens : OpenBefore t a number marks
  pub line : k ≡ suc number
  pub inside : a < length t
  pub shape : shape_of (line_at t a) ≡ Section
  pub no_table : tables_open marks ≡ 0

section_line : {t : List ℕ} {at n : ℕ} {M : List Mark} → Checks t → OpenBefore t at n M → at < length t → (name : List ℕ) → selects name (line_at t at) ≡ true → SectionLine t at (suc n)
section_line {t} {at} {n} {M} c o h name e =
    let s = selected_section name (line_at t at) e (opens_line c o h).formed in
    record { number = n; marks = M; opens = o; line = refl; inside = h; shape = s; no_table = (behind_section c o h s).1 }

-- where a search for a section ends
Ends : List ℕ → ℕ → Option (ℕ × ℕ) → Type 0
Ends t at (Some (a, k)) = SectionLine t a k × (at ≤ a)
Ends t at None = Unit

further : (t : List ℕ) (at to : ℕ) (f : Option (ℕ × ℕ)) → at ≤ to → Ends t to f → Ends t at f
unfolding Ends
further t at to (Some (a, k)) h e = (e.0, omega (arith, e.1))
further t at to None h e = tt

-- at a line, with what is found behind it
found_from : {t : List ℕ} {at n : ℕ} {M : List Mark} → Checks t → OpenBefore t at n M → at < length t → (name : List ℕ) → Ends t (next_line t at) (section_from name (next_line t at) (suc n) (lines_of (drop (next_line t at) t))) → Ends t at (section_from name at n (lines_of (drop at t)))
unfolding section_from Ends
found_from {t} {at} {n} c o h name i =
    let l : at + (length (line_at t at) + 1) ≡ next_line t at = omega arith in
    rw (lines_more t at h, l) (by (selects name (line_at t at)) refl (section_from name (next_line t at) (suc n) (lines_of (drop (next_line t at) t))) i)
  where
    by : (b : Bool) → selects name (line_at t at) ≡ b → (f : Option (ℕ × ℕ)) → Ends t (next_line t at) f → Ends t at (cond b (Some (at, suc n)) f)
    by true e f k = (section_line c o h name e, omega arith)
    by false e f k = further t at (next_line t at) f (omega arith) k

section_found : {t : List ℕ} → Checks t → (name : List ℕ) (f : ℕ) {at n : ℕ} {M : List Mark} → length t ≤ at + f → OpenBefore t at n M → Ends t at (section_from name at n (lines_of (drop at t)))
unfolding section_from Ends
section_found {t} c name zero {at} {n} l o = rw (lines_none t at (omega arith)) tt
section_found {t} c name (suc f) {at} {n} l o = by (leb (length t) at) refl (λ h. section_found c name f (omega arith) (opens_next c o h))
  where
    by : (b : Bool) → leb (length t) at ≡ b → (at < length t → Ends t (next_line t at) (section_from name (next_line t at) (suc n) (lines_of (drop (next_line t at) t)))) → Ends t at (section_from name at n (lines_of (drop at t)))
    by true e more = rw (lines_none t at (leb-true (length t) at e)) tt
    by false e more =
        let h : at < length t = omega (arith, leb-false (length t) at e) in
        found_from c o h name (more h)

-- ---- the run

-- a run ends at the template's end, or at a section behind its first line
pub data RunEnd (t : List ℕ) (start : ℕ) : ℕ → Type 0 where
  at_end : RunEnd t start (length t)
  at_section : {e k : ℕ} → SectionLine t e k → next_line t start ≤ e → RunEnd t start e

run_end : {t : List ℕ} → Checks t → (name : List ℕ) (a k : ℕ) → SectionLine t a k → RunEnd t a (section_end t name a k)
unfolding section_end end_at Ends
run_end {t} c name a k s = by (eqb (length name) 0) (section_from [] (next_line t a) k (lines_of (drop (next_line t a) t))) found
  where
    found : Ends t (next_line t a) (section_from [] (next_line t a) k (lines_of (drop (next_line t a) t)))
    found = rw s.line (section_found c [] (length t) (omega arith) (opens_next c s.opens s.inside))

    by : (b : Bool) (f : Option (ℕ × ℕ)) → Ends t (next_line t a) f → RunEnd t a (cond b (length t) (end_at t f))
    by true f i = at_end
    by false (Some (e, m)) i = at_section i.0 i.1
    by false None i = at_end

-- ---- an accepted template

-- The run of a template that is accepted: its first line is a section, with no table open, and it ends in the template.
pub record Runs (t : List ℕ) (r : Extent) : Type 0 where
  pub checks : Checks t
  pub short : length t ≤ 32768
  pub start : SectionLine t r.start r.line
  pub end : RunEnd t r.start r.until
  pub some_line : r.start < r.until
  pub inside : r.until ≤ length t

end_inside : {t : List ℕ} {a e : ℕ} → RunEnd t a e → a < length t → (a < e) × (e ≤ length t)
end_inside at_end h = (h, omega arith)
end_inside (at_section s l) h = (omega arith, omega (arith, s.inside))

-- A line of a run ends in it, or the run ends with the template.
pub line_within : {t : List ℕ} {at n a e : ℕ} {M : List Mark} → OpenBefore t at n M → RunEnd t a e → at < e → (next_line t at ≤ e) ⊎ (e ≡ length t)
line_within o at_end h = inr refl
line_within o (at_section s l) h = inl (line_before o s.opens h)

unless : (e : Refusal) (v : Option ℕ) (next : Result Extent (Refusal × ℕ)) (r : Extent) → unless_fault e v next ≡ Ok r → (v ≡ None) × (next ≡ Ok r)
unfolding unless_fault
unless e None next r h = (refl, h)
unless e (Some l) next r h = absurd (let z : ◌≡◌ {A = ℕ} 0 1 = cc in omega arith)

run_found : {t : List ℕ} → Checks t → (name : List ℕ) (f : Option (ℕ × ℕ)) (r : Extent) → Ends t 0 f → accepted_run (selection_from t name f) ≡ Ok r → Runs t r
unfolding selection_from accepted_run Ends
run_found {t} c name (Some (a, k)) r (s, h) e =
    let x : record { start = a; line = k; until = section_end t name a k } ≡ r = cc in
    let w = run_end c name a k s in
    let i = end_inside w s.inside in
    subst (Runs t) x (record { checks = c; short = checks_short c; start = s; end = w; some_line = i.0; inside = i.1 })
run_found c name None r h e = absurd (let z : ◌≡◌ {A = ℕ} 0 1 = cc in omega arith)

-- What is known of an accepted template.
pub accepted_runs : (t name : List ℕ) (r : Extent) → template_checked t name ≡ Ok r → Runs t r
unfolding template_checked forms_checked nesting_checked names_checked section_checked selected
accepted_runs t name r h =
    let a = unless BadTemplate (bytes_check t) (forms_checked t name) r h in
    let b = unless BadLine (form_check t) (nesting_checked t name) r a.1 in
    let c = unless BadNesting (nest_check t) (names_checked t name) r b.1 in
    let d = unless RepeatedSection (name_check t) (section_checked t name) r c.1 in
    let k : Checks t = record { bytes = a.0; forms = b.0; nesting = c.0 } in
    run_found k name (section_from name 0 0 (lines_of t)) r (section_found k name (length t) (omega arith) at_first) d.1

-- ---- a refused template

-- "A report ending in 1–6": a refusal by the checks of a template is 2 to 6
abbrev pub Early : Result Extent (Refusal × ℕ) → Type 0
Early (Ok r) = Unit {0}
Early (Err (e, l)) = (2 ≤ refusal_number e) × (refusal_number e ≤ 6)

unless_early : (e : Refusal) (v : Option ℕ) (next : Result Extent (Refusal × ℕ)) → (2 ≤ refusal_number e) × (refusal_number e ≤ 6) → Early next → Early (unless_fault e v next)
unfolding unless_fault
unless_early e None next h k = k
unless_early e (Some l) next h k = h

section_early : (s : Option Extent) → Early (accepted_run s)
unfolding accepted_run
section_early (Some r) = tt
section_early None = (omega arith, omega arith)

-- A refused template's number is 2 to 6.
pub refused_early : (t name : List ℕ) → Early (template_checked t name)
unfolding template_checked forms_checked nesting_checked names_checked section_checked
refused_early t name =
    unless_early BadTemplate (bytes_check t) (forms_checked t name) (omega arith, omega arith)
    (unless_early BadLine (form_check t) (nesting_checked t name) (omega arith, omega arith)
    (unless_early BadNesting (nest_check t) (names_checked t name) (omega arith, omega arith)
    (unless_early RepeatedSection (name_check t) (section_checked t name) (omega arith, omega arith) (section_early (selected t name)))))
