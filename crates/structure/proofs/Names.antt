-- Checks 5 and 6 look at the front of a line; where check 3 accepts, that is the name in the line's form.
use Rattle.std.specs.Prelude.{Some, None, Option}
use mathlib.Core.Path.{◌≡◌, refl, sym, ap, ◌∙◌, subst}
use mathlib.Core.Bool.{Bool, true, false, not, cond, true≢false}
use mathlib.Core.List.{List, [], ◌∷◌, ◌++◌, append_assoc}
use Prim.Native.Nat.{ℕ, zero, suc, ◌+◌, ◌-◌, ◌≤◌, ◌<◌}
use native.Mathlib.Omega.{arith}
use borrow.Author.Tests.{eqb-false, ne_eqb, eq-eqb, leb-true, leb-false}
use lib.Dec.{eqb, leb}
use lib.ListN.{length, take, drop, length-append, length-drop, length-take}
use lib.Seq.{take_all, take-append_seam}
use Rattle.meaning.specs.Each.{Each}
use Rattle.scan.specs.Line.{line_at, next_line, window}
use Rattle.scan.specs.Words.{begins}
use Rattle.lines.specs.declared.command.Line.{Line}
use Rattle.lines.specs.declared.command.Line.TheVariants.{Text, Section, Set, IfNot, If, Compare, Else, EndIf, BeginTable, EndTable, Records, Entries, Datasource, NoFormFeed, NewPage, Heading, NoHeading, Remark}
use Rattle.lines.specs.Readers.Command.{parse_line}
use Rattle.lines.proofs.SectionLaws.{section_begins, begins_section}
use Rattle.template.specs.Name as name
use Rattle.template.specs.Name.{section_word, same_bytes}
use Rattle.template.specs.Lines.{lines_of}
use Rattle.template.specs.Shape.{is_formed}
use Rattle.template.specs.Verdicts.{first_fault}
use Rattle.template.specs.Walk.{or_else, walk}
use Rattle.template.specs.Checks.{form_check, has_name, came_before, name_step, name_end, name_check}
use Rattle.template.specs.Sections.{selects, section_from, section_end, selection_from, selected}
use Rattle.template.proofs.LineLaws.{lines_none, lines_more}
use Rattle.template.proofs.NameForm.{formed}
use Rattle.grammar.specs.Line.{Spells, section_form}
use Rattle.grammar.proofs.Lines.{reads_what_is_spelled}
use Rattle.structure.specs.Sections.{name_in, name_parsed, name_spelled, is_in, repeated_from, is_section, is_named, chooses, chosen_from, chosen_end, run_of, chosen_run}

-- ---- one line

-- no name by the form, and an empty front; or the same bytes, which are some
abbrev Agrees : Option (List ℕ) → List ℕ → Type 0
Agrees None x = x ≡ []
Agrees (Some n) x = (n ≡ x) × (0 < length x)

not_section : (l : List ℕ) (f : Line) → ((a e : ℕ) → f ≡ Section a e → ⊥) → name_in l f ≡ None
unfolding name_in
not_section l (Section a e) h = absurd (h a e refl)
not_section l Text h = refl
not_section l (Set o t a) h = refl
not_section l (IfNot a) h = refl
not_section l (If a) h = refl
not_section l (Compare c a b) h = refl
not_section l Else h = refl
not_section l EndIf h = refl
not_section l (BeginTable a) h = refl
not_section l (EndTable k) h = refl
not_section l (Records f) h = refl
not_section l (Entries f) h = refl
not_section l (Datasource i) h = refl
not_section l NoFormFeed h = refl
not_section l (NewPage n) h = refl
not_section l (Heading n at) h = refl
not_section l (NoHeading n) h = refl
not_section l Remark h = refl

section_long : (a e : ℕ) (l : List ℕ) → Spells (Section a e) l → 5 < length l
section_long a e l (section_form n w) = omega (arith, w.enough)

not_parsed : (l : List ℕ) (x : Option Line) → ((a e : ℕ) → x ≡ Some (Section a e) → ⊥) → name_parsed l x ≡ None
not_parsed l (Some f) h = not_section l f (λ a e q. h a e (ap (λ (g : Line). Some g) q))
not_parsed l None h = refl

named : (l : List ℕ) → parse_line l ≡ Some (Section 5 (length l)) → name_spelled l ≡ Some (window l 5 8)
unfolding name_in
named l p = ap (name_parsed l) p ∙ ap (λ (x : List ℕ). Some (take 8 x)) (take_all (length l - 5) (drop 5 l) (omega (arith, length-drop 5 l)))

name_agrees : (l : List ℕ) → is_formed l ≡ true → Agrees (name_spelled l) (name.name_of l)
unfolding name.name_of
name_agrees l h = go (begins section_word l) refl
  where
    go : (t : Bool) → begins section_word l ≡ t → Agrees (name_spelled l) (cond t (window l 5 8) [])
    go true b =
        let p : parse_line l ≡ Some (Section 5 (length l)) = begins_section l b (formed l h) in
        let g = section_long 5 (length l) l ((reads_what_is_spelled (Section 5 (length l)) l).0 p) in
        let n : name_spelled l ≡ Some (window l 5 8) = named l p in
        subst (λ (o : Option (List ℕ)). Agrees o (window l 5 8)) (sym n) (refl, omega (arith, length-take 8 (drop 5 l), length-drop 5 l))
    go false b = subst (λ (o : Option (List ℕ)). Agrees o []) (sym (not_parsed l (parse_line l) (λ a e q. true≢false (sym (section_begins l a e q) ∙ b)))) refl

-- no name is empty
same_empty : (x : List ℕ) → (length x ≡ 0 → ⊥) → same_bytes x [] ≡ false
same_empty x h = rw (ne_eqb (length x) 0 h)

-- ---- 6: any section, and this section

module _ (caller : List ℕ) where
  chooses_by : (o : Option (List ℕ)) (x : List ℕ) → Agrees o x → cond (eqb (length caller) 0) (is_section o) (is_named caller o) ≡ cond (eqb (length caller) 0) (not (eqb (length x) 0)) (same_bytes (take 8 caller) x)
  unfolding is_section is_named
  chooses_by None x e = go (eqb (length caller) 0) refl
    where
      go : (t : Bool) → eqb (length caller) 0 ≡ t → cond t false false ≡ cond t (not (eqb (length x) 0)) (same_bytes (take 8 caller) x)
      go true b = sym (ap not (eq-eqb (length x) 0 (ap length e)))
      go false b = sym (ap (same_bytes (take 8 caller)) e ∙ same_empty (take 8 caller) (λ z. eqb-false (length caller) 0 b (omega (arith, length-take 8 caller))))
  chooses_by (Some n) x e = rw (ne_eqb (length x) 0 (λ z. omega (arith, e.1)), e.0)

  -- a line with a form is chosen by its form just where it is by its front
  pub chooses_selects : (l : List ℕ) → is_formed l ≡ true → chooses caller l ≡ selects caller l
  unfolding chooses selects
  chooses_selects l h = chooses_by (name_spelled l) (name.name_of l) (name_agrees l h)

  chosen_by_form : (at n : ℕ) (ls : List (List ℕ)) → Each (λ l. is_formed l ≡ true) ls → chosen_from caller at n ls ≡ section_from caller at n ls
  unfolding chosen_from section_from
  chosen_by_form at n [] h = refl
  chosen_by_form at n (l ∷ ls) h = rw (chooses_selects l h.0, chosen_by_form (at + (length l + 1)) (suc n) ls h.1)

-- ---- where check 3 accepts, every line has a form

fine_each : (n : ℕ) (ls : List (List ℕ)) → first_fault is_formed n ls ≡ None → Each (λ l. is_formed l ≡ true) ls
unfolding first_fault
fine_each n [] e = tt
fine_each n (l ∷ ls) e = go (is_formed l) refl e (fine_each (suc n) ls)
  where
    go : (t : Bool) → is_formed l ≡ t → cond t (first_fault is_formed (suc n) ls) (Some n) ≡ None → (first_fault is_formed (suc n) ls ≡ None → Each (λ x. is_formed x ≡ true) ls) → Each (λ x. is_formed x ≡ true) (l ∷ ls)
    go true b q more = (b, more q)
    go false b q more = let z : ◌≡◌ {A = ℕ} 0 1 = cc in absurd (omega arith)

-- Where check 3 accepts, the section that is selected is the first whose form has the caller's name, or any for an empty name.
pub section_by_form : (caller t : List ℕ) → form_check t ≡ None → section_from caller 0 0 (lines_of t) ≡ chosen_from caller 0 0 (lines_of t)
unfolding form_check
section_by_form caller t e = sym (chosen_by_form caller 0 0 (lines_of t) (fine_each 1 (lines_of t) e))

-- ---- where a run ends

-- the lines behind the one that is found have forms too
abbrev FormedBehind : List ℕ → Option (ℕ × ℕ) → Type 0
FormedBehind t (Some (at, n)) = Each (λ l. is_formed l ≡ true) (lines_of (drop (next_line t at) t))
FormedBehind t None = Unit {0}

formed_behind : (t caller : List ℕ) (f at n : ℕ) → length t ≤ at + f → Each (λ l. is_formed l ≡ true) (lines_of (drop at t)) → FormedBehind t (section_from caller at n (lines_of (drop at t)))
unfolding section_from
formed_behind t caller zero at n h e = rw (lines_none t at (omega arith)) tt
formed_behind t caller (suc f) at n h e = go (leb (length t) at) refl (formed_behind t caller f (next_line t at) (suc n) (omega arith))
  where
    by : (b : Bool) (g : Option (ℕ × ℕ)) → Each (λ l. is_formed l ≡ true) (lines_of (drop (next_line t at) t)) → FormedBehind t g → FormedBehind t (cond b (Some (at, suc n)) g)
    by true g x y = x
    by false g x y = y

    go : (b : Bool) → leb (length t) at ≡ b → (Each (λ l. is_formed l ≡ true) (lines_of (drop (next_line t at) t)) → FormedBehind t (section_from caller (next_line t at) (suc n) (lines_of (drop (next_line t at) t)))) → FormedBehind t (section_from caller at n (lines_of (drop at t)))
    go true b more = rw (lines_none t at (leb-true (length t) at b)) tt
    go false b more =
        let k : at < length t = leb-false (length t) at b in
        let x : Each (λ l. is_formed l ≡ true) (line_at t at ∷ lines_of (drop (next_line t at) t)) = rw (lines_more t at k) at e in
        let l : at + (length (line_at t at) + 1) ≡ next_line t at = omega arith in
        rw (lines_more t at k, l) (by (selects caller (line_at t at)) (section_from caller (next_line t at) (suc n) (lines_of (drop (next_line t at) t))) x.1 (more x.1))

end_by_form : (caller t : List ℕ) (g : Option (ℕ × ℕ)) → FormedBehind t g → selection_from t caller g ≡ run_of t caller g
unfolding selection_from run_of section_end chosen_end
end_by_form caller t (Some (at, n)) h = rw (chosen_by_form [] (next_line t at) n (lines_of (drop (next_line t at) t)) h)
end_by_form caller t None h = refl

-- Where check 3 accepts, a run goes from the line chosen by its form to the line before the next whose form is a section's.
pub run_by_form : (caller t : List ℕ) → form_check t ≡ None → selected t caller ≡ chosen_run t caller
unfolding form_check selected chosen_run
run_by_form caller t e =
    let h = fine_each 1 (lines_of t) e in
    end_by_form caller t (section_from caller 0 0 (lines_of t)) (formed_behind t caller (length t) 0 0 (omega arith) h)
    ∙ ap (run_of t caller) (sym (chosen_by_form caller 0 0 (lines_of t) h))

-- ---- 5: the names seen so far

has_append : (x : List ℕ) (ps : List (List ℕ)) (l : List ℕ) → has_name x (ps ++ (l ∷ [])) ≡ cond (same_bytes x (name.name_of l)) true (has_name x ps)
unfolding has_name
has_append x [] l = refl
has_append x (p ∷ ps) l = go (same_bytes x (name.name_of p)) (same_bytes x (name.name_of l)) (has_append x ps l)
  where
    go : (s t : Bool) → has_name x (ps ++ (l ∷ [])) ≡ cond t true (has_name x ps) → cond s true (has_name x (ps ++ (l ∷ []))) ≡ cond t true (cond s true (has_name x ps))
    go true true e = refl
    go true false e = refl
    go false t e = e

-- the names seen are those of the lines before
Seen : List (List ℕ) → List (List ℕ) → Type 0
Seen seen ps = (x : List ℕ) → (length x ≡ 0 → ⊥) → is_in x seen ≡ has_name x ps

module _ (t : List ℕ) where
  names_walk : (ls ps seen : List (List ℕ)) (s n : ℕ) → ps ++ ls ≡ lines_of t → s ≡ length ps → n ≡ length ps → Seen seen ps → Each (λ l. is_formed l ≡ true) ls → walk (name_step t) name_end s n ls ≡ repeated_from (suc n) seen ls
  unfolding walk name_end name_step repeated_from or_else came_before Seen is_in
  names_walk [] ps seen s n e h k v f = refl
  names_walk (l ∷ ls) ps seen s n e h k v f =
      by (name_spelled l) (name.name_of l) refl refl (name_agrees l f.0)
      (λ seen w. names_walk ls (ps ++ (l ∷ [])) seen (s + 1) (suc n) (append_assoc ps (l ∷ []) ls ∙ e) (omega (arith, length-append ps (l ∷ []))) (omega (arith, length-append ps (l ∷ []))) w f.1)
    where
      before : take s (lines_of t) ≡ ps
      before = ap (take s) (sym e) ∙ ap (λ (i : ℕ). take i (ps ++ (l ∷ ls))) h ∙ take-append_seam ps (l ∷ ls)

      by : (o : Option (List ℕ)) (x : List ℕ) → name_spelled l ≡ o → name.name_of l ≡ x → Agrees o x → ((seen' : List (List ℕ)) → ((y : List ℕ) → (length y ≡ 0 → ⊥) → is_in y seen' ≡ has_name y (ps ++ (l ∷ []))) → walk (name_step t) name_end (s + 1) (suc n) ls ≡ repeated_from (suc (suc n)) seen' ls) → or_else (cond (cond (eqb (length (name.name_of l)) 0) false (has_name (name.name_of l) (take s (lines_of t)))) None (Some (s + 1))) (λ s'. walk (name_step t) name_end s' (suc n) ls) (Some (suc n)) ≡ elim (name_spelled l) [ None ↦ repeated_from (suc (suc n)) seen ls | Some y ↦ cond (is_in y seen) (Some (suc n)) (repeated_from (suc (suc n)) (y ∷ seen) ls) ]
      by None x p q a more =
          rw (p, q, a) (more seen (λ y z. v y z ∙ sym (has_append y ps l ∙ ap (λ (b : Bool). cond b true (has_name y ps)) (ap (same_bytes y) (q ∙ a) ∙ same_empty y z))))
      by (Some y) x p q a more =
          let some_bytes : length x ≡ 0 → ⊥ = λ z. omega (arith, a.1) in
          rw (p, q, ne_eqb (length x) 0 some_bytes, before, a.0) (go (is_in x seen) refl)
        where
          go : (b : Bool) → is_in x seen ≡ b → or_else (cond (has_name x ps) None (Some (s + 1))) (λ s'. walk (name_step t) name_end s' (suc n) ls) (Some (suc n)) ≡ cond (is_in x seen) (Some (suc n)) (repeated_from (suc (suc n)) (x ∷ seen) ls)
          go true c = rw (sym (v x (λ z. omega (arith, a.1))) ∙ c, c)
          go false c =
              rw (sym (v x (λ z. omega (arith, a.1))) ∙ c, c)
              (more (x ∷ seen) (λ w z. ap (cond (same_bytes w x) true) (v w z) ∙ sym (has_append w ps l ∙ ap (λ (u : List ℕ). cond (same_bytes w u) true (has_name w ps)) q)))

-- Where check 3 accepts, check 5 names the first section whose name, by its form, was seen before.
pub names_by_form : (t : List ℕ) → form_check t ≡ None → name_check t ≡ repeated_from 1 [] (lines_of t)
unfolding form_check name_check is_in has_name Seen
names_by_form t e = names_walk t (lines_of t) [] [] 0 0 refl refl refl (λ x h. refl) (fine_each 1 (lines_of t) e)
