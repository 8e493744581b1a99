-- Which lines are sections: of the lines that have a form, just those that begin with `$SEC `, and then the rest of the
-- line is the name. Checks 5 and 6 find a section by these five bytes.
use Rattle.std.specs.Prelude.{None, Option, Some}
use mathlib.Core.Path.{◌≡◌, refl, sym, ap, ap₂, ◌∙◌, subst}
use mathlib.Core.Bool.{Bool, true, false, cond, false≢true}
use mathlib.Core.List.{List, [], ◌∷◌, ◌++◌}
use Prim.Native.Nat.{ℕ, zero, suc, ◌+◌, ◌<◌}
use native.Mathlib.Nat.{le_antisymm}
use native.Mathlib.Omega.{arith}
use borrow.Author.Tests.{eqb-true, eq-eqb, ltb-false}
use lib.Dec.{ltb, eqb}
use lib.ListN.{length, get_or, take, drop}
use Rattle.scan.specs.declared.run.Class.TheVariants.{InName}
use Rattle.scan.specs.Ascii.{ascii}
use Rattle.scan.specs.Run.{span}
use Rattle.scan.specs.Line.{byte_at, byte_is}
use Rattle.scan.specs.Words.{begins, stands_at, Spelled, first_of}
use Rattle.scan.proofs.RunLaws.{window_end, run_within}
use Rattle.scan.proofs.TestLaws.{picked}
use Rattle.texts.specs.Readers.Text.{text_fits}
use Rattle.lines.specs.declared.command.Operation.{Operation}
use Rattle.lines.specs.declared.command.Comparison.{Comparison}
use Rattle.lines.specs.declared.command.Line.{Line}
use Rattle.lines.specs.declared.command.Line.TheVariants.{Text, Section, Set, IfNot, If, Compare, Else, EndIf, BeginTable, EndTable, Records, Entries, Datasource, NoFormFeed, NewPage, Heading, NoHeading, Remark}
use Rattle.lines.specs.Readers.Behind.{behind_space}
use Rattle.lines.specs.Readers.Set.{set_at}
use Rattle.lines.specs.Readers.Compare.{compare_at}
use Rattle.lines.specs.Readers.Title.{name_length, name_at, section_at}
use Rattle.lines.specs.Readers.Command.{commands, parse_line}
use Rattle.lines.proofs.Makes.{set_makes, datasource_makes, compare_makes, single_makes, bare_makes, optional_makes, fetch_makes, heading_makes, remark_makes}

-- ---- the other forms

-- a type for a line without a form, one for a section, and one for every other form
abbrev pub form_case : Type 0 → Type 0 → Type 0 → Option Line → Type 0
form_case N S R None = N
form_case N S R (Some Text) = R
form_case N S R (Some (Section a e)) = S
form_case N S R (Some (Set o t a)) = R
form_case N S R (Some (IfNot a)) = R
form_case N S R (Some (If a)) = R
form_case N S R (Some (Compare c a b)) = R
form_case N S R (Some Else) = R
form_case N S R (Some EndIf) = R
form_case N S R (Some (BeginTable a)) = R
form_case N S R (Some (EndTable k)) = R
form_case N S R (Some (Records f)) = R
form_case N S R (Some (Entries f)) = R
form_case N S R (Some (Datasource i)) = R
form_case N S R (Some NoFormFeed) = R
form_case N S R (Some (NewPage n)) = R
form_case N S R (Some (Heading n at)) = R
form_case N S R (Some (NoHeading n)) = R
form_case N S R (Some Remark) = R

abbrev IsOther : Option Line → Type 0
IsOther = form_case (Unit {0}) ⊥ (Unit {0})

pub record Other (f : Option Line) : Type 0 where
  pub no : (a e : ℕ) → f ≡ Some (Section a e) → ⊥

other : {f : Option Line} → IsOther f → Other f
other o = record { no = λ a e q. subst IsOther q o }

lacking : Other None
lacking = other tt

-- ---- the word

-- a word with a space behind it
begins_space : (w t : List ℕ) → begins w t ≡ true → eqb (get_or t (length w) 0) 32 ≡ true → begins (w ++ (32 ∷ [])) t ≡ true
unfolding begins
begins_space [] [] b e = absurd (false≢true e)
begins_space [] (y ∷ r) b e = rw (eq-eqb 32 y (sym (eqb-true y 32 e)))
begins_space (a ∷ w) [] b e = absurd (false≢true b)
begins_space (a ∷ w) (y ∷ r) b e = go (eqb a y) b (begins_space w r)
  where
    go : (t : Bool) → cond t (begins w r) false ≡ true → (begins w r ≡ true → eqb (get_or r (length w) 0) 32 ≡ true → begins (w ++ (32 ∷ [])) r ≡ true) → cond t (begins (w ++ (32 ∷ [])) r) false ≡ true
    go true h rest = rest h e
    go false h rest = absurd (false≢true h)

begins_all : (l : List ℕ) → byte_is l 0 "$" ≡ true → stands_at (ascii "SEC") l 1 ≡ true → byte_is l 4 " " ≡ true → begins (ascii "$SEC ") l ≡ true
unfolding begins stands_at byte_at
begins_all [] d w e = absurd (false≢true d)
begins_all (c ∷ t) d w e = rw (eq-eqb 36 c (sym (eqb-true c 36 d))) (begins_space (ascii "SEC") t w e)

-- ---- the line

-- a choice that is a section is not the form that can't be one
unpicked : (t : Bool) {f g : Option Line} (a e : ℕ) → Other f → cond t f g ≡ Some (Section a e) → (t ≡ false) × (g ≡ Some (Section a e))
unpicked true a e o q = absurd (o.no a e q)
unpicked false a e o q = (refl, q)

-- commands that are never a section
infixr 5 ◌besides◌
data Never : List (Spelled (Option Line)) → Type 0 where
  all : Never []
  ◌besides◌ : {c : Spelled (Option Line)} {cs : List (Spelled (Option Line))} → ((l : List ℕ) (at : ℕ) → Other (c.form l at)) → Never cs → Never (c ∷ cs)

module _ (l : List ℕ) (a e : ℕ) where
  passed : (cs ds : List (Spelled (Option Line))) → Never cs → first_of None (cs ++ ds) l 1 ≡ Some (Section a e) → first_of None ds l 1 ≡ Some (Section a e)
  unfolding first_of
  passed [] ds n q = q
  passed (c ∷ cs) ds (o besides n) q =
      passed cs ds n (unpicked (stands_at c.word l 1) a e (o l (1 + length c.word)) q).1

  none : (cs : List (Spelled (Option Line))) → Never cs → first_of None cs l 1 ≡ Some (Section a e) → ⊥
  unfolding first_of
  none [] n q = (other {f = None} tt).no a e q
  none (c ∷ cs) (o besides n) q = none cs n (unpicked (stands_at c.word l 1) a e (o l (1 + length c.word)) q).1

before_section : Never (take 24 commands)
unfolding commands
before_section =
    datasource_makes Other lacking (λ i k. other tt)
    besides set _
    besides set _
    besides set _
    besides set _
    besides set _
    besides compare _
    besides compare _
    besides compare _
    besides compare _
    besides compare _
    besides compare _
    besides compare _
    besides compare _
    besides (λ l. single_makes Other lacking IfNot (λ a k. other tt))
    besides (λ l. single_makes Other lacking If (λ a k. other tt))
    besides (λ l. single_makes Other lacking BeginTable (λ a k. other tt))
    besides bare_makes Other lacking Else (other tt)
    besides bare_makes Other lacking EndIf (other tt)
    besides bare_makes Other lacking NoFormFeed (other tt)
    besides (λ l. optional_makes Other lacking EndTable (λ k h. other tt))
    besides (λ l. optional_makes Other lacking NewPage (λ k h. other tt))
    besides fetch_makes Other lacking Records (λ f h. other tt)
    besides fetch_makes Other lacking Entries (λ f h. other tt)
    besides all
  where
    set : (word : Operation) (l : List ℕ) (at : ℕ) → Other (set_at word l at)
    set word l = set_makes Other lacking word (λ t a k. other tt)

    compare : (word : Comparison) (l : List ℕ) (at : ℕ) → Other (compare_at word l at)
    compare word l = compare_makes Other lacking word (λ a b j k. other tt)

behind_section : Never (drop 25 commands)
unfolding commands
behind_section =
    (λ l. heading_makes Other lacking l (λ n at e h. other tt) (λ n k. other tt)) besides remark_makes Other lacking (other tt) besides all

-- where no space stands behind the word, no name does
space_behind : (l : List ℕ) (at a e : ℕ) → section_at l at ≡ Some (Section a e) → byte_is l at " " ≡ true
unfolding section_at behind_space name_at span
space_behind l at a e = go (byte_is l at " ")
  where
    go : (t : Bool) → name_at l (cond t (at + 1) (length l)) ≡ Some (Section a e) → t ≡ true
    go true q = refl
    go false q = absurd ((other {f = None} tt).no a e (rw (window_end l 16 (length l) (omega arith)) at q))

-- A section begins with `$SEC `.
pub section_begins : (l : List ℕ) (a e : ℕ) → parse_line l ≡ Some (Section a e) → begins (ascii "$SEC ") l ≡ true
unfolding parse_line first_of commands
section_begins l a e = go (byte_is l 0 "$") refl
  where
    word : (t : Bool) → stands_at (ascii "SEC") l 1 ≡ t → cond t (section_at l 4) (first_of None (drop 25 commands) l 1) ≡ Some (Section a e) → byte_is l 0 "$" ≡ true → begins (ascii "$SEC ") l ≡ true
    word true w f d = begins_all l d w (space_behind l 4 a e f)
    word false w f d = absurd (none l a e (drop 25 commands) behind_section f)

    go : (t : Bool) → byte_is l 0 "$" ≡ t → cond t (first_of None commands l 1) (cond (text_fits l 0) (Some Text) None) ≡ Some (Section a e) → begins (ascii "$SEC ") l ≡ true
    go true d f = word (stands_at (ascii "SEC") l 1) refl (passed l a e (take 24 commands) (drop 24 commands) before_section f) d
    go false d f = absurd ((picked Other (text_fits l 0) (other tt) (other tt)).no a e f)

-- A line that begins with a word is the word and what stands behind it.
pub begins_says : (w s : List ℕ) → begins w s ≡ true → s ≡ w ++ drop (length w) s
unfolding begins
begins_says [] s e = refl
begins_says (a ∷ w) [] e = absurd (false≢true e)
begins_says (a ∷ w) (b ∷ s) e = go (eqb a b) refl e (begins_says w s)
  where
    go : (t : Bool) → eqb a b ≡ t → cond t (begins w s) false ≡ true → (begins w s ≡ true → s ≡ w ++ drop (length w) s) → b ∷ s ≡ a ∷ (w ++ drop (length w) s)
    go true q h rest = ap₂ (λ (x : ℕ) (t : List ℕ). x ∷ t) (sym (eqb-true a b q)) (rest h)
    go false q h rest = absurd (false≢true h)

-- the words before SEC don't stand in such a line
named : (r : List ℕ) → parse_line (ascii "$SEC " ++ r) ≡ name_at (ascii "$SEC " ++ r) 5
unfolding parse_line first_of commands stands_at begins byte_at section_at behind_space
named r = refl

above_zero : (n : ℕ) → eqb n 0 ≡ false → 0 < n
above_zero zero e = absurd (false≢true (sym e))
above_zero (suc n) e = omega arith

name_whole : (l : List ℕ) → (name_at l 5 ≡ None → ⊥) → name_at l 5 ≡ Some (Section 5 (length l))
unfolding name_at
name_whole l f = go (eqb (name_length l 5) 0) refl (ltb (5 + name_length l 5) (length l)) refl f
  where
    go : (t : Bool) → eqb (name_length l 5) 0 ≡ t → (u : Bool) → ltb (5 + name_length l 5) (length l) ≡ u → (cond t None (cond u None (Some (Section 5 (5 + name_length l 5)))) ≡ None → ⊥) → cond t None (cond u None (Some (Section 5 (5 + name_length l 5)))) ≡ Some (Section 5 (length l))
    go true p u q f = absurd (f refl)
    go false p true q f = absurd (f refl)
    go false p false q f = ap (λ (e : ℕ). Some (Section 5 e)) (le_antisymm (run_within InName l 5 16 (above_zero _ p)) (ltb-false _ _ q))

-- A line that begins with `$SEC ` and has a form is a section, and all behind these five bytes is its name.
pub begins_section : (l : List ℕ) → begins (ascii "$SEC ") l ≡ true → (parse_line l ≡ None → ⊥) → parse_line l ≡ Some (Section 5 (length l))
begins_section l b f =
    let e : l ≡ ascii "$SEC " ++ drop 5 l = begins_says (ascii "$SEC ") l b in
    let p : parse_line l ≡ name_at l 5 = ap parse_line e ∙ named (drop 5 l) ∙ ap (λ (x : List ℕ). name_at x 5) (sym e) in
    p ∙ name_whole l (λ q. f (p ∙ q))
