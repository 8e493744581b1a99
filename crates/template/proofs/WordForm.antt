-- What a line is by its word alone is what it is by its form, where it has one.
use Rattle.std.specs.Prelude.{Option, Some, None}
use mathlib.Core.Path.{◌≡◌, refl, sym, ap, ◌∙◌}
use mathlib.Core.Bool.{Bool, true, false, cond}
use mathlib.Core.List.{List, [], ◌∷◌, ◌++◌}
use Prim.Native.Nat.{ℕ, ◌+◌}
use lib.ListN.{length, drop}
use Rattle.scan.specs.Line.{byte_at, byte_is}
use Rattle.scan.specs.Words.{begins, stands_at, Spelled, first_of}
use Rattle.texts.specs.Readers.Text.{text_fits}
use Rattle.lines.specs.declared.command.Line.{Line}
use Rattle.lines.specs.declared.command.Line.TheVariants as form
use Rattle.lines.specs.Readers.Command.{commands, parse_line}
use Rattle.lines.proofs.Makes.{set_makes, datasource_makes, compare_makes, single_makes, bare_makes, optional_makes, fetch_makes, section_makes, heading_makes, remark_makes}
use Rattle.lines.proofs.SectionLaws.{begins_says}
use Rattle.nesting.specs.declared.Shape.{Shape}
use Rattle.nesting.specs.declared.Shape.TheVariants.{Section, Remark, Test, Else, EndTest, Table, EndTable, Plain}
use Rattle.template.specs.Shape.{shape_in, shape_of, is_formed, shape_words, word_shape}
use Rattle.template.proofs.NameForm.{formed}

-- ---- what a command's word tells

-- a form of a shape, or none
record Is (x : Shape) (f : Option Line) : Type 0 where
  says : (f ≡ None → ⊥) → shape_in f ≡ x

lacking : (x : Shape) → Is x None
lacking x = record { says = λ h. absurd (h refl) }

is : {x : Shape} {f : Option Line} → shape_in f ≡ x → Is x f
is e = record { says = λ h. e }

-- commands whose words tell what they make
infixr 5 ◌besides◌
record Tells (c : Spelled (Option Line)) : Type 0 where
  shape : Shape
  makes : (l : List ℕ) (at : ℕ) → Is shape (c.form l at)
  word : (b : ℕ) (r : List ℕ) → first_of Plain shape_words (b ∷ (c.word ++ r)) 1 ≡ shape

data Telling : List (Spelled (Option Line)) → Type 0 where
  all : Telling []
  ◌besides◌ : {c : Spelled (Option Line)} {cs : List (Spelled (Option Line))} → Tells c → Telling cs → Telling (c ∷ cs)

told : (cs : List (Spelled (Option Line))) → Telling cs → (b : ℕ) (l : List ℕ) → (first_of None cs (b ∷ l) 1 ≡ None → ⊥) → first_of Plain shape_words (b ∷ l) 1 ≡ shape_in (first_of None cs (b ∷ l) 1)
unfolding first_of stands_at
told [] t b l f = absurd (f refl)
told (c ∷ cs) (i besides t) b l f = go (stands_at c.word (b ∷ l) 1) refl f (told cs t b l)
  where
    go : (p : Bool) → stands_at c.word (b ∷ l) 1 ≡ p → (cond p (c.form (b ∷ l) (1 + length c.word)) (first_of None cs (b ∷ l) 1) ≡ None → ⊥) → ((first_of None cs (b ∷ l) 1 ≡ None → ⊥) → first_of Plain shape_words (b ∷ l) 1 ≡ shape_in (first_of None cs (b ∷ l) 1)) → first_of Plain shape_words (b ∷ l) 1 ≡ shape_in (cond p (c.form (b ∷ l) (1 + length c.word)) (first_of None cs (b ∷ l) 1))
    go true e h more =
        let r = drop (length c.word) l in
        let x : l ≡ c.word ++ r = begins_says c.word l e in
        ap (λ (s : List ℕ). first_of Plain shape_words (b ∷ s) 1) x ∙ i.word b r ∙ sym ((i.makes (b ∷ l) (1 + length c.word)).says h)
    go false e h more = more h

tells : {c : Spelled (Option Line)} (x : Shape) → ((l : List ℕ) (at : ℕ) → Is x (c.form l at)) → ((b : ℕ) (r : List ℕ) → first_of Plain shape_words (b ∷ (c.word ++ r)) 1 ≡ x) → Tells c
tells x m w = record { shape = x; makes = m; word = w }

all_tell : Telling commands
unfolding commands shape_in first_of shape_words stands_at begins
all_tell =
    tells Plain (datasource_makes (Is Plain) (lacking Plain) (λ i k. is refl)) (λ b r. refl)
    besides tells Plain (λ l. set_makes (Is Plain) (lacking Plain) _ (λ t a k. is refl)) (λ b r. refl)
    besides tells Plain (λ l. set_makes (Is Plain) (lacking Plain) _ (λ t a k. is refl)) (λ b r. refl)
    besides tells Plain (λ l. set_makes (Is Plain) (lacking Plain) _ (λ t a k. is refl)) (λ b r. refl)
    besides tells Plain (λ l. set_makes (Is Plain) (lacking Plain) _ (λ t a k. is refl)) (λ b r. refl)
    besides tells Plain (λ l. set_makes (Is Plain) (lacking Plain) _ (λ t a k. is refl)) (λ b r. refl)
    besides tells Test (λ l. compare_makes (Is Test) (lacking Test) _ (λ a d j k. is refl)) (λ b r. refl)
    besides tells Test (λ l. compare_makes (Is Test) (lacking Test) _ (λ a d j k. is refl)) (λ b r. refl)
    besides tells Test (λ l. compare_makes (Is Test) (lacking Test) _ (λ a d j k. is refl)) (λ b r. refl)
    besides tells Test (λ l. compare_makes (Is Test) (lacking Test) _ (λ a d j k. is refl)) (λ b r. refl)
    besides tells Test (λ l. compare_makes (Is Test) (lacking Test) _ (λ a d j k. is refl)) (λ b r. refl)
    besides tells Test (λ l. compare_makes (Is Test) (lacking Test) _ (λ a d j k. is refl)) (λ b r. refl)
    besides tells Test (λ l. compare_makes (Is Test) (lacking Test) _ (λ a d j k. is refl)) (λ b r. refl)
    besides tells Test (λ l. compare_makes (Is Test) (lacking Test) _ (λ a d j k. is refl)) (λ b r. refl)
    besides tells Test (λ l. single_makes (Is Test) (lacking Test) _ (λ a k. is refl)) (λ b r. refl)
    besides tells Test (λ l. single_makes (Is Test) (lacking Test) _ (λ a k. is refl)) (λ b r. refl)
    besides tells Table (λ l. single_makes (Is Table) (lacking Table) _ (λ a k. is refl)) (λ b r. refl)
    besides tells Else (bare_makes (Is Else) (lacking Else) _ (is refl)) (λ b r. refl)
    besides tells EndTest (bare_makes (Is EndTest) (lacking EndTest) _ (is refl)) (λ b r. refl)
    besides tells Plain (bare_makes (Is Plain) (lacking Plain) _ (is refl)) (λ b r. refl)
    besides tells EndTable (λ l. optional_makes (Is EndTable) (lacking EndTable) _ (λ k h. is refl)) (λ b r. refl)
    besides tells Plain (λ l. optional_makes (Is Plain) (lacking Plain) _ (λ k h. is refl)) (λ b r. refl)
    besides tells Plain (fetch_makes (Is Plain) (lacking Plain) _ (λ f h. is refl)) (λ b r. refl)
    besides tells Plain (fetch_makes (Is Plain) (lacking Plain) _ (λ f h. is refl)) (λ b r. refl)
    besides tells Section (section_makes (Is Section) (lacking Section) (λ a e. is refl)) (λ b r. refl)
    besides tells Plain (λ l. heading_makes (Is Plain) (lacking Plain) l (λ n at e h. is refl) (λ n k. is refl)) (λ b r. refl)
    besides tells Remark (remark_makes (Is Remark) (lacking Remark) (is refl)) (λ b r. refl)
    besides all

-- ---- the line

text_plain : (p : Bool) → (cond p (Some form.Text) None ≡ None → ⊥) → Plain ≡ shape_in (cond p (Some form.Text) None)
unfolding shape_in
text_plain true f = refl
text_plain false f = absurd (f refl)

by_word : (l : List ℕ) → (parse_line l ≡ None → ⊥) → word_shape l ≡ shape_in (parse_line l)
unfolding parse_line word_shape byte_at
by_word [] f = text_plain (text_fits [] 0) f
by_word (b ∷ l) f = go (byte_is (b ∷ l) 0 "$") f
  where
    go : (p : Bool) → (cond p (first_of None commands (b ∷ l) 1) (cond (text_fits (b ∷ l) 0) (Some form.Text) None) ≡ None → ⊥) → cond p (first_of Plain shape_words (b ∷ l) 1) Plain ≡ shape_in (cond p (first_of None commands (b ∷ l) 1) (cond (text_fits (b ∷ l) 0) (Some form.Text) None))
    go true h = told commands all_tell b l h
    go false h = text_plain (text_fits (b ∷ l) 0) h

-- A line with a form is by its word what it is by its form.
pub shape_by_word : (l : List ℕ) → is_formed l ≡ true → word_shape l ≡ shape_of l
unfolding shape_of
shape_by_word l h = by_word l (formed l h)
