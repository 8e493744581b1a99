-- A section's name in the definitions is the name by the parsed form of its line; of the lines that check 3 lets through, no
-- other has a name.
use Rattle.std.specs.Prelude.{Some, None}
use mathlib.Core.Path.{◌≡◌, refl}
use mathlib.Core.Bool.{Bool, true, false, cond, false≢true}
use mathlib.Core.List.{List, []}
use Prim.Native.Nat.{ℕ}
use lib.ListN.{length}
use Rattle.scan.specs.Line.{window}
use Rattle.scan.specs.Words.{begins}
use Rattle.lines.specs.declared.command.Line.TheVariants.{Section}
use Rattle.lines.specs.Readers.Command.{parse_line}
use Rattle.lines.proofs.SectionLaws.{section_begins, begins_section}
use Rattle.template.specs.Name.{section_word, name_of}
use Rattle.template.specs.Shape.{shape_in, shape_of, has_form, is_formed}

-- A line with a form isn't parsed as a line without one.
pub formed : (l : List ℕ) → is_formed l ≡ true → parse_line l ≡ None → ⊥
unfolding is_formed shape_of shape_in has_form
formed l h k = false≢true (rw k at h)

section_formed : (l : List ℕ) (a e : ℕ) → parse_line l ≡ Some (Section a e) → is_formed l ≡ true
unfolding is_formed shape_of shape_in has_form
section_formed l a e k = rw k

-- The name reaches from behind `$SEC ` to the line's end, and its first eight characters are compared.
pub section_name : (l : List ℕ) (a e : ℕ) → parse_line l ≡ Some (Section a e) → (parse_line l ≡ Some (Section 5 (length l))) × (name_of l ≡ window l 5 8)
unfolding name_of
section_name l a e k =
    let b = section_begins l a e k in
    (begins_section l b (formed l (section_formed l a e k)), rw b)

pub no_name : (l : List ℕ) → is_formed l ≡ true → (parse_line l ≡ Some (Section 5 (length l)) → ⊥) → name_of l ≡ []
unfolding name_of
no_name l h n = go (begins section_word l) refl
  where
    go : (t : Bool) → begins section_word l ≡ t → cond t (window l 5 8) [] ≡ []
    go true e = absurd (n (begins_section l e (formed l h)))
    go false e = refl
