-- A line with a form is what `form_of` takes it for, though no text is judged.
use Rattle.std.specs.Prelude.{Option, Some, None}
use mathlib.Core.Path.{◌≡◌, refl, ap₂, ◌∙◌}
use mathlib.Core.Bool.{Bool, true, false, cond, false≢true}
use mathlib.Core.List.{List, [], ◌∷◌, ◌++◌}
use Prim.Native.Nat.{ℕ, ◌+◌}
use borrow.Author.Tests.{eqb-true}
use lib.Dec.{leb}
use lib.ListN.{length, drop}
use Rattle.scan.specs.Ascii.{ascii}
use Rattle.scan.specs.Line.{byte_at, byte_is}
use Rattle.scan.specs.Readers.Digits.{number_at}
use Rattle.scan.specs.Words.{begins, stands_at, first_of}
use Rattle.texts.specs.Readers.Text.{text_fits}
use Rattle.lines.specs.declared.command.Line.{Line}
use Rattle.lines.specs.declared.command.Line.TheVariants.{Text, Heading, NoHeading}
use Rattle.lines.specs.Readers.Reading.{numeral_or}
use Rattle.lines.specs.Readers.Title.{heading_of, heading_at}
use Rattle.lines.specs.Readers.Command.{commands, parse_line}
use Rattle.lines.specs.Inner.Known.{known_of, known_heading, form_of}

-- what has a form wasn't tested for nothing
kept : (t : Bool) (f : Line) → (cond t (Some f) None ≡ None → ⊥) → Some f ≡ cond t (Some f) None
kept true f h = refl
kept false f h = absurd (h refl)

known_of_law : (l : List ℕ) (at n : ℕ) → (heading_of l at n ≡ None → ⊥) → Some (known_of l at n) ≡ heading_of l at n
unfolding known_of heading_of
known_of_law l at n = go (leb (length l) at)
  where
    text : (b t : Bool) → (cond b (cond t (Some (Heading n (at + 1))) None) None ≡ None → ⊥) → Some (Heading n (at + 1)) ≡ cond b (cond t (Some (Heading n (at + 1))) None) None
    text true t h = kept t (Heading n (at + 1)) h
    text false t h = absurd (h refl)

    go : (e : Bool) → (cond e (Some (NoHeading n)) (cond (byte_is l at " ") (cond (text_fits l (at + 1)) (Some (Heading n (at + 1))) None) None) ≡ None → ⊥) → Some (cond e (NoHeading n) (Heading n (at + 1))) ≡ cond e (Some (NoHeading n)) (cond (byte_is l at " ") (cond (text_fits l (at + 1)) (Some (Heading n (at + 1))) None) None)
    go true h = refl
    go false h = text (byte_is l at " ") (text_fits l (at + 1)) h

-- A heading's text was judged.
pub known_heading_law : (l : List ℕ) (at : ℕ) → (heading_at l at ≡ None → ⊥) → Some (known_heading l at) ≡ heading_at l at
unfolding known_heading heading_at
known_heading_law l at = go (number_at l at 9)
  where
    go : (n : Option (ℕ × ℕ)) → (numeral_or (heading_of l at 1) n (λ n next. heading_of l next n) ≡ None → ⊥) → Some (numeral_or (known_of l at 1) n (λ n next. known_of l next n)) ≡ numeral_or (heading_of l at 1) n (λ n next. heading_of l next n)
    go (Some (n, next)) h = known_of_law l next n h
    go None h = known_of_law l at 1 h

-- no word but PH begins with P
heading_only : (r : List ℕ) → first_of None commands (ascii "$P" ++ r) 1 ≡ cond (begins (ascii "H") r) (heading_at (ascii "$P" ++ r) 3) None
unfolding first_of commands stands_at begins
heading_only r = refl

by_letter : (l : List ℕ) → byte_is l 0 "$" ≡ true → byte_is l 1 "P" ≡ true → l ≡ ascii "$P" ++ drop 2 l
unfolding byte_at
by_letter [] d p = absurd (false≢true d)
by_letter (a ∷ []) d p = absurd (false≢true p)
by_letter (a ∷ b ∷ r) d p = ap₂ (λ (x y : ℕ). x ∷ y ∷ r) (eqb-true a 36 d) (eqb-true b 80 p)

heading_known : (l r : List ℕ) → l ≡ ascii "$P" ++ r → (first_of None commands l 1 ≡ None → ⊥) → Some (known_heading l 3) ≡ first_of None commands l 1
heading_known l r e h = rw e (go (begins (ascii "H") r) refl)
  where
    w : List ℕ
    w = ascii "$P" ++ r

    go : (t : Bool) → begins (ascii "H") r ≡ t → Some (known_heading w 3) ≡ first_of None commands w 1
    go true q =
        let p : first_of None commands w 1 ≡ heading_at w 3 = rw (heading_only r, q) in
        rw p (known_heading_law w 3 (λ f. h (rw e (p ∙ f))))
    go false q = absurd (h (rw (e, heading_only r, q)))

-- "A line beginning with `$` is a command"; "Other lines are text"
pub form_known : (l : List ℕ) → (parse_line l ≡ None → ⊥) → form_of l ≡ parse_line l
unfolding form_of parse_line
form_known l = go (byte_is l 0 "$") refl
  where
    letter : (p : Bool) → byte_is l 1 "P" ≡ p → byte_is l 0 "$" ≡ true → (first_of None commands l 1 ≡ None → ⊥) → cond p (Some (known_heading l 3)) (first_of None commands l 1) ≡ first_of None commands l 1
    letter true p d h = heading_known l (drop 2 l) (by_letter l d p) h
    letter false p d h = refl

    go : (d : Bool) → byte_is l 0 "$" ≡ d → (cond d (first_of None commands l 1) (cond (text_fits l 0) (Some Text) None) ≡ None → ⊥) → cond d (cond (byte_is l 1 "P") (Some (known_heading l 3)) (first_of None commands l 1)) (Some Text) ≡ cond d (first_of None commands l 1) (cond (text_fits l 0) (Some Text) None)
    go true d h = letter (byte_is l 1 "P") refl d h
    go false d h = kept (text_fits l 0) Text h
