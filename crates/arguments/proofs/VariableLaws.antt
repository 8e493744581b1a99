-- A variable that is read alone is the operand that stands there, and there is none where that is no variable.
use Rattle.std.specs.Prelude.{Option, Some, None}
use Rattle.numbers.specs.declared.Quantity.{Quantity}
use mathlib.Core.Path.{◌≡◌, refl, sym, ap, ◌∙◌}
use mathlib.Core.Bool.{Bool, true, false, cond, false≢true}
use mathlib.Core.List.{List, [], ◌∷◌}
use Prim.Native.Nat.{ℕ, suc, ◌+◌, ◌<◌}
use native.Mathlib.Numerals.{add-one}
use native.Mathlib.Omega.{arith}
use borrow.Author.Tests.{eq-eqb, ne_eqb, eqb-true, eqb-false}
use lib.Dec.{eqb}
use lib.ListN.{length, get_or, drop}
use lib.Seq.{drop-cons}
use Rattle.scan.specs.Ascii.{ascii}
use Rattle.scan.specs.declared.run.Class.TheVariants.{Digit}
use Rattle.scan.specs.Run.{belongs}
use Rattle.scan.specs.Line.{byte_at, byte_is}
use Rattle.scan.specs.Words.{begins, stands_at, first_of}
use Rattle.scan.specs.Inner.Tables.{word_at, word_else, word_or}
use Rattle.scan.specs.Readers.Digits.{number_at}
use Rattle.scan.proofs.RunLaws.{byte_within}
use Rattle.scan.proofs.LetterLaws.{letter_fits, fitting, by_first}
use Rattle.scan.proofs.TestLaws.{picked}
use Rattle.arguments.specs.declared.index.Index.{Index}
use Rattle.arguments.specs.declared.operand.Operand.{Operand}
use Rattle.arguments.specs.declared.operand.Operand.TheVariants.{IntegerVariable, DecimalVariable, StringVariable, RecordElement, EntryElement}
use Rattle.arguments.specs.Readers.Literal.{literal_at}
use Rattle.arguments.specs.Readers.Index.{index_at}
use Rattle.arguments.specs.Readers.Operand.{string_end, string_at, entry_of, record_read_of, cell_of, cell_at, whole_at, numbered_of, numbered_at, names, named_at, number_or, operand_at}
use Rattle.arguments.specs.declared.name.NumberedName.TheVariants as N
use Rattle.arguments.specs.declared.name.Name.{Name}
use Rattle.arguments.specs.declared.name.Name.TheVariants.{Numbered}
use Rattle.arguments.specs.Inner.Named.{name_words, numbered, limit_of, name_at}
use Rattle.arguments.specs.Inner.Variable.{begins_variable, lettered, variable_at, variable_of}
use Rattle.arguments.proofs.NameLaws.{name_by_kind}
use Rattle.arguments.proofs.CellLaws.{front, named_first}

-- what was read is no variable
abbrev Another : Option (Operand × ℕ) → Type 0
Another r = variable_of r ≡ None

string_other : (l : List ℕ) (at : ℕ) → Another (string_at l at)
unfolding string_at variable_of
string_other l at = picked Another (byte_is l (string_end l at) "\"") refl refl

entry_other : (n : ℕ) (r : Index) (e : Option (Index × ℕ)) → Another (entry_of n r e)
unfolding entry_of variable_of
entry_other n r (Some (e, next)) = refl
entry_other n r None = refl

record_other : (l : List ℕ) (n : ℕ) (r : Option (Index × ℕ)) → Another (record_read_of l n r)
unfolding record_read_of variable_of
record_other l n (Some (r, next)) = picked Another (byte_is l next ".") (entry_other n r (index_at l (next + 1))) refl
record_other l n None = refl

cell_other : (l : List ℕ) (m : Option (ℕ × ℕ)) → Another (cell_of l m)
unfolding cell_of variable_of
cell_other l (Some (n, next)) = picked Another (byte_is l next ".") (record_other l n (index_at l (next + 1))) refl
cell_other l None = refl

numbered_other : (form : ℕ → Operand) → ((n next : ℕ) → Another (Some (form n, next))) → (m : Option (ℕ × ℕ)) → Another (numbered_of form m)
unfolding numbered_of variable_of
numbered_other form h (Some (n, next)) = h n next
numbered_other form h None = refl

number_other : (r : Option (Operand × ℕ)) → Another r → (q : Option (Quantity × ℕ)) → Another (number_or r q)
unfolding number_or variable_of
number_other r h (Some (q, next)) = refl
number_other r h None = h

-- a word doesn't stand where another letter does
not_begun : (b : ℕ) (w s : List ℕ) → (b ≡ get_or s 0 0 → ⊥) → begins (b ∷ w) s ≡ false
unfolding begins
not_begun b w [] h = refl
not_begun b w (a ∷ s) h = rw (ne_eqb b a h)

not_standing : (b : ℕ) (w l : List ℕ) (at : ℕ) → (byte_at l at ≡ b → ⊥) → stands_at (b ∷ w) l at ≡ false
unfolding stands_at
not_standing b w l at h = not_begun b w (drop at l) (λ e. h (sym (e ∙ front l at)))

-- V at the front
second_letter : (s : List ℕ) → begins (ascii "V") s ≡ eqb (get_or s 0 0) 86
unfolding begins
second_letter [] = refl
second_letter (a ∷ s) = go (eqb 86 a) refl
  where
    go : (t : Bool) → eqb 86 a ≡ t → cond t true false ≡ eqb a 86
    go true e = sym (eq-eqb a 86 (sym (eqb-true 86 a e)))
    go false e = sym (ne_eqb a 86 (λ q. eqb-false 86 a e (sym q)))

module _ (l : List ℕ) (at : ℕ) where
  names_other : begins_variable (byte_at l at) ≡ false → Another (named_at l at)
  unfolding named_at names first_of whole_at numbered_at cell_at variable_of begins_variable
  names_other h =
      let i : stands_at (ascii "IV") l at ≡ false = not_standing 73 _ l at (λ e. false≢true (sym h ∙ ap begins_variable e)) in
      let f : stands_at (ascii "FV") l at ≡ false = not_standing 70 _ l at (λ e. false≢true (sym h ∙ ap begins_variable e)) in
      let s : stands_at (ascii "SV") l at ≡ false = not_standing 83 _ l at (λ e. false≢true (sym h ∙ ap begins_variable e)) in
      rw (i, f, s)
      (picked Another (stands_at (ascii "PAGENUM") l at) refl
      (picked Another (stands_at (ascii "LINENUM") l at) refl
      (picked Another (stands_at (ascii "LOOP") l at) refl
      (picked Another (stands_at (ascii "R") l at) (numbered_other RecordElement (λ n next. refl) (number_at l (at + 1) 10))
      (picked Another (stands_at (ascii "T") l at) (numbered_other EntryElement (λ n next. refl) (number_at l (at + 1) 10))
      (picked Another (stands_at (ascii "P") l at) (cell_other l (number_at l (at + 1) 65535)) refl))))))

  other_letter : begins_variable (byte_at l at) ≡ false → Another (operand_at l at)
  unfolding operand_at
  other_letter h =
      picked Another (byte_is l at "\"") (string_other l (at + 1)) (number_other (named_at l at) (names_other h) (literal_at l at))

  two_letters : (b : ℕ) → byte_at l at ≡ b → 0 < b → stands_at (b ∷ ascii "V") l at ≡ eqb (byte_at l (at + 1)) 86
  unfolding stands_at begins byte_at
  two_letters b p h =
      let inside : at < length l = byte_within l at (byte_at l at) b refl p h in
      rw (drop-cons l at 0 inside, p, eq-eqb b b refl) (second_letter (drop (suc at) l) ∙ ap (λ (x : ℕ). eqb x 86) (front l (suc at) ∙ ap (byte_at l) (sym (add-one at))))

  -- what a name of two letters begins
  by_letters : (b : ℕ) (k : Name) → byte_at l at ≡ b → 0 < b → eqb b 34 ≡ false → eqb b 45 ≡ false → belongs Digit b ≡ false → word_at (fitting 0 b name_words) l at ≡ word_else (b ∷ ascii "V") l at k None → operand_at l at ≡ cond (byte_is l (at + 1) "V") (name_at k l (at + 2)) None
  by_letters b k p h q m d w =
      named_first l at b p q m d ∙ name_by_kind l at ∙ rw (← by_first b name_words l at refl p, w, two_letters b p h) (go (eqb (byte_at l (at + 1)) 86))
    where
      go : (v : Bool) → word_or None (cond v (Some (k, at + 2)) None) (λ k next. name_at k l next) ≡ cond v (name_at k l (at + 2)) None
      go true = refl
      go false = refl

-- a variable is kept
numbered_kept : (form : ℕ → Operand) → ((n next : ℕ) → variable_of (Some (form n, next)) ≡ Some (form n, next)) → (v : Bool) (m : Option (ℕ × ℕ)) → variable_of (cond v (numbered_of form m) None) ≡ cond v (numbered_of form m) None
unfolding numbered_of variable_of
numbered_kept form h true (Some (n, next)) = h n next
numbered_kept form h true None = refl
numbered_kept form h false m = refl

module _ (l : List ℕ) (at : ℕ) where
  variable_i : byte_at l at ≡ 73 → variable_of (operand_at l at) ≡ variable_at l at
  unfolding variable_at variable_of begins_variable lettered name_at numbered limit_of numbered_at belongs word_at fitting letter_fits
  variable_i p =
      rw (by_letters l at 73 (Numbered N.IntegerVariable) p (omega arith) refl refl refl refl, p)
      (numbered_kept IntegerVariable (λ n next. refl) (byte_is l (at + 1) "V") (number_at l (at + 2) 99))

  variable_f : byte_at l at ≡ 70 → variable_of (operand_at l at) ≡ variable_at l at
  unfolding variable_at variable_of begins_variable lettered name_at numbered limit_of numbered_at belongs word_at fitting letter_fits
  variable_f p =
      rw (by_letters l at 70 (Numbered N.DecimalVariable) p (omega arith) refl refl refl refl, p)
      (numbered_kept DecimalVariable (λ n next. refl) (byte_is l (at + 1) "V") (number_at l (at + 2) 99))

  variable_s : byte_at l at ≡ 83 → variable_of (operand_at l at) ≡ variable_at l at
  unfolding variable_at variable_of begins_variable lettered name_at numbered limit_of numbered_at belongs word_at fitting letter_fits
  variable_s p =
      rw (by_letters l at 83 (Numbered N.StringVariable) p (omega arith) refl refl refl refl, p)
      (numbered_kept StringVariable (λ n next. refl) (byte_is l (at + 1) "V") (number_at l (at + 2) 99))

  pub variable_read : variable_of (operand_at l at) ≡ variable_at l at
  unfolding variable_at begins_variable
  variable_read = go (eqb (byte_at l at) 73) (eqb (byte_at l at) 70) (eqb (byte_at l at) 83) refl refl refl
    where
      go : (a b c : Bool) → eqb (byte_at l at) 73 ≡ a → eqb (byte_at l at) 70 ≡ b → eqb (byte_at l at) 83 ≡ c → variable_of (operand_at l at) ≡ variable_at l at
      go true b c e f g = variable_i (eqb-true _ _ e)
      go false true c e f g = variable_f (eqb-true _ _ f)
      go false false true e f g = variable_s (eqb-true _ _ g)
      go false false false e f g = other_letter l at (rw (e, f, g)) ∙ rw (e, f, g)
