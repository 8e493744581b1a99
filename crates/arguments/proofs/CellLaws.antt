-- A cell that is read at once is the argument that stands there.
use Rattle.std.specs.Prelude.{Option, Some, None}
use mathlib.Core.Path.{◌≡◌, refl, sym, ap, subst, ◌∙◌}
use mathlib.Core.Bool.{Bool, true, false, cond, false≢true}
use mathlib.Core.List.{List, [], ◌∷◌}
use Prim.Native.Nat.{ℕ, zero, suc, ◌+◌, ◌<◌}
use native.Mathlib.Numerals.{add-one}
use native.Mathlib.Nat.{add-zero}
use native.Mathlib.Omega.{arith}
use borrow.Author.Tests.{eq-eqb, ne_eqb}
use lib.Dec.{ltb, eqb}
use lib.ListN.{length, get_or, take, drop}
use lib.Seq.{get_or-drop, drop-cons}
use Rattle.scan.specs.Ascii.{ascii}
use Rattle.scan.specs.declared.run.Class.TheVariants.{Digit}
use Rattle.scan.specs.Run.{belongs, span}
use Rattle.scan.specs.Line.{byte_at}
use Rattle.scan.specs.Words.{begins, stands_at}
use Rattle.scan.specs.Readers.Digits.{digits_at, number_at}
use Rattle.scan.specs.Inner.Tables.{word_else, word_at}
use Rattle.scan.proofs.RunLaws.{byte_within}
use Rattle.scan.proofs.LetterLaws.{letter_fits, fitting, by_first}
use Rattle.arguments.specs.declared.index.Index.{Index}
use Rattle.arguments.specs.declared.index.Index.TheVariants.{Fixed}
use Rattle.arguments.specs.declared.operand.Operand.TheVariants.{Parameter, Record}
use Rattle.arguments.specs.Readers.Literal.{literal_at, unsigned_at}
use Rattle.arguments.specs.Readers.Index.{index_at}
use Rattle.arguments.specs.Readers.Operand.{record_read_of, cell_of, cell_at, named_at, number_or, operand_at}
use Rattle.arguments.specs.Readers.Argument.{argument_of, argument_at}
use Rattle.arguments.specs.declared.name.Name.TheVariants.{PageNumber, Cell}
use Rattle.arguments.specs.Inner.Named.{name_words, name_at}
use Rattle.arguments.specs.Inner.CellArgument.{record_at, indexed, alone, CellArgument, ReadsCell}
use Rattle.arguments.proofs.NameLaws.{name_by_kind}

-- where no digit stands, no digits do
none_front : (k : ℕ) (s : List ℕ) → belongs Digit (get_or s 0 0) ≡ false → length (span Digit (take k s)) ≡ 0
unfolding span
none_front zero s h = refl
none_front (suc k) [] h = refl
none_front (suc k) (b ∷ s) h = rw h

pub front : (l : List ℕ) (at : ℕ) → get_or (drop at l) 0 0 ≡ byte_at l at
unfolding byte_at
front l at = get_or-drop at l 0 0 ∙ ap (λ (i : ℕ). get_or l i 0) (add-zero at)

no_digits : (l : List ℕ) (at most : ℕ) → belongs Digit (byte_at l at) ≡ false → (digits_at l at most).count ≡ 0
unfolding digits_at
no_digits l at most h = none_front (cond (ltb 10 most) 10 most) (drop at l) (ap (belongs Digit) (front l at) ∙ h)

-- what doesn't begin with a quote, `-` or a digit begins with a name
pub named_first : (l : List ℕ) (at b : ℕ) → byte_at l at ≡ b → eqb b 34 ≡ false → eqb b 45 ≡ false → belongs Digit b ≡ false → operand_at l at ≡ named_at l at
unfolding operand_at number_or literal_at unsigned_at
named_first l at b p q m d = rw (p, q, m, no_digits l at 10 (ap (belongs Digit) p ∙ d))

-- a number begins with a digit
abbrev Counted : Option (ℕ × ℕ) → Type 0
Counted (Some (n, next)) = Unit {0}
Counted None = ⊥

digit_first : (l : List ℕ) (at limit n next : ℕ) → number_at l at limit ≡ Some (n, next) → belongs Digit (byte_at l at) ≡ true
unfolding number_at
digit_first l at limit n next e = go (belongs Digit (byte_at l at)) refl
  where
    no : (b : Bool) → cond {A = Option (ℕ × ℕ)} b None None ≡ None
    no true = refl
    no false = refl

    go : (b : Bool) → belongs Digit (byte_at l at) ≡ b → b ≡ true
    go true q = refl
    go false q =
        let z : None ≡ Some (n, next) = sym (no (eqb (byte_at l at) 48)) ∙ (rw (eq-eqb _ _ (no_digits l at 5 q)) at e) in
        absurd (subst Counted (sym z) tt)

-- PAGENUM doesn't stand where a digit follows the P
page_not : (s : List ℕ) → belongs Digit (get_or s 0 0) ≡ true → begins (ascii "AGENUM") s ≡ false
unfolding begins belongs
page_not [] h = refl
page_not (b ∷ s) h = rw (ne_eqb 65 b (λ e. false≢true (subst (λ (x : ℕ). belongs Digit x ≡ true) (sym e) h)))

-- what an index that was read is, and where it ends
abbrev index_in : Option (Index × ℕ) → Index
index_in (Some (i, end)) = i
index_in None = Fixed 0

abbrev place_in : Option (Index × ℕ) → ℕ
place_in (Some (i, end)) = end
place_in None = 0

-- a cell was read
abbrev Told : Option (ℕ × Index × ℕ) → Type 0
Told (Some (n, i, next)) = Unit {0}
Told None = ⊥

module _ (l : List ℕ) (at n next : ℕ) (p : byte_at l at ≡ 80) (q : number_at l (at + 1) 65535 ≡ Some (n, next)) where
  inside : at < length l
  inside = byte_within l at (byte_at l at) 80 refl p (omega arith)

  not_page : stands_at (ascii "PAGENUM") l at ≡ false
  unfolding stands_at begins byte_at
  not_page = rw (drop-cons l at 0 inside, p) (page_not (drop (suc at) l) (ap (belongs Digit) (front l (suc at) ∙ ap (byte_at l) (sym (add-one at))) ∙ digit_first l (at + 1) 65535 n next q))

  is_named_law : stands_at (ascii "P") l at ≡ true
  unfolding stands_at begins byte_at
  is_named_law = rw (drop-cons l at 0 inside, p)

  two_names : word_at name_words l at ≡ word_else (ascii "PAGENUM") l at PageNumber (word_else (ascii "P") l at Cell None)
  unfolding word_at fitting letter_fits
  two_names = sym (by_first 80 name_words l at refl p)

  names_cell : named_at l at ≡ cell_at l (at + 1)
  unfolding name_at
  names_cell = name_by_kind l at ∙ rw (two_names, not_page, is_named_law)

  operand_cell : operand_at l at ≡ cell_of l (Some (n, next))
  unfolding cell_at belongs
  operand_cell = named_first l at 80 p refl refl refl ∙ rw (names_cell, q)

  -- the cell with its index, or alone
  pub argument_there : (i : Index) (end : ℕ) → record_at l next ≡ Some (i, end) → byte_at l end ≡ 44 → CellArgument l at n i end
  unfolding argument_at argument_of cell_of record_read_of record_at
  argument_there i end r h = go (eqb (byte_at l next) 46) refl
    where
      go : (b : Bool) → eqb (byte_at l next) 46 ≡ b → CellArgument l at n i end
      go true e =
          let x : index_at l (next + 1) ≡ Some (i, end) = rw e at r in
          let o : operand_at l at ≡ Some (Record n i, end) = rw (operand_cell, e, x, h) in
          record { operand = Record n i; cell = indexed refl; argument = rw (o, h); comma = h }
      go false e =
          let x : Some (Fixed 0, next) ≡ Some (i, end) = rw e at r in
          let z : next ≡ end = ap place_in x in
          let o : operand_at l at ≡ Some (Parameter n, end) = rw (operand_cell, e, z) in
          record { operand = Parameter n; cell = alone refl (sym (ap index_in x)); argument = rw (o, h); comma = h }

-- what is said of a cell that was read
abbrev Said : List ℕ → ℕ → Option (ℕ × Index × ℕ) → Type 0
Said l at (Some (n, i, next)) = CellArgument l at n i next
Said l at None = Unit {0}

pub cell_reads : (l : List ℕ) (at n : ℕ) (i : Index) (next : ℕ) → CellArgument l at n i next → ReadsCell l at (Some (n, i, next))
cell_reads l at n i next h = record { reads = λ n' i' next' e. subst (Said l at) e h }

pub other_reads : (l : List ℕ) (at : ℕ) → ReadsCell l at None
other_reads l at = record { reads = λ n i next e. absurd (subst Told (sym e) tt) }
