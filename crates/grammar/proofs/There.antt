-- The places in a form are those of the bytes that they stand for, and the pieces of a text those that it spells.
use mathlib.Core.Path.{◌≡◌, refl, sym, ap, ap₂, ◌∙◌, subst}
use mathlib.Core.List.{List, [], ◌∷◌, ◌++◌, append_assoc}
use Prim.Native.Nat.{ℕ, ◌+◌, ◌-◌, ◌≤◌}
use native.Mathlib.Omega.{arith}
use lib.ListN.{length, take, drop, length-drop}
use lib.Seq.{take-append_seam, take_all, drop-append-add}
use Rattle.scan.specs.declared.run.Class.TheVariants.{InName, InString}
use Rattle.scan.specs.Ascii.{ascii}
use Rattle.arguments.specs.declared.operand.Operand.TheVariants.{StringLiteral}
use Rattle.texts.specs.declared.text.Piece.{Piece}
use Rattle.texts.specs.Width.{total_width}
use Rattle.texts.specs.Readers.Text.{text_pieces}
use Rattle.texts.specs.Pieces.{or_no_pieces, pieces_of}
use Rattle.lines.specs.declared.command.Line.TheVariants as L
use Rattle.lines.specs.declared.command.Line.TheVariants.{Section, Heading}
use Rattle.grammar.specs.Number.{Several}
use Rattle.grammar.specs.Argument.{quote, OperandSpelled, string_literal}
use Rattle.grammar.specs.Text.{TextSpelled}
use Rattle.grammar.specs.Line.{space, Spells, text, section_form, heading}
use Rattle.grammar.proofs.Standing.{past}
use Rattle.grammar.proofs.Texts.{text_read}

-- A string's places: between them stand its bytes, in quotes.
pub record StringThere (l : List ℕ) (start end : ℕ) : Type 0 where
  pub bytes : List ℕ
  pub row : Several InString 0 16 bytes
  pub there : take (end - start) (drop start l) ≡ bytes

pub string_there : (l : List ℕ) (at start end : ℕ) (s r : List ℕ) → OperandSpelled at (StringLiteral start end) s → drop at l ≡ s ++ r → StringThere l start end
string_there l at start end s r (string_literal x w) e =
    let f : drop at l ≡ quote ∷ (x ++ (quote ∷ r)) = e ∙ ap (λ (y : List ℕ). quote ∷ y) (append_assoc x (quote ∷ []) r) in
    let n : at + 1 + length x - (at + 1) ≡ length x = omega arith in
    record { bytes = x; row = w; there = ap₂ (λ (i : ℕ) (y : List ℕ). take i y) n (past l at quote (x ++ (quote ∷ r)) f) ∙ take-append_seam x (quote ∷ r) }

-- A section's places: between them stands its name, and nothing else behind `$SEC `.
pub record NameThere (l : List ℕ) (start end : ℕ) : Type 0 where
  pub bytes : List ℕ
  pub row : Several InName 1 16 bytes
  pub there : take (end - start) (drop start l) ≡ bytes
  pub whole : l ≡ ascii "$SEC " ++ bytes

pub name_there : (l : List ℕ) (start end : ℕ) → Spells (Section start end) l → NameThere l start end
name_there l start end (section_form x w) =
    let n : 5 + length x - 5 ≡ length x = omega arith in
    record { bytes = x; row = w; there = ap (λ (i : ℕ). take i x) n ∙ take_all (length x) x (omega arith); whole = refl }

-- A heading's place: from there on stands its text.
pub record HeadingThere (l : List ℕ) (from : ℕ) : Type 0 where
  pub pieces : List Piece
  pub spelled : TextSpelled from pieces (drop from l)
  pub fits : from + total_width pieces ≤ 132

pub heading_there : (l : List ℕ) (n from : ℕ) → Spells (Heading n from) l → HeadingThere l from
heading_there l n from (heading n' w ps s u t h) =
    record { pieces = ps; spelled = rw (drop-append-add w (space ∷ s) 1) t; fits = h }

-- The pieces that a run prints of a text are those that it spells.
pub pieces_are : (l : List ℕ) (from : ℕ) (ps : List Piece) → TextSpelled from ps (drop from l) → pieces_of l from ≡ ps
unfolding pieces_of or_no_pieces text_pieces
pieces_are l from ps t = rw (text_read (length l) l from ps (drop from l) t refl (omega (arith, length-drop from l)))

-- So the pieces of an accepted text line, and of an accepted heading, spell its text.
pub text_pieces_law : (l : List ℕ) → Spells L.Text l → TextSpelled 0 (pieces_of l 0) l
text_pieces_law l (text ps l' h t w) = subst (λ (x : List Piece). TextSpelled 0 x l) (sym (pieces_are l 0 ps t)) t

pub heading_pieces : (l : List ℕ) (n from : ℕ) → Spells (Heading n from) l → TextSpelled from (pieces_of l from) (drop from l)
heading_pieces l n from s =
    let h = heading_there l n from s in
    subst (λ (x : List Piece). TextSpelled from x (drop from l)) (sym (pieces_are l from h.pieces h.spelled)) h.spelled
