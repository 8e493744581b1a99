-- What is known of a field that was read: its argument, width and places are within their limits, and it takes at least five
-- bytes of its line, six where it asks.
use Rattle.std.specs.Prelude.{Some, None, Option}
use mathlib.Core.Path.{◌≡◌, refl, subst}
use mathlib.Core.Bool.{Bool, true, false, cond}
use mathlib.Core.List.{List, [], ◌∷◌}
use Prim.Native.Nat.{ℕ, zero, suc, ◌+◌, ◌*◌, ◌≤◌, ◌<◌}
use native.Mathlib.Omega.{arith}
use borrow.Author.Tests.{le-leb, eqb-true, leb-true, leb-false, ltb-false}
use lib.Dec.{ltb, leb, eqb}
use lib.ListN.{length}
use Rattle.scan.specs.Line.{byte_at}
use Rattle.scan.specs.Readers.Digits.{digits_at, number_at}
use Rattle.scan.proofs.TestLaws.{picked, tested}
use Rattle.scan.proofs.RunLaws.{byte_within}
use Rattle.scan.proofs.NumberLaws.{Within, number_within}
use Rattle.arguments.specs.declared.operand.Operand.{Operand}
use Rattle.arguments.specs.declared.operand.Operand.TheVariants as O
use Rattle.arguments.specs.declared.argument.Argument.{Argument}
use Rattle.arguments.specs.Readers.Argument.{argument_at}
use Rattle.arguments.specs.Inner.Parameter.{parameter_of}
use Rattle.arguments.proofs.Parsed.{ArgumentWithin, questions_of, small_parameter, argument_bounded, argument_bytes}
use Rattle.texts.specs.declared.text.Field.{Field}
use Rattle.texts.specs.declared.text.Piece.{Piece}
use Rattle.texts.specs.declared.text.Piece.TheVariants.{Byte, Placed}
use Rattle.texts.specs.Readers.Text.{places_at, places_of, width_next, field_of, field_at, placed, piece_at, before, pieces_within, text_pieces}
use Rattle.texts.specs.Pieces.{or_no_pieces, pieces_of, field_count}

-- "d 0–6"
abbrev pub Few : Option ℕ → Type 0
Few None = Unit {0}
Few (Some d) = d ≤ 6

-- "w 1–32, d 0–6", and an argument of the line within its limits
pub record Limited (l : List ℕ) (f : Field) : Type 0 where
  pub least : 1 ≤ f.width
  pub most : f.width ≤ 32
  pub few : Few f.places
  pub argument : ArgumentWithin l f.argument

-- what is read, and that it ends at k or behind, in the line; a field that asks one byte later
abbrev PlacesKnown : List ℕ → ℕ → Option (Option ℕ × ℕ) → Type 0
PlacesKnown l k (Some (p, next)) = Few p × (k ≤ next) × (next ≤ length l)
PlacesKnown l k None = Unit {0}

abbrev FieldKnown : List ℕ → ℕ → Option (Field × ℕ) → Type 0
FieldKnown l k (Some (f, next)) = Limited l f × (k + questions_of f.argument.operand ≤ next) × (next ≤ length l)
FieldKnown l k None = Unit {0}

abbrev PieceKnown : List ℕ → ℕ → Option (Piece × ℕ) → Type 0
PieceKnown l k (Some (Byte b, next)) = (k ≤ next + 4) × (next ≤ length l)
PieceKnown l k (Some (Placed f, next)) = Limited l f × (k + questions_of f.argument.operand ≤ next) × (next ≤ length l)
PieceKnown l k None = Unit {0}

-- a closing brace lies in the line
closed : (l : List ℕ) (at : ℕ) → eqb (byte_at l at) 125 ≡ true → at < length l
closed l at e = byte_within l at (byte_at l at) 125 refl (eqb-true (byte_at l at) 125 e) (omega arith)

places_known : (l : List ℕ) (at : ℕ) → PlacesKnown l (at + 1) (places_at l at)
unfolding places_at
places_known l at =
    tested (PlacesKnown l (at + 1)) (eqb (byte_at l at) 125) (λ e. (tt, omega arith, omega (arith, closed l at e))) (λ e.
    picked (PlacesKnown l (at + 1)) (eqb (byte_at l at) 46)
    (picked (PlacesKnown l (at + 1)) (eqb (digits_at l (at + 1) 1).count 0) tt
    (tested (PlacesKnown l (at + 1)) (ltb 6 (digits_at l (at + 1) 1).value) (λ f. tt) (λ f.
    tested (PlacesKnown l (at + 1)) (eqb (byte_at l (at + 2)) 125) (λ g. (ltb-false 6 (digits_at l (at + 1) 1).value f, omega arith, omega (arith, closed l (at + 2) g))) (λ g. tt))))
    tt)

module _ (l : List ℕ) (a : Argument) (s : ArgumentWithin l a) where
  with_places : (k at w : ℕ) (p : Option (Option ℕ × ℕ)) → k + questions_of a.operand ≤ at → 1 ≤ w → w ≤ 32 → PlacesKnown l at p → FieldKnown l k (places_of a w p)
  unfolding places_of
  with_places k at w (Some (p, next)) h x y e = (record { least = x; most = y; few = e.0; argument = s }, omega (arith, e.1), e.2)
  with_places k at w None h x y e = tt

  with_width : (k at : ℕ) (n : Option (ℕ × ℕ)) → k + questions_of a.operand ≤ at + 2 → Within 32 at n → FieldKnown l k (width_next l a n)
  unfolding width_next
  with_width k at (Some (w, next)) h x = with_places k (next + 1) w (places_at l next) (omega (arith, x.onward)) x.least x.most (places_known l next)
  with_width k at None h x = tt

field_known : (l : List ℕ) (k i : ℕ) → k ≤ i + 4 → FieldKnown l k (field_at l i)
unfolding field_at field_of
field_known l k i h = go (argument_at l i) refl
  where
    go : (r : Option (Argument × ℕ)) → argument_at l i ≡ r → FieldKnown l k (field_of l r)
    go (Some (a, next)) e =
        picked (FieldKnown l k) (eqb (byte_at l next) 44) (with_width l a (argument_bounded l i a next e) k (next + 1) (number_at l (next + 1) 32) (omega (arith, argument_bytes l i a next e)) (number_within l (next + 1) 32)) tt
    go None e = tt

placed_known : (l : List ℕ) (k : ℕ) (r : Option (Field × ℕ)) → FieldKnown l k r → PieceKnown l k (placed r)
unfolding placed
placed_known l k (Some (f, next)) h = h
placed_known l k None h = tt

piece_known : (l : List ℕ) (i : ℕ) → PieceKnown l (i + 5) (piece_at l i)
unfolding piece_at
piece_known l i =
    tested (PieceKnown l (i + 5)) (leb (length l) i) (λ e. tt) (λ e.
    picked (PieceKnown l (i + 5)) (eqb (byte_at l i) 123)
    (placed_known l (i + 5) (field_at l (i + 1)) (field_known l (i + 5) (i + 1) (omega arith)))
    (picked (PieceKnown l (i + 5)) (eqb (byte_at l i) 125) tt (omega arith, omega (arith, leb-false (length l) i e))))

-- a piece moves on
pub piece_ends : (l : List ℕ) (i : ℕ) (p : Piece) (next : ℕ) → piece_at l i ≡ Some (p, next) → i < next
piece_ends l i p next e = go p (subst (PieceKnown l (i + 5)) e (piece_known l i))
  where
    go : (q : Piece) → PieceKnown l (i + 5) (Some (q, next)) → i < next
    go (Byte b) k = omega (arith, k.0)
    go (Placed f) k = omega (arith, k.1)

module _ (l : List ℕ) (i : ℕ) (f : Field) (next : ℕ) (e : piece_at l i ≡ Some (Placed f, next)) where
  pub field_limited : Limited l f
  field_limited = (subst (PieceKnown l (i + 5)) e (piece_known l i)).0

  pub field_parameter : parameter_of f.argument.operand ≤ 65535
  field_parameter = small_parameter l f.argument.operand field_limited.argument.operand

-- ---- the fields of a text

-- each is within its limits
abbrev pub EachLimited : List ℕ → List Piece → Type 0
EachLimited l [] = Unit {0}
EachLimited l (Byte b ∷ ps) = EachLimited l ps
EachLimited l (Placed f ∷ ps) = Limited l f × EachLimited l ps

-- how many of them ask
abbrev pub asking_count : List Piece → ℕ
asking_count [] = 0
asking_count (Byte b ∷ ps) = asking_count ps
asking_count (Placed f ∷ ps) = questions_of f.argument.operand + asking_count ps

one_question : (o : Operand) → questions_of o ≤ 1
one_question (O.NumberLiteral q) = omega arith
one_question (O.StringLiteral start end) = omega arith
one_question (O.IntegerVariable n) = omega arith
one_question (O.DecimalVariable n) = omega arith
one_question (O.StringVariable n) = omega arith
one_question O.PageNumber = omega arith
one_question O.LineNumber = omega arith
one_question O.LoopCounter = omega arith
one_question (O.RecordElement n) = omega arith
one_question (O.EntryElement n) = omega arith
one_question (O.Parameter n) = omega arith
one_question (O.Record n r) = omega arith
one_question (O.Entry n r e) = omega arith

asking_fields : (ps : List Piece) → asking_count ps ≤ field_count ps
asking_fields [] = omega arith
asking_fields (Byte b ∷ ps) = asking_fields ps
asking_fields (Placed f ∷ ps) = omega (arith, one_question f.argument.operand, asking_fields ps)

-- what the pieces from i on take of the line
record Takes (l : List ℕ) (i : ℕ) (ps : List Piece) : Type 0 where
  bytes : i + (5 * field_count ps + asking_count ps) ≤ length l
  each : EachLimited l ps

takes_none : (l : List ℕ) (i : ℕ) → i ≤ length l → Takes l i []
takes_none l i h = record { bytes = omega arith; each = tt }

takes_more : (l : List ℕ) (i : ℕ) (p : Piece) (next : ℕ) (o : Option (List Piece)) → i ≤ length l → PieceKnown l (i + 5) (Some (p, next)) → (next ≤ length l → Takes l next (or_no_pieces o)) → Takes l i (or_no_pieces (before p o))
unfolding or_no_pieces before
takes_more l i p next None h e rest = takes_none l i h
takes_more l i (Byte b) next (Some ps) h e rest = let r = rest e.1 in record { bytes = omega (arith, e.0, r.bytes); each = r.each }
takes_more l i (Placed f) next (Some ps) h e rest = let r = rest e.2 in record { bytes = omega (arith, e.1, r.bytes); each = (e.0, r.each) }

takes : (n : ℕ) (l : List ℕ) (i : ℕ) → i ≤ length l → Takes l i (or_no_pieces (pieces_within n l i))
unfolding pieces_within or_no_pieces
takes zero l i h = takes_none l i h
takes (suc n) l i h = by (leb (length l) i) (piece_at l i) refl (takes n l)
  where
    go : (r : Option (Piece × ℕ)) → piece_at l i ≡ r → ((next : ℕ) → next ≤ length l → Takes l next (or_no_pieces (pieces_within n l next))) → Takes l i (or_no_pieces (elim r [ Some (p, next) ↦ before p (pieces_within n l next) | None ↦ None ]))
    go (Some (p, next)) e rest = takes_more l i p next (pieces_within n l next) h (subst (PieceKnown l (i + 5)) e (piece_known l i)) (rest next)
    go None e rest = takes_none l i h

    by : (b : Bool) (r : Option (Piece × ℕ)) → piece_at l i ≡ r → ((next : ℕ) → next ≤ length l → Takes l next (or_no_pieces (pieces_within n l next))) → Takes l i (or_no_pieces (cond b (Some []) (elim r [ Some (p, next) ↦ before p (pieces_within n l next) | None ↦ None ])))
    by true r e rest = takes_none l i h
    by false r e rest = go r e rest

none_over : (n : ℕ) (l : List ℕ) (i : ℕ) → length l ≤ i → or_no_pieces (pieces_within n l i) ≡ []
unfolding pieces_within or_no_pieces
none_over zero l i h = refl
none_over (suc n) l i h = rw (le-leb (length l) i h)

module _ (l : List ℕ) (from : ℕ) where
  abbrev Known : List Piece → Type 0
  Known ps = EachLimited l ps × (length l ≤ 132 → (field_count ps ≤ 26) × (asking_count ps ≤ 22) × (1 ≤ from → asking_count ps ≤ 21))

  known : Known (pieces_of l from)
  unfolding pieces_of text_pieces
  known = go (leb (length l) from) refl
    where
      go : (b : Bool) → leb (length l) from ≡ b → Known (or_no_pieces (pieces_within (length l) l from))
      go true e = rw (none_over (length l) l from (leb-true (length l) from e)) (tt, λ h. (omega arith, omega arith, λ k. omega arith))
      go false e =
          let ps = or_no_pieces (pieces_within (length l) l from) in
          let t = takes (length l) l from (omega (arith, leb-false (length l) from e)) in
          (t.each, λ h. (omega (arith, t.bytes), omega (arith, t.bytes, asking_fields ps), λ k. omega (arith, t.bytes, asking_fields ps)))

  -- Every field's argument, width and places are within their limits.
  pub fields_limited : EachLimited l (pieces_of l from)
  fields_limited = known.0

  module _ (h : length l ≤ 132) where
    -- A field takes at least five bytes, `{1,1}`: a line has at most 26.
    pub fields_few : field_count (pieces_of l from) ≤ 26
    fields_few = (known.1 h).0

    -- One that asks takes six, `{P1,1}`: a line has at most 22,
    pub asking_few : asking_count (pieces_of l from) ≤ 22
    asking_few = (known.1 h).1

    -- and a heading, with its word before them, 21.
    pub heading_asking_few : 1 ≤ from → asking_count (pieces_of l from) ≤ 21
    heading_asking_few k = (known.1 h).2 k
