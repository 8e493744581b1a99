-- Every line of a run prints only what is proper, and keeps the strings of the state clean.
use Rattle.std.specs.Prelude.{Some, None, Option}
use Rattle.texts.specs.declared.text.Field.{Field}
use mathlib.Core.Path.{◌≡◌, refl}
use mathlib.Core.Bool.{Bool, true, false, cond}
use mathlib.Core.List.{List, [], ◌∷◌}
use Prim.Native.Nat.{ℕ, zero, suc, ◌+◌}
use native.Mathlib.Omega.{arith}
use borrow.Author.Tests.{leb-false}
use lib.Dec.{leb, ltb, eqb}
use lib.ListN.{length, take}
use Rattle.scan.specs.Line.{byte_at}
use Rattle.texts.specs.declared.text.Piece.{Piece}
use Rattle.texts.specs.declared.text.Piece.TheVariants.{Byte, Placed}
use Rattle.texts.specs.Readers.Text.{field_at, placed, piece_at, before, pieces_within, text_pieces}
use Rattle.texts.specs.Pieces.{or_no_pieces, pieces_of}
use Rattle.meaning.specs.Each.{Each}
use Rattle.meaning.specs.Tree.{done, bind}
use Rattle.meaning.proofs.Yielding.{Yields, yields_bind}
use Rattle.values.specs.Machine.{Machine}
use Rattle.values.specs.Worth.{Worth}
use Rattle.values.specs.Meanings.{argument_meaning}
use Rattle.values.proofs.Giving.{Anything}
use Rattle.pages.specs.Text.{field_values, rendered, any_wrong, printed_unless_wrong, text_meaning}
use Rattle.pages.specs.Shown.{field_bytes}
use Rattle.pages.specs.declared.page.Page.{Page}
use Rattle.pages.specs.declared.heading.Heading.{Heading}
use Rattle.pages.specs.Page.{advanced_of, on, say_meaning, head_line, head_from, head_number, head_meaning, heads_meaning, highest_defined, break_meaning, turn_meaning, top_meaning, line_step}
use Rattle.pages.proofs.Counting.{values_give}
use Rattle.output.specs.Printable.{Printable, Clean, fed, silent}
use Rattle.output.proofs.Bytes.{each_take, each_append, each_at}
use Rattle.output.proofs.Fields.{WorthClean, field_clean}
use Rattle.output.proofs.Values.{AnswerClean, VariablesClean, argument_clean}
use Rattle.output.proofs.Saying.{Says, says_bind, asks_say}

-- ---- the pieces of a text

abbrev PieceClean : Piece → Type 0
PieceClean (Byte b) = Printable b
PieceClean (Placed f) = Unit {0}

abbrev ReadClean : Option (Piece × ℕ) → Type 0
ReadClean (Some (p, next)) = PieceClean p
ReadClean None = Unit {0}

placed_clean : (r : Option (Field × ℕ)) → ReadClean (placed r)
unfolding placed
placed_clean (Some (f, next)) = tt
placed_clean None = tt

piece_clean : (l : List ℕ) (i : ℕ) → Clean l → ReadClean (piece_at l i)
unfolding piece_at byte_at
piece_clean l i h = go (leb (length l) i) refl (eqb (byte_at l i) 123) (eqb (byte_at l i) 125)
  where
    go : (x : Bool) → leb (length l) i ≡ x → (y z : Bool) → ReadClean (cond x None (cond y (placed (field_at l (i + 1))) (cond z None (Some (Byte (byte_at l i), i + 1)))))
    go true e y z = tt
    go false e true z = placed_clean (field_at l (i + 1))
    go false e false true = tt
    go false e false false = each_at Printable 0 l i (omega (arith, leb-false (length l) i e)) h

before_clean : (p : Piece) (o : Option (List Piece)) → PieceClean p → Each PieceClean (or_no_pieces o) → Each PieceClean (or_no_pieces (before p o))
unfolding or_no_pieces before
before_clean p None h k = tt
before_clean p (Some ps) h k = (h, k)

pieces_within_law : (n : ℕ) (l : List ℕ) (i : ℕ) → Clean l → Each PieceClean (or_no_pieces (pieces_within n l i))
unfolding pieces_within or_no_pieces
pieces_within_law zero l i h = tt
pieces_within_law (suc n) l i h = by (leb (length l) i) (piece_at l i) (piece_clean l i h) (λ next. pieces_within_law n l next h)
  where
    by : (b : Bool) (r : Option (Piece × ℕ)) → ReadClean r → ((next : ℕ) → Each PieceClean (or_no_pieces (pieces_within n l next))) → Each PieceClean (or_no_pieces (cond b (Some []) (elim r [ Some (p, next) ↦ before p (pieces_within n l next) | None ↦ None ])))
    by true r k rest = tt
    by false (Some (p, next)) k rest = before_clean p (pieces_within n l next) k (rest next)
    by false None k rest = tt

pieces_clean : (l : List ℕ) (from : ℕ) → Clean l → Each PieceClean (pieces_of l from)
unfolding pieces_of text_pieces
pieces_clean l from h = pieces_within_law (length l) l from h

-- ---- a line

rendered_clean : (ps : List Piece) (ws : List Worth) → Each PieceClean ps → Each WorthClean ws → Clean (rendered ps ws)
rendered_clean [] ws h k = tt
rendered_clean (Byte b ∷ ps) ws h k = (h.0, rendered_clean ps ws h.1 k)
rendered_clean (Placed f ∷ ps) [] h k = tt
rendered_clean (Placed f ∷ ps) (w ∷ ws) h k = each_append Printable (field_bytes f.width f.places w) (rendered ps ws) (field_clean f.width f.places w k.0) (rendered_clean ps ws h.1 k.1)

values_clean : (m : Machine) → VariablesClean m.variables → (l : List ℕ) → Clean l → (n : ℕ) (ps : List Piece) → Yields AnswerClean (field_values m l n ps) (Each WorthClean)
values_clean m h l c n [] = tt
values_clean m h l c n (Byte b ∷ ps) = values_clean m h l c n ps
values_clean m h l c n (Placed f ∷ ps) =
    yields_bind AnswerClean (argument_meaning m l n f.argument) (λ w. bind (field_values m l n ps) (λ ws. done (w ∷ ws))) WorthClean (Each WorthClean) (argument_clean m n h l c f.argument) (λ w i.
    yields_bind AnswerClean (field_values m l n ps) (λ ws. done (w ∷ ws)) (Each WorthClean) (Each WorthClean) (values_clean m h l c n ps) (λ ws j. (i, j)))

text_says : (m : Machine) → VariablesClean m.variables → (l : List ℕ) → Clean l → (from n : ℕ) → Says (text_meaning m l from n) (λ _. Unit {0})
unfolding text_meaning
text_says m h l c from n =
    says_bind (field_values m l n (pieces_of l from)) (λ ws. printed_unless_wrong n (any_wrong ws) (rendered (pieces_of l from) ws)) (Each WorthClean) (λ _. Unit {0})
    (asks_say (field_values m l n (pieces_of l from)) Anything (Each WorthClean) (values_give m l n (pieces_of l from)) (values_clean m h l c n (pieces_of l from)))
    (λ ws k. go (any_wrong ws) (rendered (pieces_of l from) ws) (rendered_clean (pieces_of l from) ws (pieces_clean l from c) k))
  where
    go : (w : Bool) (b : List ℕ) → Clean b → Says (printed_unless_wrong n w b) (λ _. Unit {0})
    go true b k = tt
    go false b k = (record { text = b; a_line_end = refl; clean = k }, tt)

module _ (m : Machine) (h : VariablesClean m.variables) where
  say_says : (l : List ℕ) → Clean l → (from n : ℕ) (p : Page) → Says (say_meaning m l from n p) Anything
  unfolding say_meaning
  say_says l c from n p = says_bind (text_meaning (on m p) l from n) (λ _. done (advanced_of p)) (λ _. Unit {0}) Anything (text_says (on m p) h l c from n) (λ _ _. tt)

  module _ (t : List ℕ) (due : ℕ) where
    heads_say : (hs : List Heading) → Each (λ x. Clean (head_line t x)) hs → (p : Page) → Says (heads_meaning m t due hs p) Anything
    unfolding head_meaning
    heads_say [] k p = say_says [] tt 0 due p
    heads_say (x ∷ hs) k p = says_bind (head_meaning m t due x p) (heads_meaning m t due hs) Anything Anything (say_says (head_line t x) k.0 (head_from x) (head_number due x) p) (λ p₁ _. heads_say hs k.1 p₁)

    top_says : (hs : List Heading) → Each (λ x. Clean (head_line t x)) hs → (p : Page) → Says (top_meaning m t due hs p) Anything
    unfolding top_meaning
    top_says hs k p = go (eqb p.row 1) (eqb (highest_defined hs 9) 0)
      where
        go : (b d : Bool) → Says (cond b (cond d (done p) (heads_meaning m t due (take (highest_defined hs 9) hs) p)) (done p)) Anything
        go false d = tt
        go true true = tt
        go true false = heads_say (take (highest_defined hs 9) hs) (each_take (λ x. Clean (head_line t x)) (highest_defined hs 9) hs k) p

pub break_says : (due : ℕ) (feeds : Bool) (p : Page) → Says (break_meaning due feeds p) Anything
unfolding break_meaning
break_says due true p = (fed, tt)
break_says due false p = (silent, tt)

turn_says : (due : ℕ) (feeds : Bool) (p : Page) → Says (turn_meaning due feeds p) Anything
unfolding turn_meaning
turn_says due feeds p = go (ltb 60 p.row)
  where
    go : (b : Bool) → Says (cond b (break_meaning due feeds p) (done p)) Anything
    go true = break_says due feeds p
    go false = tt

-- A text line with what comes before it.
pub step_says : (m : Machine) → VariablesClean m.variables → (t : List ℕ) (due : ℕ) (feeds : Bool) (hs : List Heading) → Each (λ x. Clean (head_line t x)) hs → (l : List ℕ) → Clean l → (p : Page) → Says (line_step m t due feeds hs l p) Anything
unfolding line_step
step_says m h t due feeds hs k l c p =
    says_bind (turn_meaning due feeds p) (λ p₁. bind (top_meaning m t due hs p₁) (λ p₂. say_meaning m l 0 due p₂)) Anything Anything (turn_says due feeds p) (λ p₁ _.
    says_bind (top_meaning m t due hs p₁) (λ p₂. say_meaning m l 0 due p₂) Anything Anything (top_says m h t due hs k p₁) (λ p₂ _. say_says m h l c 0 due p₂))
