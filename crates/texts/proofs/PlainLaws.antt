-- A run of bytes that are neither brace is as many pieces of one byte.
use Rattle.std.specs.Prelude.{Some, None, Option}
use mathlib.Core.Path.{◌≡◌, refl, sym, ap, ◌∙◌}
use mathlib.Core.Bool.{Bool, true, false, not, cond, ◌||◌, false≢true}
use mathlib.Core.List.{List, [], ◌∷◌}
use Prim.Native.Nat.{ℕ, ◌+◌, ◌<◌}
use native.Mathlib.Nat.{add-zero}
use native.Mathlib.Omega.{arith}
use borrow.Author.Tests.{lt-leb, leb-true, leb-false}
use lib.Dec.{leb, eqb}
use lib.ListN.{length, get_or, drop}
use Rattle.scan.specs.declared.run.Class.TheVariants.{Unbraced}
use Rattle.scan.specs.Line.{byte_at}
use Rattle.scan.specs.Run.{belongs, span}
use Rattle.scan.proofs.RunLaws.{span_end, span_stop, span_more}
use Rattle.texts.specs.declared.text.Piece.{Piece}
use Rattle.texts.specs.declared.text.Piece.TheVariants.{Byte}
use Rattle.texts.specs.Width.{width_of}
use Rattle.texts.specs.Readers.Text.{piece_at, field_at, placed, before, text_pieces, fits_behind}
use Rattle.texts.specs.Inner.Plain.{plain_run, plains}
use Rattle.texts.proofs.PieceLaws.{pieces_more}
use Rattle.texts.proofs.TextLaws.{piece_passed}

-- a byte that is neither brace is a piece
module _ (l : List ℕ) (i : ℕ) (h : i < length l) where
  plain_piece : belongs Unbraced (get_or l i 0) ≡ true → piece_at l i ≡ Some (Byte (get_or l i 0), i + 1)
  unfolding belongs piece_at byte_at
  plain_piece = rw (lt-leb (length l) i h) (go (eqb (get_or l i 0) 123) (eqb (get_or l i 0) 125))
    where
      go : (a b : Bool) → not (a || b) ≡ true → cond a (placed (field_at l (i + 1))) (cond b None (Some (Byte (get_or l i 0), i + 1))) ≡ Some (Byte (get_or l i 0), i + 1)
      go true b e = absurd (false≢true e)
      go false true e = absurd (false≢true e)
      go false false e = refl

-- some bytes before what follows
befores : List ℕ → Option (List Piece) → Option (List Piece)
befores [] o = o
befores (b ∷ s) o = before (Byte b) (befores s o)

run_pieces : (l s : List ℕ) (i : ℕ) → s ≡ span Unbraced (drop i l) → text_pieces l i ≡ befores s (text_pieces l (i + length s))
unfolding befores
run_pieces l [] i e = ap (text_pieces l) (sym (add-zero i))
run_pieces l (b ∷ s) i e = inside (leb (length l) i) refl (run_pieces l s (i + 1))
  where
    Rest : Type 0
    Rest = s ≡ span Unbraced (drop (i + 1) l) → text_pieces l (i + 1) ≡ befores s (text_pieces l (i + 1 + length s))

    read : Rest → i < length l → (t : Bool) → belongs Unbraced (get_or l i 0) ≡ t → text_pieces l i ≡ before (Byte b) (befores s (text_pieces l (i + length (b ∷ s))))
    read rest h true q =
        let x = e ∙ span_more Unbraced l i h q in
        let y : b ≡ get_or l i 0 = cc x in
        let z : s ≡ span Unbraced (drop (i + 1) l) = cc x in
        let n : i + length (b ∷ s) ≡ i + 1 + length s = omega arith in
        rw (n, y, pieces_more l i (Byte (get_or l i 0)) (i + 1) h (plain_piece l i h q), ← rest z)
    read rest h false q = let z : length (b ∷ s) ≡ 0 = ap length (e ∙ span_stop Unbraced l i h q) in absurd (omega arith)

    inside : (t : Bool) → leb (length l) i ≡ t → Rest → text_pieces l i ≡ before (Byte b) (befores s (text_pieces l (i + length (b ∷ s))))
    inside true q rest = let z : length (b ∷ s) ≡ 0 = ap length (e ∙ span_end Unbraced l i (leb-true (length l) i q)) in absurd (omega arith)
    inside false q rest = read rest (leb-false (length l) i q) (belongs Unbraced (get_or l i 0)) refl

befores_fit : (width : ℕ) (s : List ℕ) (o : Option (List Piece)) → fits_behind width (befores s o) ≡ fits_behind (width + length s) o
unfolding befores width_of
befores_fit width [] o = ap (λ (w : ℕ). fits_behind w o) (sym (add-zero width))
befores_fit width (b ∷ s) o =
    let n : width + length (b ∷ s) ≡ width + 1 + length s = omega arith in
    piece_passed width (Byte b) (befores s o) ∙ befores_fit (width + 1) s o ∙ ap (λ (w : ℕ). fits_behind w o) (sym n)

befores_some : (s : List ℕ) (ps : List Piece) → befores s (Some ps) ≡ Some (plains s ps)
unfolding befores before
befores_some [] ps = refl
befores_some (b ∷ s) ps = ap (before (Byte b)) (befores_some s ps)

module _ (l s : List ℕ) (i : ℕ) (e : s ≡ plain_run l i) where
  -- What follows a run fits behind it.
  pub plain_fits : (width : ℕ) → fits_behind width (text_pieces l i) ≡ fits_behind (width + length s) (text_pieces l (i + length s))
  unfolding plain_run
  plain_fits width = ap (fits_behind width) (run_pieces l s i e) ∙ befores_fit width s (text_pieces l (i + length s))

  -- The pieces of a run, and what follows.
  pub plain_pieces : (ps : List Piece) → text_pieces l (i + length s) ≡ Some ps → text_pieces l i ≡ Some (plains s ps)
  unfolding plain_run
  plain_pieces ps q = run_pieces l s i e ∙ rw q (befores_some s ps)
