-- Laws of the loop that measures a text: what the rest has behind `width` bytes, the whole has from its start.
use Rattle.std.specs.Prelude.{Some, None, Option}
use mathlib.Core.Path.{◌≡◌, refl}
use mathlib.Core.Bool.{true, false}
use mathlib.Core.List.{List}
use Prim.Native.Nat.{ℕ, ◌+◌, ◌<◌, ◌≤◌}
use native.Mathlib.Omega.{arith}
use borrow.Author.Tests.{le-leb, lt-leb}
use lib.ListN.{length}
use Rattle.texts.specs.declared.text.Piece.{Piece}
use Rattle.texts.specs.Width.{width_of, total_width}
use Rattle.texts.specs.Readers.Text.{piece_at, before, text_pieces, fits_behind}
use Rattle.texts.proofs.PieceLaws.{pieces_end, pieces_refused, pieces_more}

-- what stands behind more than 132 bytes doesn't fit
pub too_wide : (width : ℕ) (o : Option (List Piece)) → 132 < width → fits_behind width o ≡ false
unfolding fits_behind
too_wide width (Some ps) h = lt-leb (width + total_width ps) 132 (omega arith)
too_wide width None h = refl

-- a piece's width goes to what stands before the rest
pub piece_passed : (width : ℕ) (p : Piece) (o : Option (List Piece)) → fits_behind width (before p o) ≡ fits_behind (width + width_of p) o
unfolding fits_behind before total_width
piece_passed width p (Some ps) =
    let e : width + (width_of p + total_width ps) ≡ width + width_of p + total_width ps = omega arith in rw e
piece_passed width p None = refl

module _ (l : List ℕ) (at width : ℕ) where
  pub fits_end : width ≤ 132 → length l ≤ at → fits_behind width (text_pieces l at) ≡ true
  unfolding fits_behind total_width
  fits_end w h = rw (pieces_end l at h) (le-leb (width + 0) 132 (omega arith))

  pub fits_refused : at < length l → piece_at l at ≡ None → fits_behind width (text_pieces l at) ≡ false
  unfolding fits_behind
  fits_refused h e = rw (pieces_refused l at h e)

  pub fits_more : (p : Piece) (next : ℕ) → at < length l → piece_at l at ≡ Some (p, next) → fits_behind width (text_pieces l at) ≡ fits_behind (width + width_of p) (text_pieces l next)
  fits_more p next h e = rw (pieces_more l at p next h e) (piece_passed width p (text_pieces l next))
