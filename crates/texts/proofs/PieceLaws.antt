-- A piece ends behind its start, so that a text has no more pieces than its line has bytes.
use Rattle.std.specs.Prelude.{Option, Some, None}
use mathlib.Core.Path.{◌≡◌, refl, sym, ◌∙◌}
use mathlib.Core.List.{List, []}
use Prim.Native.Nat.{ℕ, zero, suc, ◌+◌, ◌<◌, ◌≤◌}
use native.Mathlib.Omega.{arith}
use borrow.Author.Tests.{le-leb, lt-leb}
use lib.ListN.{length}
use Rattle.texts.specs.declared.text.Piece.{Piece}
use Rattle.texts.specs.Readers.Text.{piece_at, before, pieces_within, text_pieces}
pub use Rattle.texts.proofs.FieldLaws.{piece_ends}

-- one count of pieces gives what another does, where both reach the end of the line
enough : (l : List ℕ) (n m at : ℕ) → length l ≤ at + n → length l ≤ at + m → pieces_within n l at ≡ pieces_within m l at
unfolding pieces_within
enough l zero zero at h k = refl
enough l zero (suc m) at h k = rw (le-leb (length l) at (omega arith))
enough l (suc n) zero at h k = rw (le-leb (length l) at (omega arith))
enough l (suc n) (suc m) at h k = go (piece_at l at) refl (λ next. enough l n m next)
  where
    go : (r : Option (Piece × ℕ)) → piece_at l at ≡ r → ((next : ℕ) → length l ≤ next + n → length l ≤ next + m → pieces_within n l next ≡ pieces_within m l next) → pieces_within (suc n) l at ≡ pieces_within (suc m) l at
    go (Some (p, next)) e rest =
        let b = piece_ends l at p next e in
        rw (e, rest next (omega arith) (omega arith))
    go None e rest = rw e

-- the count of a text's pieces is no restriction
pub any_count : (l : List ℕ) (n from : ℕ) → length l ≤ n → pieces_within n l from ≡ text_pieces l from
unfolding text_pieces
any_count l n from h = enough l n (length l) from (omega arith) (omega arith)

module _ (l : List ℕ) (at : ℕ) where
  pub pieces_end : length l ≤ at → text_pieces l at ≡ Some []
  unfolding pieces_within
  pieces_end h = sym (any_count l (suc (length l)) at (omega arith)) ∙ rw (le-leb (length l) at h)

  pub pieces_refused : at < length l → piece_at l at ≡ None → text_pieces l at ≡ None
  unfolding pieces_within
  pieces_refused h e = sym (any_count l (suc (length l)) at (omega arith)) ∙ rw (lt-leb (length l) at h, e)

  pub pieces_more : (p : Piece) (next : ℕ) → at < length l → piece_at l at ≡ Some (p, next) → text_pieces l at ≡ before p (text_pieces l next)
  unfolding pieces_within text_pieces
  pieces_more p next h e = sym (any_count l (suc (length l)) at (omega arith)) ∙ rw (lt-leb (length l) at h, e)
