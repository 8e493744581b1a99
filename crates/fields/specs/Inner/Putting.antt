-- A field in a lent buffer.
use Rattle.std.specs.Prelude.{◌≡◌, Bool, false, List, ℕ, length, Option, Some, None}
use Rattle.buffers.specs.Buffer.{has_room, stored}

-- whether a field lies in the buffer, and the buffer with it there
unfoldable pub field_fits : List ℕ → ℕ → Option (List ℕ) → Bool
field_fits b n None = false
field_fits b n (Some s) = has_room b n (length s)

unfoldable pub buffer_with : List ℕ → ℕ → Option (List ℕ) → List ℕ
buffer_with b n None = b
buffer_with b n (Some s) = stored b n s

-- b' is the buffer after the field f was to be put at n, and r the answer
pub record Put (b : List ℕ) (n : ℕ) (f : Option (List ℕ)) (b' : List ℕ) (r : Bool) : Type 0 where
  pub told : r ≡ field_fits b n f
  pub buffer : b' ≡ buffer_with b n f
