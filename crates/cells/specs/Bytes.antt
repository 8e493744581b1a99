-- "Numbers are big-endian, signed values two's complement."
use Rattle.std.specs.Prelude.{ℕ, suc, ◌+◌, ◌-◌, ◌*◌, ◌/◌, ◌%◌, Bool, true, false, cond, ◌&&◌, List, [], ◌∷◌, ◌++◌, length, ℤ, pos, negsuc, ◌==◌, nat_lt, slice_index}

-- a number as 2, 4 and 8 bytes
unfoldable pub pair : ℕ → List ℕ
pair n = n / 256 ∷ n % 256 ∷ []

unfoldable pub quad : ℕ → List ℕ
quad n = pair (n / 65536) ++ pair (n % 65536)

unfoldable pub octet : ℕ → List ℕ
octet n = quad (n / 4294967296) ++ quad (n % 4294967296)

-- the number of the 2, 4 and 8 bytes at i
unfoldable pub pair_at : List ℕ → ℕ → ℕ
pair_at s i = slice_index s i * 256 + slice_index s (i + 1)

unfoldable pub quad_from : List ℕ → ℕ → ℕ
quad_from s i = pair_at s i * 65536 + pair_at s (i + 2)

unfoldable pub octet_at : List ℕ → ℕ → ℕ
octet_at s i = quad_from s i * 4294967296 + quad_from s (i + 4)

-- two's complement in 32 or 64 bits, m being 2^32 or 2^64
unfoldable pub in_complement : ℕ → ℤ → ℕ
in_complement m (pos n) = n
in_complement m (negsuc n) = m - suc n

unfoldable pub from_complement : ℕ → ℕ → ℤ
from_complement m n = cond (nat_lt (2 * n) m) (pos n) (negsuc (m - suc n))

abbrev pub word_range : ℕ
word_range = 4294967296

abbrev pub long_range : ℕ
long_range = 18446744073709551616

-- s begins with p; s is p
unfoldable pub begins : List ℕ → List ℕ → Bool
begins [] s = true
begins (x ∷ p) [] = false
begins (x ∷ p) (y ∷ s) = x == y && begins p s

unfoldable pub equal_bytes : List ℕ → List ℕ → Bool
equal_bytes p s = begins p s && length p == length s
