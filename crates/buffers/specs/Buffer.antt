-- What a write leaves in a lent buffer, byte by byte. `sets b n s` of the library is b with s stored from index n on.
use Rattle.std.specs.Prelude.{◌≡◌, Bool, cond, ◌&&◌, List, ℕ, ◌+◌, leb, length, take, drop}
use Rattle.std.proofs.lemmas.List.Edits.{sets}

-- k bytes at n lie in b
unfoldable pub has_room : List ℕ → ℕ → ℕ → Bool
has_room b n k = leb (n + k) (length b)

-- the k bytes of b at n
abbrev pub part : List ℕ → ℕ → ℕ → List ℕ
part b n k = take k (drop n b)

-- b with s at n where there is room, else b as it was
unfoldable pub stored : List ℕ → ℕ → List ℕ → List ℕ
stored b n s = cond (has_room b n (length s)) (sets b n s) b

-- b with a copy, at `to`, of its k bytes at `from`, where both lie in b, else b as it was
unfoldable pub shifted : List ℕ → ℕ → ℕ → ℕ → List ℕ
shifted b from to k = cond (has_room b from k && has_room b to k) (sets b to (part b from k)) b

-- b' is the buffer after s was to be stored at n, and r the answer
pub record Stored (b : List ℕ) (n : ℕ) (s b' : List ℕ) (r : Bool) : Type 0 where
  pub told : r ≡ has_room b n (length s)
  pub buffer : b' ≡ stored b n s

-- b' is the buffer after its k bytes at `from` were to go to `to`, and r the answer
pub record Shifted (b : List ℕ) (from to k : ℕ) (b' : List ℕ) (r : Bool) : Type 0 where
  pub told : r ≡ (has_room b from k && has_room b to k)
  pub buffer : b' ≡ shifted b from to k
