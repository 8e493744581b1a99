-- Where strings lie, and the bytes that a text of the code stands for.
use Rattle.std.specs.Prelude.{Bool, true, false, cond, List, [], map, ℕ, zero, suc, ◌≤◌, ltb, get_or, take, drop, replicate, length}
use Rattle.values.specs.declared.string.Source.{Source}
use Rattle.values.specs.declared.string.Source.TheVariants.{Line, Store, Variable}
use Rattle.values.specs.declared.string.Text as P
use Rattle.values.specs.Letters.{upper}

abbrev pub zeros : List ℕ
zeros = replicate 16 0

-- the 16 bytes of SVn, zeros for any other
unfoldable pub row_of : List (List ℕ) → ℕ → List ℕ
row_of rows zero = zeros
row_of rows (suc k) = cond (ltb k 99) (get_or rows k []) zeros

-- where strings lie: the line, the store, the 99 rows of the string variables
pub record Strings : Type 0 where
  pub line : List ℕ
  pub store : List ℕ
  pub rows : List (List ℕ)

abbrev pub strings : List ℕ → List ℕ → List (List ℕ) → Strings
strings line store rows = record { line = line; store = store; rows = rows }

unfoldable pub source_bytes : Strings → Source → List ℕ
source_bytes s Line = s.line
source_bytes s Store = s.store
source_bytes s (Variable n) = row_of s.rows n

-- the same, by a copy of the row that is meant
abbrev pub chosen : List ℕ → List ℕ → List ℕ → Source → List ℕ
chosen line store row Line = line
chosen line store row Store = store
chosen line store row (Variable n) = row

unfoldable pub row_for : List (List ℕ) → Source → List ℕ
row_for rows Line = zeros
row_for rows Store = zeros
row_for rows (Variable n) = row_of rows n

unfoldable pub cased : Bool → List ℕ → List ℕ
cased true s = map upper s
cased false s = s

-- the bytes that a text of the code stands for
unfoldable pub text_of : Strings → P.Text → List ℕ
text_of s t = cased t.upper (take t.count (drop t.at (source_bytes s t.source)))

-- the line and the store, as a checked template and an indexed store give them
pub record Sized (line store : List ℕ) : Type 0 where
  pub short_line : length line ≤ 65536
  pub short_store : length store ≤ 65536
