-- The value of digits.
use Rattle.std.specs.Prelude.{List, [], ◌∷◌, ℕ, ◌+◌, ◌-◌, ◌*◌}
use Prim.Native.Char.{code}

-- the value of a row of digits behind a value read so far
unfoldable pub value_from : ℕ → List ℕ → ℕ
value_from v [] = v
value_from v (d ∷ s) = value_from (v * 10 + (d - code "0")) s

abbrev pub value_of : List ℕ → ℕ
value_of s = value_from 0 s
