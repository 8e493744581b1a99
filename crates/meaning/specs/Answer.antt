-- What a question is answered by.
use Rattle.std.specs.Prelude.{List, ℕ, ℤ}
use Rattle.numbers.specs.declared.Quantity.{Quantity}
use Rattle.numbers.specs.declared.Quantity.TheVariants.{Integer, Decimal}

-- What a cell holds and a field shows: a number, or the bytes of a string.
pub data Value : Type 0 where
  number : Quantity → Value
  string : List ℕ → Value

-- the two kinds of number, a decimal as "a count of millionths"
abbrev pub integer : ℤ → Value
integer z = number (Integer z)

abbrev pub decimal : ℤ → Value
decimal z = number (Decimal z)

-- Kind 1 answers a cell's "kind and value, or missing"; kinds 2 and 3 the highest record or entry number, "0 if there is none".
pub data Answer : Type 0 where
  missing : Answer
  cell : Value → Answer
  highest : ℕ → Answer
