-- Digits and numbers in a line.
use Rattle.std.specs.Prelude.{cond, List, ℕ, ◌+◌, ltb, leb, eqb, length, Option, Some, None}
use Rattle.scan.specs.declared.run.Class.TheVariants.{Digit}
use Rattle.scan.specs.declared.digits.Digits.{Digits}
use Rattle.scan.specs.Run.{span}
use Rattle.scan.specs.Line.{byte_is, window}
use Rattle.scan.specs.Value.{value_of}

-- the digits at the front of s: how many, and their value
abbrev pub digits_of : List ℕ → Digits
digits_of s = record { count = length (span Digit s); value = value_of (span Digit s) }

-- at most `most` digits at a place of a line, and at most ten, which no form exceeds
unfoldable pub digits_at : List ℕ → ℕ → ℕ → Digits
digits_at l at most = digits_of (window l at (cond (ltb 10 most) 10 most))

-- a number from 1 to the limit, which is below 100,000: "Only literals and indexes may have leading zeros"
unfoldable pub number_at : List ℕ → ℕ → ℕ → Option (ℕ × ℕ)
number_at l at limit =
    cond (byte_is l at "0") None
    (cond (eqb (digits_at l at 5).count 0) None
    (cond (leb (digits_at l at 5).value limit) (Some ((digits_at l at 5).value, at + (digits_at l at 5).count))
    None))
