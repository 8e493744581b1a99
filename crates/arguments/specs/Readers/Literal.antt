-- Integers and decimals.
use Rattle.std.specs.Prelude.{Bool, true, false, cond, List, ℕ, ◌+◌, ◌-◌, ◌*◌, ◌^◌, ltb, eqb, Option, Some, None}
use Rattle.numbers.specs.declared.Quantity.{Quantity}
use Rattle.numbers.specs.declared.Quantity.TheVariants.{Integer, Decimal}
use Rattle.numbers.specs.Sign.{signed}
use Rattle.numbers.specs.Range.{integer_limit, decimal_limit}
use Rattle.scan.specs.declared.digits.Digits.{Digits}
use Rattle.scan.specs.Line.{byte_is}
use Rattle.scan.specs.Readers.Digits.{digits_at}

-- a whole number and the digits behind its point, at most six, in millionths
unfoldable pub in_millionths : ℕ → Digits → ℕ
in_millionths whole fraction = whole * 1000000 + fraction.value * 10 ^ (6 - fraction.count)

-- "a point, 1–6 digits", and "a number literal exceeds ±2,000,000,000"
unfoldable pub fraction_at : List ℕ → ℕ → Bool → ℕ → Option (Quantity × ℕ)
fraction_at l at negative whole =
    cond (eqb (digits_at l at 6).count 0) None
    (cond (ltb decimal_limit (in_millionths whole (digits_at l at 6))) None
    (Some (Decimal (signed negative (in_millionths whole (digits_at l at 6))), at + (digits_at l at 6).count)))

-- "1–10 digits", a point behind them making it a decimal
unfoldable pub unsigned_at : List ℕ → ℕ → Bool → Option (Quantity × ℕ)
unsigned_at l at negative =
    cond (eqb (digits_at l at 10).count 0) None
    (cond (byte_is l (at + (digits_at l at 10).count) ".")
    (fraction_at l (at + (digits_at l at 10).count + 1) negative (digits_at l at 10).value)
    (cond (ltb integer_limit (digits_at l at 10).value) None
    (Some (Integer (signed negative (digits_at l at 10).value), at + (digits_at l at 10).count))))

-- "an integer (optional `-`, 1–10 digits); a decimal (the same, a point, 1–6 digits)"
unfoldable pub literal_at : List ℕ → ℕ → Option (Quantity × ℕ)
literal_at l at = cond (byte_is l at "-") (unsigned_at l (at + 1) true) (unsigned_at l at false)
