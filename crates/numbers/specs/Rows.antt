-- Halves of either sign and the ends of the range: antt computes each. The rows of document 01 itself stand in
-- report/specs/Rows, as whole templates.
use Rattle.std.specs.Prelude.{◌≡◌, refl, List, [], ◌∷◌, map, ℕ, ℤ, pos, neg_ℤ, Result, Ok, Err}
use Rattle.numbers.specs.Sign.{opposed}
use Rattle.numbers.specs.Range.{integer_limit, decimal_limit, within}
use Rattle.numbers.specs.declared.ArithmeticError.{ArithmeticError}
use Rattle.numbers.specs.declared.ArithmeticError.TheVariants.{ZeroDivisor, OutOfRange}
use Rattle.numbers.specs.Rounding.{rounded}
use Rattle.numbers.specs.Arithmetic.{checked, operands, divided_by, sum_of, difference_of, integer_product, integer_quotient, decimal_product, decimal_quotient, absolute_of, in_millionths}

-- what a definition computes, and what is expected
pub record Row : Type 0 where
  pub computed : Result ℤ ArithmeticError
  pub expected : Result ℤ ArithmeticError

infix 70 ◌gives◌
abbrev ◌gives◌ : Result ℤ ArithmeticError → Result ℤ ArithmeticError → Row
c gives e = record { computed = c; expected = e }

abbrev negated : ℕ → ℤ
negated n = neg_ℤ (pos n)

unfoldable pub rows : List Row
rows =
    -- −0.000001 × 0.5
    decimal_product (negated 1) (pos 500000) gives Ok (negated 1)
    -- just below a half
    ∷ decimal_product (pos 1) (pos 499999) gives Ok (pos 0)
    -- 2 ÷ −3
    ∷ decimal_quotient (pos 2000000) (negated 3000000) gives Ok (negated 666667)
    -- IV 7 ÷ −2
    ∷ integer_quotient (pos 7) (negated 2) gives Ok (negated 3)
    -- 2,000,000,000 × 2 in both kinds
    ∷ integer_product (negated 2000000000) (pos 2) gives Err OutOfRange
    ∷ decimal_product (pos 2000000000000000) (pos 2000000) gives Err OutOfRange
    -- a millionth divided by 2 and by −2 is a half, away from zero
    ∷ decimal_quotient (pos 1) (pos 2000000) gives Ok (pos 1)
    ∷ decimal_quotient (pos 1) (negated 2000000) gives Ok (negated 1)
    -- the ends of the range
    ∷ integer_quotient (negated 2000000000) (negated 1) gives Ok (pos 2000000000)
    ∷ decimal_product (pos 2000000000000000) (pos 1000000) gives Ok (pos 2000000000000000)
    ∷ decimal_product (pos 2000000000000000) (pos 1000001) gives Err OutOfRange
    -- 1,999,998,000.002 × 1.000001 is past the limit only before it is rounded
    ∷ decimal_product (pos 1999998000002000) (pos 1000001) gives Ok (pos 2000000000000000)
    -- sums, differences and the rest, at the ends
    ∷ sum_of integer_limit (negated 2000000000) (pos 1) gives Ok (negated 1999999999)
    ∷ sum_of integer_limit (pos 2000000000) (pos 1) gives Err OutOfRange
    ∷ difference_of decimal_limit (negated 2000000000000000) (pos 1) gives Err OutOfRange
    ∷ absolute_of integer_limit (negated 2000000000) gives Ok (pos 2000000000)
    ∷ in_millionths (negated 2000000000) gives Ok (negated 2000000000000000)
    -- zero divisors, in both kinds, and after an operand that is out of range
    ∷ integer_quotient (pos 1) (pos 0) gives Err ZeroDivisor
    ∷ decimal_quotient (pos 0) (pos 0) gives Err ZeroDivisor
    ∷ integer_quotient (pos 2000000001) (pos 0) gives Err OutOfRange
    ∷ []

pub rows_hold : map (λ (r : Row). r.computed) rows ≡ map (λ (r : Row). r.expected) rows
unfolding rows opposed within rounded checked operands divided_by sum_of difference_of integer_product integer_quotient decimal_product decimal_quotient absolute_of in_millionths
rows_hold = refl
