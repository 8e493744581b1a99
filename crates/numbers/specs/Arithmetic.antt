-- "set, add, subtract, multiply, divide".
use Rattle.std.specs.Prelude.{ℕ, ◌*◌, cond, ◌&&◌, eqb, ℤ, pos, nat_abs, ◌+ℤ◌, ◌-ℤ◌, ◌*ℤ◌, Result, Ok, Err}
use Rattle.std.specs.Int.Signed.{quot_z}
use Rattle.numbers.specs.declared.Quantity.TheVariants.{Integer}
use Rattle.numbers.specs.Sign.{signed, opposed}
use Rattle.numbers.specs.Range.{integer_limit, decimal_limit, within, millionths}
use Rattle.numbers.specs.declared.ArithmeticError.{ArithmeticError}
use Rattle.numbers.specs.declared.ArithmeticError.TheVariants.{ZeroDivisor, OutOfRange}
use Rattle.numbers.specs.Rounding.{rounded}

-- "A result is out of range"
unfoldable pub checked : ℕ → ℤ → Result ℤ ArithmeticError
checked limit z = cond (within limit z) (Ok z) (Err OutOfRange)

-- variables and cells hold values in range; of any other operand a result is refused too
unfoldable pub operands : ℕ → ℤ → ℤ → Result ℤ ArithmeticError → Result ℤ ArithmeticError
operands limit a b o = cond (within limit a && within limit b) o (Err OutOfRange)

-- "The divisor is zero"
unfoldable pub divided_by : ℤ → Result ℤ ArithmeticError → Result ℤ ArithmeticError
divided_by b o = cond (eqb (nat_abs b) 0) (Err ZeroDivisor) o

-- of integers and, with their limit, of decimals
unfoldable pub sum_of : ℕ → ℤ → ℤ → Result ℤ ArithmeticError
sum_of limit a b = operands limit a b (checked limit (a +ℤ b))

unfoldable pub difference_of : ℕ → ℤ → ℤ → Result ℤ ArithmeticError
difference_of limit a b = operands limit a b (checked limit (a -ℤ b))

-- "set, add, subtract, multiply, divide": a product of integers
unfoldable pub integer_product : ℤ → ℤ → Result ℤ ArithmeticError
integer_product a b = operands integer_limit a b (checked integer_limit (a *ℤ b))

-- "IV takes an integer and divides toward zero"
unfoldable pub integer_quotient : ℤ → ℤ → Result ℤ ArithmeticError
integer_quotient a b = operands integer_limit a b (divided_by b (checked integer_limit (quot_z a b)))

-- "products and quotients are rounded to the nearest millionth, halves away from zero, then checked for range"
unfoldable pub decimal_product : ℤ → ℤ → Result ℤ ArithmeticError
decimal_product a b =
    operands decimal_limit a b (checked decimal_limit (signed (opposed a b) (rounded (nat_abs a * nat_abs b) 1000000)))

unfoldable pub decimal_quotient : ℤ → ℤ → Result ℤ ArithmeticError
decimal_quotient a b =
    operands decimal_limit a b (divided_by b (checked decimal_limit (signed (opposed a b) (rounded (nat_abs a * 1000000) (nat_abs b)))))

-- "|ABS"
unfoldable pub absolute_of : ℕ → ℤ → Result ℤ ArithmeticError
absolute_of limit z = checked limit (pos (nat_abs z))

-- an integer where a decimal is taken
unfoldable pub in_millionths : ℤ → Result ℤ ArithmeticError
in_millionths n = checked decimal_limit (millionths (Integer n))
