-- How a calculation ends, by the numbers that a run can end with.
use Rattle.std.specs.Prelude.{ℕ, ℤ, Result, Ok, Err}
use Rattle.numbers.specs.declared.ArithmeticError.{ArithmeticError}
use Rattle.numbers.specs.declared.ArithmeticError.TheVariants.{ZeroDivisor, OutOfRange}

-- "0 is success", "12. The divisor is zero. 13. A result is out of range"
abbrev pub result_number : Result ℤ ArithmeticError → ℕ
result_number (Ok z) = 0
result_number (Err ZeroDivisor) = 12
result_number (Err OutOfRange) = 13
