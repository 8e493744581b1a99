-- What the calls for tests are handed as codes, and what they hand back.
use Rattle.numbers.specs.declared.ArithmeticError.{ArithmeticError}
use Rattle.std.specs.Prelude.{◌≡◌, Bool, true, false, cond, ℕ, eqb, ℤ, Option, Some, None, Err, Ok, Result}
use Rattle.numbers.specs.declared.Quantity.{Quantity}
use Rattle.numbers.specs.declared.Quantity.TheVariants.{Integer, Decimal}
use Rattle.numbers.specs.Range.{integer_limit, decimal_limit}
use Rattle.numbers.specs.Result.{result_number}
use Rattle.numbers.specs.Arithmetic.{sum_of, difference_of, integer_product, integer_quotient, decimal_product, decimal_quotient, absolute_of, in_millionths}
use Rattle.numbers.specs.Order.{less_than, at_most, equal_to}

-- the calculation of a code: add, subtract, multiply, and divide for any other
unfoldable pub on_integers : ℕ → ℤ → ℤ → Result ℤ ArithmeticError
on_integers n a b =
    cond (eqb n 0) (sum_of integer_limit a b)
    (cond (eqb n 1) (difference_of integer_limit a b)
    (cond (eqb n 2) (integer_product a b)
    (integer_quotient a b)))

unfoldable pub on_decimals : ℕ → ℤ → ℤ → Result ℤ ArithmeticError
on_decimals n a b =
    cond (eqb n 0) (sum_of decimal_limit a b)
    (cond (eqb n 1) (difference_of decimal_limit a b)
    (cond (eqb n 2) (decimal_product a b)
    (decimal_quotient a b)))

-- the magnitude of an integer, of a decimal, and an integer as a decimal for any other code
unfoldable pub on_one : ℕ → ℤ → Result ℤ ArithmeticError
on_one n a =
    cond (eqb n 0) (absolute_of integer_limit a)
    (cond (eqb n 1) (absolute_of decimal_limit a)
    (in_millionths a))

-- the kinds of 01: 0x49 is an integer; any other code is taken for a decimal
unfoldable pub quantity_of : ℕ → ℤ → Quantity
quantity_of kind n = cond (eqb kind 73) (Integer n) (Decimal n)

-- less, at most, and equal for any other code
unfoldable pub compared_by : ℕ → Quantity → Quantity → Bool
compared_by n p q =
    cond (eqb n 0) (less_than p q)
    (cond (eqb n 1) (at_most p q)
    (equal_to p q))

-- `{argument,w.d}` or `{argument,w}`
abbrev pub places_said : Bool → ℕ → Option ℕ
places_said true d = Some d
places_said false d = None

-- the value of a success, else what was there
abbrev pub value_or : ℤ → Result ℤ ArithmeticError → ℤ
value_or v (Ok z) = z
value_or v (Err n) = v

-- r is the number, and v' what is left where v was
pub record ToldResult (o : Result ℤ ArithmeticError) (v v' : ℤ) (r : ℕ) : Type 0 where
  pub number : r ≡ result_number o
  pub value : v' ≡ value_or v o

-- whether there are units, and the units, else what was there
abbrev pub has_units : Option ℕ → Bool
has_units (Some u) = true
has_units None = false

abbrev pub units_or : ℕ → Option ℕ → ℕ
units_or n (Some u) = u
units_or n None = n

pub record ToldUnits (o : Option ℕ) (n n' : ℕ) (r : Bool) : Type 0 where
  pub told : r ≡ has_units o
  pub units : n' ≡ units_or n o
