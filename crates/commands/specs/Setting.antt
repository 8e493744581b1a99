-- $SETE, $SETA, $SETS, $SETM, $SETD.
use Rattle.numbers.specs.declared.ArithmeticError.{ArithmeticError}
use Rattle.std.specs.Prelude.{List, ℕ, ℤ, pos, take, Ok, Result}
use Rattle.meaning.specs.Meaning.{Meaning}
use Rattle.numbers.specs.Range.{integer_limit, decimal_limit}
use Rattle.numbers.specs.Arithmetic.{sum_of, difference_of, integer_product, integer_quotient, decimal_product, decimal_quotient}
use Rattle.arguments.specs.declared.argument.Argument.{Argument}
use Rattle.lines.specs.declared.command.Operation.{Operation}
use Rattle.lines.specs.declared.command.Operation.TheVariants.{Assign, Add, Subtract, Multiply, Divide}
use Rattle.lines.specs.declared.command.Target.{Target}
use Rattle.lines.specs.declared.command.Target.TheVariants.{IntegerTarget, DecimalTarget, StringTarget}
use Rattle.values.specs.Machine.{Variables, Machine, numbered, set_numbered}
use Rattle.values.specs.Worth.{Worth}
use Rattle.commands.specs.Settling.{Settled, and_then, from_one, integer_from, decimal_from, string_from, result_of}

-- "set, add, subtract, multiply, divide"; "IV takes an integer and divides toward zero"
unfoldable pub integer_result : Operation → ℤ → ℤ → Result ℤ ArithmeticError
integer_result Assign a b = Ok b
integer_result Add a b = sum_of integer_limit a b
integer_result Subtract a b = difference_of integer_limit a b
integer_result Multiply a b = integer_product a b
integer_result Divide a b = integer_quotient a b

-- "products and quotients are rounded to the nearest millionth, halves away from zero, then checked for range"
unfoldable pub decimal_result : Operation → ℤ → ℤ → Result ℤ ArithmeticError
decimal_result Assign a b = Ok b
decimal_result Add a b = sum_of decimal_limit a b
decimal_result Subtract a b = difference_of decimal_limit a b
decimal_result Multiply a b = decimal_product a b
decimal_result Divide a b = decimal_quotient a b

-- a result as the n-th variable
unfoldable pub as_variable : {A : Type 0} → List A → ℕ → Settled A → Settled (List A)
as_variable vs n x = and_then x (λ z. Ok (set_numbered vs n z))

-- what is taken from a value, and what an operation makes of it
unfoldable pub new_from : (Worth → Settled ℤ) → (ℤ → Result ℤ ArithmeticError) → Worth → Settled ℤ
new_from from operation w = and_then (from w) (λ b. result_of (operation b))

-- what IVn and FVn become that are a now
abbrev pub integer_new : Operation → ℤ → Worth → Settled ℤ
integer_new o a = new_from integer_from (integer_result o a)

abbrev pub decimal_new : Operation → ℤ → Worth → Settled ℤ
decimal_new o a = new_from decimal_from (decimal_result o a)

-- "SV takes a string"; "SV1–SV99 hold up to 16 bytes each". No string of a run has more, so none is cut (control/proofs/Ranges:string_whole).
unfoldable pub string_new : Worth → Settled (List ℕ)
string_new w = and_then (string_from w) (λ s. Ok (take 16 s))

abbrev pub with_integers : Variables → List ℤ → Variables
with_integers v l = record { integers = l; decimals = v.decimals; strings = v.strings; records = v.records; entries = v.entries }

abbrev pub with_decimals : Variables → List ℤ → Variables
with_decimals v l = record { integers = v.integers; decimals = l; strings = v.strings; records = v.records; entries = v.entries }

abbrev pub with_strings : Variables → List (List ℕ) → Variables
with_strings v l = record { integers = v.integers; decimals = v.decimals; strings = l; records = v.records; entries = v.entries }

-- a string's word is $SETE: "after another word than $SETE it is 3"
unfoldable pub set_of : Variables → Operation → Target → Worth → Settled Variables
set_of v o (IntegerTarget n) w =
    and_then (as_variable v.integers n (integer_new o (numbered (pos 0) v.integers n) w)) (λ l. Ok (with_integers v l))
set_of v o (DecimalTarget n) w =
    and_then (as_variable v.decimals n (decimal_new o (numbered (pos 0) v.decimals n) w)) (λ l. Ok (with_decimals v l))
set_of v o (StringTarget n) w = and_then (as_variable v.strings n (string_new w)) (λ l. Ok (with_strings v l))

-- the line s, whose number is `line`
unfoldable pub set_meaning : Machine → List ℕ → ℕ → Operation → Target → Argument → Meaning Variables
set_meaning m s line o t a = from_one m s line a (set_of m.variables o t)
