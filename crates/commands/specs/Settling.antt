-- What follows from the values of a command's arguments: a result, or why the line is refused.
use Rattle.std.specs.Prelude.{List, ℕ, ℤ, Result, Ok, Err}
use Rattle.meaning.specs.Tree.{done, stop, bind}
use Rattle.meaning.specs.Meaning.{Meaning}
use Rattle.meaning.specs.Number.{refusal_of}
use Rattle.meaning.specs.declared.refusal.Refusal.{Refusal}
use Rattle.meaning.specs.declared.refusal.Refusal.TheVariants.{MissingArgument, WrongKind}
use Rattle.numbers.specs.declared.Quantity.{Quantity}
use Rattle.numbers.specs.declared.Quantity.TheVariants.{Integer, Decimal}
use Rattle.numbers.specs.declared.ArithmeticError.{ArithmeticError}
use Rattle.numbers.specs.Arithmetic.{in_millionths}
use Rattle.arguments.specs.declared.argument.Argument.{Argument}
use Rattle.values.specs.Machine.{Machine}
use Rattle.values.specs.Worth.{Worth, missing, wrong, number, string}
use Rattle.values.specs.Meanings.{argument_meaning}

-- a result, or what the line is refused for
abbrev pub Settled : Type 0 → Type 0
Settled A = Result A Refusal

abbrev pub and_then : {A B : Type 0} → Settled A → (A → Settled B) → Settled B
and_then (Ok a) f = f a
and_then (Err e) f = Err e

-- behind the arguments' 8 and 9: "then 10 to 14"
abbrev pub concluded : {A : Type 0} → ℕ → Settled A → Meaning A
concluded line (Ok a) = done a
concluded line (Err e) = stop e line

-- 10: "A command's argument is missing." 11: "A value has the wrong kind."
unfoldable pub integer_from : Worth → Settled ℤ
integer_from missing = Err MissingArgument
integer_from wrong = Err WrongKind
integer_from (number (Integer z)) = Ok z
integer_from (number (Decimal z)) = Err WrongKind
integer_from (string s) = Err WrongKind

unfoldable pub quantity_from : Worth → Settled Quantity
quantity_from missing = Err MissingArgument
quantity_from wrong = Err WrongKind
quantity_from (number q) = Ok q
quantity_from (string s) = Err WrongKind

unfoldable pub string_from : Worth → Settled (List ℕ)
string_from missing = Err MissingArgument
string_from wrong = Err WrongKind
string_from (number q) = Err WrongKind
string_from (string s) = Ok s

-- 12: "The divisor is zero." 13: "A result is out of range"
unfoldable pub result_of : Result ℤ ArithmeticError → Settled ℤ
result_of (Ok z) = Ok z
result_of (Err e) = Err (refusal_of e)

-- a number where a decimal is taken
unfoldable pub millionths_of : Quantity → Settled ℤ
millionths_of (Integer n) = result_of (in_millionths n)
millionths_of (Decimal m) = Ok m

-- "FV takes a number"
unfoldable pub decimal_from : Worth → Settled ℤ
decimal_from w = and_then (quantity_from w) millionths_of

-- "Within a line: arguments left to right, 8 then 9 each; then 10 to 14": what follows from the value of one argument of the
-- line s, whose number is `line`, and from the values of two
abbrev pub from_one : {A : Type 0} → Machine → List ℕ → ℕ → Argument → (Worth → Settled A) → Meaning A
from_one m s line a f = bind (argument_meaning m s line a) (λ v. concluded line (f v))

abbrev pub from_two : {A : Type 0} → Machine → List ℕ → ℕ → Argument → Argument → (Worth → Worth → Settled A) → Meaning A
from_two m s line a b f = bind (argument_meaning m s line a) (λ v. from_one m s line b (f v))

-- "$BT, $ET and $NP take integers"
unfoldable pub integer_meaning : Machine → List ℕ → ℕ → Argument → Meaning ℤ
integer_meaning m s line a = from_one m s line a integer_from
