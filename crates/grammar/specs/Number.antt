-- How numbers and indexes are spelled: each constructor is a form of document 01, with its bytes.
use Rattle.std.specs.Prelude.{◌≡◌, Bool, true, false, List, [], ◌∷◌, ◌++◌, ℕ, ◌+◌, ◌-◌, ◌*◌, ◌^◌, ◌≤◌, length}
use Prim.Native.Char.{code}
use Rattle.numbers.specs.declared.Quantity.{Quantity}
use Rattle.numbers.specs.declared.Quantity.TheVariants.{Integer, Decimal}
use Rattle.numbers.specs.Sign.{signed}
use Rattle.numbers.specs.Range.{integer_limit, decimal_limit}
use Rattle.scan.specs.declared.run.Class.{Class}
use Rattle.scan.specs.declared.run.Class.TheVariants.{Digit}
use Rattle.scan.specs.Ascii.{ascii}
use Rattle.scan.specs.Run.{belongs}
use Rattle.scan.specs.Line.{byte_at}
use Rattle.scan.specs.Value.{value_of}
use Rattle.arguments.specs.declared.index.Index.{Index}
use Rattle.arguments.specs.declared.index.Index.TheVariants.{Fixed, Variable, Loop}

abbrev pub point : ℕ
point = code "."

-- every byte is of the class: a digit, a byte of a name, a byte of a string
unfoldable pub All : Class → List ℕ → Type 0
All class [] = Unit {0}
All class (b ∷ s) = (belongs class b ≡ true) × All class s

-- so many bytes of a class, from the least to the most
pub record Several (class : Class) (least most : ℕ) (s : List ℕ) : Type 0 where
  pub all : All class s
  pub enough : least ≤ length s
  pub few : length s ≤ most

-- the digits of n, from 1 to a limit: "Only literals and indexes may have leading zeros"
pub record Numbered (limit n : ℕ) (s : List ℕ) : Type 0 where
  pub digits : All Digit s
  pub leading : byte_at s 0 ≡ code "0" → ⊥
  pub least : 1 ≤ n
  pub most : n ≤ limit
  pub value : value_of s ≡ n

-- "optional `-`"
abbrev pub sign : Bool → List ℕ
sign true = ascii "-"
sign false = []

-- the digits before the point and those behind it, in millionths
abbrev pub millionths_spelled : List ℕ → List ℕ → ℕ
millionths_spelled whole fraction = value_of whole * 1000000 + value_of fraction * 10 ^ (6 - length fraction)

-- "an integer (optional `-`, 1–10 digits); a decimal (the same, a point, 1–6 digits)"; 3: "a number literal exceeds
-- ±2,000,000,000"
pub data LiteralSpelled : Quantity → List ℕ → Type 0 where
  integer_literal : (negative : Bool) (whole : List ℕ) → Several Digit 1 10 whole → value_of whole ≤ integer_limit → LiteralSpelled (Integer (signed negative (value_of whole))) (sign negative ++ whole)
  decimal_literal : (negative : Bool) (whole fraction : List ℕ) → Several Digit 1 10 whole → Several Digit 1 6 fraction → millionths_spelled whole fraction ≤ decimal_limit → LiteralSpelled (Decimal (signed negative (millionths_spelled whole fraction))) (sign negative ++ (whole ++ (point ∷ fraction)))

-- "An index .. is 1–3 digits, IVn or LOOP"
pub data IndexSpelled : Index → List ℕ → Type 0 where
  fixed_index : (s : List ℕ) → Several Digit 1 3 s → IndexSpelled (Fixed (value_of s)) s
  variable_as_index : (n : ℕ) (s : List ℕ) → Numbered 99 n s → IndexSpelled (Variable n) (ascii "IV" ++ s)
  loop_index : IndexSpelled Loop (ascii "LOOP")
