-- What it is for an argument to lie within the limits of document 01, form by form.
use mathlib.Core.Path.{◌≡◌}
use mathlib.Core.Bool.{true}
use mathlib.Core.List.{List}
use Prim.Native.Nat.{ℕ, ◌+◌, ◌≤◌}
use lib.IntN.{nat_abs}
use lib.ListN.{length}
use Rattle.numbers.specs.declared.Quantity.{Quantity}
use Rattle.numbers.specs.declared.Quantity.TheVariants.{Integer, Decimal}
use Rattle.numbers.specs.Range.{integer_limit, decimal_limit}
use Rattle.arguments.specs.declared.index.Index.{Index}
use Rattle.arguments.specs.declared.index.Index.TheVariants.{Fixed, Variable, Loop}
use Rattle.arguments.specs.declared.operand.Operand.{Operand}
use Rattle.arguments.specs.declared.operand.Operand.TheVariants.{NumberLiteral, StringLiteral, IntegerVariable, DecimalVariable, StringVariable, PageNumber, LineNumber, LoopCounter, RecordElement, EntryElement, Parameter, Record, Entry}
use Rattle.arguments.specs.declared.argument.Argument.{Argument}
use Rattle.arguments.specs.Admitted.{count_of, admits}

pub record Between (low high n : ℕ) : Type 0 where
  pub least : low ≤ n
  pub most : n ≤ high

-- "Values lie within ±2,000,000,000, so within ±2×10^15 millionths"
abbrev pub QuantityWithin : Quantity → Type 0
QuantityWithin (Integer z) = nat_abs z ≤ integer_limit
QuantityWithin (Decimal z) = nat_abs z ≤ decimal_limit

-- "An index .. is 1–3 digits, IVn or LOOP"
abbrev pub IndexWithin : Index → Type 0
IndexWithin (Fixed n) = n ≤ 999
IndexWithin (Variable n) = Between 1 99 n
IndexWithin Loop = Unit {0}

-- "a string in double quotes, 0–16 bytes", from its first byte in the line to the place behind its last
pub record StringWithin (l : List ℕ) (start end : ℕ) : Type 0 where
  pub ordered : start ≤ end
  pub inside : end ≤ length l
  pub short : end ≤ start + 16

-- "IVn, FVn, SVn (n 1–99); PAGENUM; LINENUM; LOOP; Rn, Tn (n 1–10); a cell Pn, Pn.r or Pn.r.e, n 1–65,535"
abbrev pub OperandWithin : List ℕ → Operand → Type 0
OperandWithin l (NumberLiteral q) = QuantityWithin q
OperandWithin l (StringLiteral start end) = StringWithin l start end
OperandWithin l (IntegerVariable n) = Between 1 99 n
OperandWithin l (DecimalVariable n) = Between 1 99 n
OperandWithin l (StringVariable n) = Between 1 99 n
OperandWithin l PageNumber = Unit {0}
OperandWithin l LineNumber = Unit {0}
OperandWithin l LoopCounter = Unit {0}
OperandWithin l (RecordElement n) = Between 1 10 n
OperandWithin l (EntryElement n) = Between 1 10 n
OperandWithin l (Parameter n) = Between 1 65535 n
OperandWithin l (Record n r) = Between 1 65535 n × IndexWithin r
OperandWithin l (Entry n r e) = Between 1 65535 n × IndexWithin r × IndexWithin e

-- "RECCNT and ENTCNT elsewhere are 3. Other filters may stand after any argument"
pub record ArgumentWithin (l : List ℕ) (a : Argument) : Type 0 where
  pub operand : OperandWithin l a.operand
  pub filter : admits a.filter (count_of a.operand) ≡ true

-- how many questions an operand asks: a cell one
abbrev pub questions_of : Operand → ℕ
questions_of (NumberLiteral q) = 0
questions_of (StringLiteral start end) = 0
questions_of (IntegerVariable n) = 0
questions_of (DecimalVariable n) = 0
questions_of (StringVariable n) = 0
questions_of PageNumber = 0
questions_of LineNumber = 0
questions_of LoopCounter = 0
questions_of (RecordElement n) = 0
questions_of (EntryElement n) = 0
questions_of (Parameter n) = 1
questions_of (Record n r) = 1
questions_of (Entry n r e) = 1
