-- What was parsed lies within its limits, and takes some bytes of its line.
use Rattle.std.specs.Prelude.{Option, Some, None}
use Rattle.numbers.specs.declared.Quantity.{Quantity}
use mathlib.Core.Path.{◌≡◌, refl, subst}
use mathlib.Core.Bool.{Bool, true, false}
use mathlib.Core.List.{List}
use Prim.Native.Nat.{ℕ, ◌+◌, ◌≤◌, ◌<◌}
use native.Mathlib.Omega.{arith}
use borrow.Author.Tests.{eqb-true, eqb-false, ltb-false}
use lib.Dec.{ltb, eqb}
use lib.ListN.{drop, length-take}
use Rattle.numbers.specs.Range.{integer_limit, decimal_limit}
use Rattle.numbers.proofs.Machine.{abs_signed}
use Rattle.scan.specs.declared.run.Class.TheVariants.{InString}
use Rattle.scan.specs.Ascii.{ascii}
use Rattle.scan.specs.Line.{byte_at, byte_is, window}
use Rattle.scan.specs.Readers.Digits.{digits_at, number_at}
use Rattle.scan.specs.Words.{stands_at, first_of}
use Rattle.scan.proofs.TestLaws.{picked, tested}
use Rattle.scan.proofs.DigitLaws.{digits_power}
use Rattle.scan.proofs.NumberLaws.{Counts, Within, number_within}
use Rattle.scan.proofs.RunLaws.{length_span, byte_within}
use Rattle.arguments.specs.declared.index.Index.{Index}
use Rattle.arguments.specs.declared.operand.Operand.{Operand}
use Rattle.arguments.specs.declared.operand.Operand.TheVariants.{NumberLiteral, StringLiteral, IntegerVariable, DecimalVariable, StringVariable, PageNumber, LineNumber, LoopCounter, RecordElement, EntryElement, Parameter, Record, Entry}
use Rattle.arguments.specs.declared.argument.Filter.{Filter}
use Rattle.arguments.specs.declared.argument.Filter.TheVariants.{Absolute, Truncated, UpperCase, Length, RecordCount, EntryCount}
use Rattle.arguments.specs.declared.argument.Argument.{Argument}
use Rattle.arguments.specs.Readers.Literal.{in_millionths, fraction_at, unsigned_at, literal_at}
use Rattle.arguments.specs.Readers.Index.{loop_word, variable_word, variable_index, index_at}
use Rattle.arguments.specs.Readers.Operand.{string_end, string_at, entry_of, record_read_of, cell_of, cell_at, whole_at, numbered_of, numbered_at, names, named_at, number_or, operand_at}
use Rattle.arguments.specs.Admitted.{count_of, admits}
use Rattle.arguments.specs.Readers.Argument.{filtered_at, filters, argument_of, argument_at}
use Rattle.arguments.specs.Inner.Parameter.{parameter_of}
pub use Rattle.arguments.proofs.Bounds.{Between, QuantityWithin, IndexWithin, StringWithin, OperandWithin, ArgumentWithin, questions_of}

-- what is read from `from` on lies within its limits and moves on
abbrev LiteralFine : ℕ → Option (Quantity × ℕ) → Type 0
LiteralFine from (Some (q, next)) = QuantityWithin q × (from < next)
LiteralFine from None = Unit {0}

abbrev IndexFine : ℕ → Option (Index × ℕ) → Type 0
IndexFine from (Some (i, next)) = IndexWithin i × (from < next)
IndexFine from None = Unit {0}

abbrev OperandFine : List ℕ → ℕ → Option (Operand × ℕ) → Type 0
OperandFine l from (Some (o, next)) = OperandWithin l o × (from + 1 + questions_of o ≤ next)
OperandFine l from None = Unit {0}

abbrev ArgumentFine : List ℕ → ℕ → Option (Argument × ℕ) → Type 0
ArgumentFine l from (Some (a, next)) = ArgumentWithin l a × (from + 1 + questions_of a.operand ≤ next)
ArgumentFine l from None = Unit {0}

-- ---- literals

fraction_fine : (l : List ℕ) (from at : ℕ) (negative : Bool) (whole : ℕ) → from ≤ at → LiteralFine from (fraction_at l at negative whole)
unfolding fraction_at
fraction_fine l from at negative whole h =
    tested (LiteralFine from) (eqb (digits_at l at 6).count 0) (λ e. tt) (λ e.
    tested (LiteralFine from) (ltb decimal_limit (in_millionths whole (digits_at l at 6))) (λ f. tt) (λ f.
    let some = eqb-false (digits_at l at 6).count 0 e in
    (rw (abs_signed negative (in_millionths whole (digits_at l at 6))) (ltb-false decimal_limit (in_millionths whole (digits_at l at 6)) f), omega (arith, some))))

unsigned_fine : (l : List ℕ) (from at : ℕ) (negative : Bool) → from ≤ at → LiteralFine from (unsigned_at l at negative)
unfolding unsigned_at
unsigned_fine l from at negative h =
    tested (LiteralFine from) (eqb (digits_at l at 10).count 0) (λ e. tt) (λ e.
    picked (LiteralFine from) (eqb (byte_at l (at + (digits_at l at 10).count)) 46)
    (fraction_fine l from (at + (digits_at l at 10).count + 1) negative (digits_at l at 10).value (omega arith))
    (tested (LiteralFine from) (ltb integer_limit (digits_at l at 10).value) (λ f. tt) (λ f.
    let some = eqb-false (digits_at l at 10).count 0 e in
    (rw (abs_signed negative (digits_at l at 10).value) (ltb-false integer_limit (digits_at l at 10).value f), omega (arith, some)))))

literal_fine : (l : List ℕ) (at : ℕ) → LiteralFine at (literal_at l at)
unfolding literal_at
literal_fine l at =
    picked (LiteralFine at) (byte_is l at "-") (unsigned_fine l at (at + 1) true (omega arith)) (unsigned_fine l at at false (omega arith))

-- ---- indexes

variable_fine : (from at : ℕ) (x : Option (ℕ × ℕ)) → from ≤ at → Within 99 at x → IndexFine from (variable_index x)
unfolding variable_index
variable_fine from at (Some (n, next)) h k = (record { least = k.least; most = k.most }, omega (arith, k.onward))
variable_fine from at None h k = tt

index_fine : (l : List ℕ) (at : ℕ) → IndexFine at (index_at l at)
unfolding index_at
index_fine l at =
    tested (IndexFine at) (eqb (digits_at l at 3).count 0)
    (λ e. picked (IndexFine at) (stands_at loop_word l at) (tt, omega arith)
    (picked (IndexFine at) (stands_at variable_word l at) (variable_fine at (at + 2) (number_at l (at + 2) 99) (omega arith) (number_within l (at + 2) 99)) tt))
    (λ e. let some = eqb-false (digits_at l at 3).count 0 e in
    (omega (arith, digits_power l at 3 (omega arith)), omega (arith, some)))

-- "An index .. is 1–3 digits, IVn or LOOP"
pub index_bounded : (l : List ℕ) (at : ℕ) (i : Index) (next : ℕ) → index_at l at ≡ Some (i, next) → IndexWithin i
index_bounded l at i next e = (subst (IndexFine at) e (index_fine l at)).0

-- ---- cells

entry_fine : (l : List ℕ) (from at n : ℕ) (r : Index) (x : Option (Index × ℕ)) → from + 2 ≤ at → Between 1 65535 n → IndexWithin r → IndexFine at x → OperandFine l from (entry_of n r x)
unfolding entry_of
entry_fine l from at n r (Some (e, next)) h b i k = ((b, i, k.0), omega (arith, k.1))
entry_fine l from at n r None h b i k = tt

record_fine : (l : List ℕ) (from at n : ℕ) (x : Option (Index × ℕ)) → from + 2 ≤ at → Between 1 65535 n → IndexFine at x → OperandFine l from (record_read_of l n x)
unfolding record_read_of
record_fine l from at n (Some (r, next)) h b k =
    picked (OperandFine l from) (byte_is l next ".") (entry_fine l from (next + 1) n r (index_at l (next + 1)) (omega (arith, k.1)) b k.0 (index_fine l (next + 1))) ((b, k.0), omega (arith, k.1))
record_fine l from at n None h b k = tt

cell_fine : (l : List ℕ) (from at : ℕ) (x : Option (ℕ × ℕ)) → from + 1 ≤ at → Within 65535 at x → OperandFine l from (cell_of l x)
unfolding cell_of
cell_fine l from at (Some (n, next)) h k =
    let b : Between 1 65535 n = record { least = k.least; most = k.most } in
    picked (OperandFine l from) (byte_is l next ".") (record_fine l from (next + 1) n (index_at l (next + 1)) (omega (arith, k.onward)) b (index_fine l (next + 1))) (b, omega (arith, k.onward))
cell_fine l from at None h k = tt

-- ---- the other operands

numbered_fine : (l : List ℕ) (from at limit : ℕ) (form : ℕ → Operand) (x : Option (ℕ × ℕ)) → from ≤ at → ((n next : ℕ) → Counts limit at n next → OperandFine l from (Some (form n, next))) → Within limit at x → OperandFine l from (numbered_of form x)
unfolding numbered_of
numbered_fine l from at limit form (Some (n, next)) h f k = f n next k
numbered_fine l from at limit form None h f k = tt

module _ (l : List ℕ) (at : ℕ) where
  -- a variable, behind a word of so many bytes
  variable : (form : ℕ → Operand) (limit k : ℕ) → ((n next : ℕ) → Counts limit (at + k) n next → OperandFine l at (Some (form n, next))) → OperandFine l at (numbered_at form limit l (at + k))
  unfolding numbered_at
  variable form limit k f = numbered_fine l at (at + k) limit form (number_at l (at + k) limit) (omega arith) f (number_within l (at + k) limit)

  named_fine : OperandFine l at (named_at l at)
  unfolding named_at names first_of whole_at cell_at
  named_fine =
      picked (OperandFine l at) (stands_at (ascii "PAGENUM") l at) (tt, omega arith)
      (picked (OperandFine l at) (stands_at (ascii "LINENUM") l at) (tt, omega arith)
      (picked (OperandFine l at) (stands_at (ascii "LOOP") l at) (tt, omega arith)
      (picked (OperandFine l at) (stands_at (ascii "IV") l at) (variable IntegerVariable 99 2 (λ n next k. (record { least = k.least; most = k.most }, omega (arith, k.onward))))
      (picked (OperandFine l at) (stands_at (ascii "FV") l at) (variable DecimalVariable 99 2 (λ n next k. (record { least = k.least; most = k.most }, omega (arith, k.onward))))
      (picked (OperandFine l at) (stands_at (ascii "SV") l at) (variable StringVariable 99 2 (λ n next k. (record { least = k.least; most = k.most }, omega (arith, k.onward))))
      (picked (OperandFine l at) (stands_at (ascii "R") l at) (variable RecordElement 10 1 (λ n next k. (record { least = k.least; most = k.most }, omega (arith, k.onward))))
      (picked (OperandFine l at) (stands_at (ascii "T") l at) (variable EntryElement 10 1 (λ n next k. (record { least = k.least; most = k.most }, omega (arith, k.onward))))
      (picked (OperandFine l at) (stands_at (ascii "P") l at) (cell_fine l at (at + 1) (number_at l (at + 1) 65535) (omega arith) (number_within l (at + 1) 65535))
      tt))))))))

  number_fine : (o : Option (Operand × ℕ)) (x : Option (Quantity × ℕ)) → OperandFine l at o → LiteralFine at x → OperandFine l at (number_or o x)
  unfolding number_or
  number_fine o (Some (q, next)) h k = (k.0, omega (arith, k.1))
  number_fine o None h k = h

-- a string behind its first quote ends before its last, so within the line
string_fine : (l : List ℕ) (from at : ℕ) → from < at → OperandFine l from (string_at l at)
unfolding string_at
string_fine l from at h =
    tested (OperandFine l from) (byte_is l (string_end l at) "\"") (λ e.
    let k = byte_within l (string_end l at) (byte_at l (string_end l at)) 34 refl (eqb-true (byte_at l (string_end l at)) 34 e) (omega arith) in
    (record { ordered = omega arith; inside = omega (arith, k); short = omega (arith, length_span InString (window l at 16), length-take 16 (drop at l)) }, omega arith)) (λ e. tt)

operand_fine : (l : List ℕ) (at : ℕ) → OperandFine l at (operand_at l at)
unfolding operand_at
operand_fine l at = picked (OperandFine l at) (byte_is l at "\"") (string_fine l at (at + 1) (omega arith)) (number_fine l at (named_at l at) (literal_at l at) (named_fine l at) (literal_fine l at))

pub operand_bounded : (l : List ℕ) (at : ℕ) (o : Operand) (next : ℕ) → operand_at l at ≡ Some (o, next) → OperandWithin l o
operand_bounded l at o next e = (subst (OperandFine l at) e (operand_fine l at)).0

-- ---- filters

module _ (l : List ℕ) (from : ℕ) (o : Operand) (h : OperandWithin l o) where
  filtered_fine : (f : Filter) (k : ℕ) → from + 1 + questions_of o ≤ k → ArgumentFine l from (filtered_at o f l k)
  unfolding filtered_at
  filtered_fine f k b = tested (ArgumentFine l from) (admits f (count_of o)) (λ e. (record { operand = h; filter = e }, b)) (λ e. tt)

argument_fine : (l : List ℕ) (from : ℕ) (x : Option (Operand × ℕ)) → OperandFine l from x → ArgumentFine l from (argument_of l x)
unfolding argument_of filters first_of admits
argument_fine l from None h = tt
argument_fine l from (Some (o, next)) h =
    picked (ArgumentFine l from) (byte_is l next "|") (
    picked (ArgumentFine l from) (stands_at (ascii "ABS") l (next + 1)) (filtered_fine l from o h.0 Absolute (next + 1 + 3) (omega (arith, h.1)))
    (picked (ArgumentFine l from) (stands_at (ascii "INT") l (next + 1)) (filtered_fine l from o h.0 Truncated (next + 1 + 3) (omega (arith, h.1)))
    (picked (ArgumentFine l from) (stands_at (ascii "UPPER") l (next + 1)) (filtered_fine l from o h.0 UpperCase (next + 1 + 5) (omega (arith, h.1)))
    (picked (ArgumentFine l from) (stands_at (ascii "LEN") l (next + 1)) (filtered_fine l from o h.0 Length (next + 1 + 3) (omega (arith, h.1)))
    (picked (ArgumentFine l from) (stands_at (ascii "RECCNT") l (next + 1)) (filtered_fine l from o h.0 RecordCount (next + 1 + 6) (omega (arith, h.1)))
    (picked (ArgumentFine l from) (stands_at (ascii "ENTCNT") l (next + 1)) (filtered_fine l from o h.0 EntryCount (next + 1 + 6) (omega (arith, h.1))) tt)))))
    ) (record { operand = h.0; filter = refl }, h.1)

-- ---- what was parsed

pub small_parameter : (l : List ℕ) (o : Operand) → OperandWithin l o → parameter_of o ≤ 65535
unfolding parameter_of
small_parameter l (NumberLiteral q) h = omega arith
small_parameter l (StringLiteral start end) h = omega arith
small_parameter l (IntegerVariable n) h = omega arith
small_parameter l (DecimalVariable n) h = omega arith
small_parameter l (StringVariable n) h = omega arith
small_parameter l PageNumber h = omega arith
small_parameter l LineNumber h = omega arith
small_parameter l LoopCounter h = omega arith
small_parameter l (RecordElement n) h = omega arith
small_parameter l (EntryElement n) h = omega arith
small_parameter l (Parameter n) h = h.most
small_parameter l (Record n r) h = h.0.most
small_parameter l (Entry n r e) h = h.0.most

module _ (l : List ℕ) (at : ℕ) (a : Argument) (next : ℕ) (e : argument_at l at ≡ Some (a, next)) where
  known : ArgumentFine l at (Some (a, next))
  unfolding argument_at
  known = subst (ArgumentFine l at) e (argument_fine l at (operand_at l at) (operand_fine l at))

  -- An argument lies within the limits of its form.
  pub argument_bounded : ArgumentWithin l a
  argument_bounded = known.0

  -- An argument takes at least one byte, one that asks two.
  pub argument_bytes : at + 1 + questions_of a.operand ≤ next
  argument_bytes = known.1

  -- An argument moves on.
  pub argument_onward : at < next
  argument_onward = omega (arith, argument_bytes)

  -- "a cell Pn .. n 1–65,535"
  pub parsed_parameter : parameter_of a.operand ≤ 65535
  parsed_parameter = small_parameter l a.operand argument_bounded.operand
