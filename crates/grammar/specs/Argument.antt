-- How arguments are spelled. A string's place is that of its bytes: an operand that begins at a place `at` of its line has it
-- behind the quote there.
use Rattle.std.specs.Prelude.{◌≡◌, true, List, [], ◌∷◌, ◌++◌, ℕ, ◌+◌, length}
use Prim.Native.Char.{code}
use Rattle.numbers.specs.declared.Quantity.{Quantity}
use Rattle.scan.specs.declared.run.Class.TheVariants.{InString}
use Rattle.scan.specs.Ascii.{ascii}
use Rattle.arguments.specs.declared.index.Index.{Index}
use Rattle.arguments.specs.declared.operand.Operand.{Operand}
use Rattle.arguments.specs.declared.operand.Operand.TheVariants.{NumberLiteral, StringLiteral, IntegerVariable, DecimalVariable, StringVariable, PageNumber, LineNumber, LoopCounter, RecordElement, EntryElement, Parameter, Record, Entry}
use Rattle.arguments.specs.declared.argument.Filter.{Filter}
use Rattle.arguments.specs.declared.argument.Filter.TheVariants.{Unfiltered, Absolute, Truncated, UpperCase, Length, RecordCount, EntryCount}
use Rattle.arguments.specs.declared.argument.Argument.{Argument}
use Rattle.arguments.specs.Admitted.{count_of, admits}
use Rattle.grammar.specs.Number.{point, Several, Numbered, LiteralSpelled, IndexSpelled}

abbrev pub quote : ℕ
quote = code "\""

-- "Arguments: an integer ..; a decimal ..; a string in double quotes, 0–16 bytes without a quote; IVn, FVn, SVn (n 1–99); PAGENUM;
-- LINENUM; LOOP; Rn, Tn (n 1–10); a cell Pn, Pn.r or Pn.r.e, n 1–65,535"
pub data OperandSpelled (at : ℕ) : Operand → List ℕ → Type 0 where
  number_literal : {q : Quantity} {s : List ℕ} → LiteralSpelled q s → OperandSpelled at (NumberLiteral q) s
  string_literal : (s : List ℕ) → Several InString 0 16 s → OperandSpelled at (StringLiteral (at + 1) (at + 1 + length s)) (quote ∷ (s ++ (quote ∷ [])))
  integer_variable : (n : ℕ) (s : List ℕ) → Numbered 99 n s → OperandSpelled at (IntegerVariable n) (ascii "IV" ++ s)
  decimal_variable : (n : ℕ) (s : List ℕ) → Numbered 99 n s → OperandSpelled at (DecimalVariable n) (ascii "FV" ++ s)
  string_variable : (n : ℕ) (s : List ℕ) → Numbered 99 n s → OperandSpelled at (StringVariable n) (ascii "SV" ++ s)
  page_number : OperandSpelled at PageNumber (ascii "PAGENUM")
  line_number : OperandSpelled at LineNumber (ascii "LINENUM")
  loop_counter : OperandSpelled at LoopCounter (ascii "LOOP")
  record_element : (n : ℕ) (s : List ℕ) → Numbered 10 n s → OperandSpelled at (RecordElement n) (ascii "R" ++ s)
  entry_element : (n : ℕ) (s : List ℕ) → Numbered 10 n s → OperandSpelled at (EntryElement n) (ascii "T" ++ s)
  parameter : (n : ℕ) (s : List ℕ) → Numbered 65535 n s → OperandSpelled at (Parameter n) (ascii "P" ++ s)
  record_of : (n : ℕ) (s : List ℕ) (r : Index) (x : List ℕ) → Numbered 65535 n s → IndexSpelled r x → OperandSpelled at (Record n r) (ascii "P" ++ (s ++ (point ∷ x)))
  entry_cell_of : (n : ℕ) (s : List ℕ) (r : Index) (x : List ℕ) (e : Index) (y : List ℕ) → Numbered 65535 n s → IndexSpelled r x → IndexSpelled e y → OperandSpelled at (Entry n r e) (ascii "P" ++ (s ++ (point ∷ (x ++ (point ∷ y)))))

-- "One filter may follow: |ABS, |INT .. |UPPER, |LEN .. |RECCNT .. |ENTCNT"
abbrev pub filter_bytes : Filter → List ℕ
filter_bytes Unfiltered = []
filter_bytes Absolute = ascii "|ABS"
filter_bytes Truncated = ascii "|INT"
filter_bytes UpperCase = ascii "|UPPER"
filter_bytes Length = ascii "|LEN"
filter_bytes RecordCount = ascii "|RECCNT"
filter_bytes EntryCount = ascii "|ENTCNT"

-- "|RECCNT on Pn, |ENTCNT on Pn.r"; "RECCNT and ENTCNT elsewhere are 3. Other filters may stand after any argument"
pub data ArgumentSpelled (at : ℕ) : Argument → List ℕ → Type 0 where
  with_filter : (o : Operand) (f : Filter) (s : List ℕ) → OperandSpelled at o s → admits f (count_of o) ≡ true → ArgumentSpelled at (record { operand = o; filter = f }) (s ++ filter_bytes f)
