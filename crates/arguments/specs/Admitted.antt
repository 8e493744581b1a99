-- Which filters may follow an operand.
use Rattle.std.specs.Prelude.{Bool, true, false}
use Rattle.arguments.specs.declared.operand.Operand.{Operand}
use Rattle.arguments.specs.declared.operand.Operand.TheVariants.{NumberLiteral, StringLiteral, IntegerVariable, DecimalVariable, StringVariable, PageNumber, LineNumber, LoopCounter, RecordElement, EntryElement, Parameter, Record, Entry}
use Rattle.arguments.specs.declared.argument.Filter.{Filter}
use Rattle.arguments.specs.declared.argument.Filter.TheVariants.{Unfiltered, Absolute, Truncated, UpperCase, Length, RecordCount, EntryCount}

-- "|RECCNT on Pn, |ENTCNT on Pn.r": the count that may follow an operand
pub data Count : Type 0 where
  of_records : Count
  of_entries : Count
  neither : Count

unfoldable pub count_of : Operand → Count
count_of (NumberLiteral q) = neither
count_of (StringLiteral a e) = neither
count_of (IntegerVariable n) = neither
count_of (DecimalVariable n) = neither
count_of (StringVariable n) = neither
count_of PageNumber = neither
count_of LineNumber = neither
count_of LoopCounter = neither
count_of (RecordElement n) = neither
count_of (EntryElement n) = neither
count_of (Parameter n) = of_records
count_of (Record n r) = of_entries
count_of (Entry n r e) = neither

-- "RECCNT and ENTCNT elsewhere are 3. Other filters may stand after any argument"
unfoldable pub admits : Filter → Count → Bool
admits Unfiltered c = true
admits Absolute c = true
admits Truncated c = true
admits UpperCase c = true
admits Length c = true
admits RecordCount of_records = true
admits RecordCount of_entries = false
admits RecordCount neither = false
admits EntryCount of_records = false
admits EntryCount of_entries = true
admits EntryCount neither = false
