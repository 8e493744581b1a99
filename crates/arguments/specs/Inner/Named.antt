-- How the code finds a name: by what it begins.
use Rattle.std.specs.Prelude.{List, [], ◌∷◌, ℕ, Option}
use Rattle.scan.specs.Ascii.{ascii}
use Rattle.arguments.specs.declared.operand.Operand.{Operand}
use Rattle.arguments.specs.declared.operand.Operand.TheVariants as O
use Rattle.arguments.specs.declared.name.NumberedName.{NumberedName}
use Rattle.arguments.specs.declared.name.NumberedName.TheVariants.{IntegerVariable, DecimalVariable, StringVariable, RecordElement, EntryElement}
use Rattle.arguments.specs.declared.name.Name.{Name}
use Rattle.arguments.specs.declared.name.Name.TheVariants as N
use Rattle.arguments.specs.Readers.Operand.{whole_at, cell_at, numbered_at}

-- the names, each with what it begins
abbrev pub name_words : List (List ℕ × Name)
name_words =
    (ascii "PAGENUM", N.PageNumber)
    ∷ (ascii "LINENUM", N.LineNumber)
    ∷ (ascii "LOOP", N.LoopCounter)
    ∷ (ascii "IV", N.Numbered IntegerVariable)
    ∷ (ascii "FV", N.Numbered DecimalVariable)
    ∷ (ascii "SV", N.Numbered StringVariable)
    ∷ (ascii "R", N.Numbered RecordElement)
    ∷ (ascii "T", N.Numbered EntryElement)
    ∷ (ascii "P", N.Cell)
    ∷ []

unfoldable pub numbered : NumberedName → ℕ → Operand
numbered IntegerVariable n = O.IntegerVariable n
numbered DecimalVariable n = O.DecimalVariable n
numbered StringVariable n = O.StringVariable n
numbered RecordElement n = O.RecordElement n
numbered EntryElement n = O.EntryElement n

unfoldable pub limit_of : NumberedName → ℕ
limit_of IntegerVariable = 99
limit_of DecimalVariable = 99
limit_of StringVariable = 99
limit_of RecordElement = 10
limit_of EntryElement = 10

unfoldable pub name_at : Name → List ℕ → ℕ → Option (Operand × ℕ)
name_at N.PageNumber l at = whole_at O.PageNumber l at
name_at N.LineNumber l at = whole_at O.LineNumber l at
name_at N.LoopCounter l at = whole_at O.LoopCounter l at
name_at (N.Numbered k) l at = numbered_at (numbered k) (limit_of k) l at
name_at N.Cell l at = cell_at l at
