-- The names of the filters, each with the filter.
use Rattle.std.specs.Prelude.{List, [], ◌∷◌, ℕ}
use Rattle.scan.specs.Ascii.{ascii}
use Rattle.arguments.specs.declared.argument.Filter.{Filter}
use Rattle.arguments.specs.declared.argument.Filter.TheVariants.{Absolute, Truncated, UpperCase, Length, RecordCount, EntryCount}

abbrev pub filter_words : List (List ℕ × Filter)
filter_words =
    (ascii "ABS", Absolute)
    ∷ (ascii "INT", Truncated)
    ∷ (ascii "UPPER", UpperCase)
    ∷ (ascii "LEN", Length)
    ∷ (ascii "RECCNT", RecordCount)
    ∷ (ascii "ENTCNT", EntryCount)
    ∷ []
