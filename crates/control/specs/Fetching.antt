-- $REC and $TBL.
use Rattle.std.specs.Prelude.{List, ℕ}
use Rattle.meaning.specs.Answer.{Answer}
use Rattle.meaning.specs.Tree.{done, bind}
use Rattle.meaning.specs.Meaning.{Meaning}
use Rattle.lines.specs.declared.command.Fetch.{Fetch}
use Rattle.values.specs.declared.fetch.Along.TheVariants.{Records, Entries}
use Rattle.values.specs.Machine.{Variables, Machine, set_numbered}
use Rattle.values.specs.Fetching.{fetch_meaning}

abbrev pub with_records : Variables → List (List Answer) → Variables
with_records v l = record { integers = v.integers; decimals = v.decimals; strings = v.strings; records = l; entries = v.entries }

abbrev pub with_entries : Variables → List (List Answer) → Variables
with_entries v l = record { integers = v.integers; decimals = v.decimals; strings = v.strings; records = v.records; entries = l }

-- "`$REC n Pm record entry count` fills Rn from records record, record+1, …"
unfoldable pub records_meaning : Machine → ℕ → Fetch → Meaning Variables
records_meaning m line f =
    bind (fetch_meaning m line Records f.parameter f.«record» f.entry f.count) (λ l. done (with_records m.variables (set_numbered m.variables.records f.number l)))

-- "`$TBL` the same for Tn from entries"
unfoldable pub entries_meaning : Machine → ℕ → Fetch → Meaning Variables
entries_meaning m line f =
    bind (fetch_meaning m line Entries f.parameter f.«record» f.entry f.count) (λ l. done (with_entries m.variables (set_numbered m.variables.entries f.number l)))
