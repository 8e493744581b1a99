-- $SETDS.
use Rattle.std.specs.Prelude.{cond, ◌&&◌, ℕ, leb, ℤ, pos, negsuc, Err, Ok}
use Rattle.meaning.specs.Meaning.{Meaning}
use Rattle.meaning.specs.declared.refusal.Refusal.TheVariants.{BadIndex}
use Rattle.arguments.specs.declared.index.Index.{Index}
use Rattle.values.specs.Machine.{Machine}
use Rattle.values.specs.Indexes.{index_number}
use Rattle.commands.specs.Settling.{Settled, concluded}

-- 8: "a $SETDS number outside 1–35"
unfoldable pub datasource_from : ℤ → Settled ℕ
datasource_from (pos n) = cond (leb 1 n && leb n 35) (Ok n) (Err BadIndex)
datasource_from (negsuc n) = Err BadIndex

-- "`$SETDS n`": the datasource that is selected then
unfoldable pub datasource_meaning : Machine → ℕ → Index → Meaning ℕ
datasource_meaning m line i = concluded line (datasource_from (index_number m.variables.integers m.counter i))
