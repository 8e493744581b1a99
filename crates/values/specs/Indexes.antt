-- Indexes, which are read before a question is asked.
use Rattle.std.specs.Prelude.{cond, List, ℕ, leb, ℤ, pos, negsuc}
use Rattle.meaning.specs.Tree.{done, stop}
use Rattle.meaning.specs.Meaning.{Meaning}
use Rattle.meaning.specs.declared.refusal.Refusal.TheVariants.{BadIndex}
use Rattle.arguments.specs.declared.index.Index.{Index}
use Rattle.arguments.specs.declared.index.Index.TheVariants.{Fixed, Variable, Loop}
use Rattle.values.specs.Machine.{Machine, numbered}

-- "1–3 digits, IVn or LOOP"
unfoldable pub index_number : List ℤ → ℤ → Index → ℤ
index_number integers counter (Fixed n) = pos n
index_number integers counter (Variable n) = numbered (pos 0) integers n
index_number integers counter Loop = counter

-- 8: "An index is outside 0–999"
unfoldable pub limited : ℕ → ℤ → Meaning ℕ
limited line (pos k) = cond (leb k 999) (done k) (stop BadIndex line)
limited line (negsuc k) = stop BadIndex line

unfoldable pub index_value : Machine → ℕ → Index → Meaning ℕ
index_value m line i = limited line (index_number m.variables.integers m.counter i)
