-- Where the code finds a byte that isn't allowed.
use Rattle.std.specs.Prelude.{List, ℕ, length}
use Rattle.scan.specs.declared.run.Class.TheVariants.{Allowed}
use Rattle.scan.specs.Run.{span}

-- where the first byte is that isn't "0x20–0x7E or 0x0A", or the template's length
abbrev pub first_refused : List ℕ → ℕ
first_refused t = length (span Allowed t)
