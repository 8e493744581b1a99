-- The definition counts from 1, and a part from its start on.
use mathlib.Core.Path.{◌∙◌}
use Prim.Native.Nat.{◌+◌, ◌-◌}
use native.Mathlib.Omega.{arith}
use Rattle.std.proofs.lemmas.List.{get_or_default}
use Rattle.values.proofs.Lists.{numbered_none, bank_past, bank_in}
use Rattle.values.proofs.registers.nth.Goals as goal
use Rattle.values.proofs.registers.nth.Goals.{then-n-lt1-via-then-n-lt1, then-n-lt1-via-else-n-lt1+then-size-n}

pub returns-then-n-lt1 : goal.returns-then-n-lt1
returns-then-n-lt1 g c =
    elim c.then-n-lt1.branch [
      | then-n-lt1-via-then-n-lt1 w ↦ numbered_none _ _ _ w.if-n-lt1.true
      | then-n-lt1-via-else-n-lt1+then-size-n w ↦ bank_past _ _ _ _ _ w.if-size-n.true
    ]

pub returns : goal.returns
returns g c =
    let a = c.args in
    get_or_default a.row.now (a.from + (a.n - 1)) _ a.none (omega arith) ∙ bank_in a.none a.row.now a.from a.size a.n c.if-n-lt1.false c.if-size-n.false
