-- The definition counts from 1, and a part from its start on.
use mathlib.Core.Path.{refl}
use Rattle.values.proofs.Puts.{puts_none, puts_past, puts_in}
use Rattle.values.proofs.registers.put.Goals as goal
use Rattle.values.proofs.registers.put.Goals.{then-n-lt1-via-then-n-lt1, then-n-lt1-via-else-n-lt1+then-size-n}

pub returns-then-n-lt1 : goal.returns-then-n-lt1
returns-then-n-lt1 g c =
    elim c.then-n-lt1.branch [
      | then-n-lt1-via-then-n-lt1 w ↦ puts_none _ _ _ _ _ w.if-n-lt1.true
      | then-n-lt1-via-else-n-lt1+then-size-n w ↦ puts_past _ _ _ _ _ w.if-size-n.true
    ]

pub returns : goal.returns
returns g c = puts_in _ _ _ _ _ _ c.if-n-lt1.false c.if-size-n.false refl
