-- The row and the length are set where the variable has them.
use Rattle.commands.proofs.Copying.{string_none, string_in_law, string_past}
use Rattle.commands.proofs.string.put.Goals as goal
use Rattle.commands.proofs.string.put.Goals.{then-n-lt1-via-then-n-lt1, then-n-lt1-via-else-n-lt1+then-n-gt99}
use native.Mathlib.Omega.{arith}

pub returns-then-n-lt1 : goal.returns-then-n-lt1
returns-then-n-lt1 c =
    elim c.then-n-lt1.branch [
      | then-n-lt1-via-then-n-lt1 w ↦ string_none _ _ _ c.args.row c.args.count c.requires w.if-n-lt1.true
      | then-n-lt1-via-else-n-lt1+then-n-gt99 w ↦ string_past c.args.strings.now c.args.words.now c.args.n c.args.row c.args.count c.requires w.if-n-lt1.false (omega (arith, w.if-n-gt99.true))
    ]

pub returns : goal.returns
returns c = string_in_law c.args.strings.now _ _ _ _ c.requires c.if-n-lt1.false (omega arith) _ c.put.ensures
