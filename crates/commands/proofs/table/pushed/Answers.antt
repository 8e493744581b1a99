-- The four words behind the last open table are set.
use Rattle.commands.proofs.Tabling.{pushes}
use native.Mathlib.Omega.{arith}
use mir.Val.{Fits}
use mir.Syntax.{w32}
use borrow.Author.Rules.{rules}
use Rattle.commands.proofs.table.pushed.Goals as goal

pub returns : goal.returns
returns c = let f : Fits w32 c.args.table.counter = search rules in let g : Fits w32 c.args.table.line = search rules in pushes _ _ c.args.table.counter _ _ c.args.table.line c.requires.few c.requires.row (omega (arith, f)) (omega (arith, g))
