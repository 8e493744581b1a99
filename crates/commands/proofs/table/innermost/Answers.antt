-- None is open, a row, or past the rows.
use Rattle.commands.proofs.Tabling.{innermost_none, innermost_in, innermost_past}
use mathlib.Core.Path.{◌∙◌}
use Rattle.commands.proofs.table.innermost.Goals as goal

pub returns-then-depth-lt1 : goal.returns-then-depth-lt1
returns-then-depth-lt1 c = c.no_table.ensures ∙ innermost_none _ _ c.if-depth-lt1.true

pub returns-then-i-lt5 : goal.returns-then-i-lt5
returns-then-i-lt5 c = c.table_in.ensures ∙ innermost_in _ _ c.if-depth-lt1.false

pub returns : goal.returns
returns c = c.no_table-2.ensures ∙ innermost_past _ _ c.if-depth-lt1.false c.if-i-lt5.false
