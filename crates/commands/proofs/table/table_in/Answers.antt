-- The four words of a table.
use Rattle.commands.proofs.Tabling.{table_is}
use Rattle.commands.proofs.table.table_in.Goals as goal

pub returns : goal.returns
returns c = table_is _ _ c.requires
