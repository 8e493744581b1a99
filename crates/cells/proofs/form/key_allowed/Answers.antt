-- The four numbers are those of the key.
use Rattle.cells.specs.Cell.{key_at}
use Rattle.cells.proofs.form.key_allowed.Goals as goal

pub returns : goal.returns
unfolding key_at
returns c = cc
