-- What `remove` says of the buffer, the length and the end.
use Rattle.station.proofs.Laws.{told_edit}
use Rattle.station.proofs.edit.station_remove.Goals as goal

pub returns : goal.returns
returns c = told_edit _ c.remove-edited.ensures c.number_of.ensures
