-- What `answer_near` says of the answer that is handed back.
use Rattle.station_testing.proofs.Laws.{told_look_up}
use Rattle.station_testing.proofs.index.station_look_up_near.Goals as goal

pub returns : goal.returns
returns c = told_look_up _ c.answer_near-sought.ensures c.hand_answer.ensures
