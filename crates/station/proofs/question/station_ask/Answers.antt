-- What `ask` says of the answer that is handed back.
use Rattle.station.proofs.Laws.{told_answer}
use Rattle.station.proofs.question.station_ask.Goals as goal

pub returns : goal.returns
returns c = told_answer _ c.ask-asked.ensures c.hand_answer.ensures c.number_of.ensures
