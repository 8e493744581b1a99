-- By the cases of what `check` answers.
use mathlib.Core.Path.{refl}
use Rattle.station.proofs.Laws.{check_accepted, check_refused}
use Rattle.station.proofs.check.station_check.Goals as goal

pub returns-in-Ok : goal.returns-in-Ok
returns-in-Ok c = check_accepted c.check-checked.ensures c.in-Ok.is refl

pub returns-in-Err : goal.returns-in-Err
returns-in-Err c =
    check_refused c.check-checked.ensures c.in-Err.is c.refusal_number.ensures
