-- An end of the run is handed on; an answer is what it is worth.
use Rattle.std.proofs.Common.{◌≡◌, Err, rules}
use Rattle.values.proofs.Operands.{valued_ok, valued_err}
use Rattle.values.proofs.value.valued.Goals as goal

pub returns-in_err-heard : goal.returns-in_err-heard
returns-in_err-heard c =
    let e : c.from_residual.result ≡ Err c.in_err-heard.field-0.0 = search rules in
    rw e (valued_err _ _ c.in_err-heard.was)

pub returns : goal.returns
returns c = valued_ok _ _ _ c.in_ok-heard.was c.worth_of.ensures
