-- The operand stopped the run, or its filter follows.
use Rattle.std.proofs.Common.{◌≡◌, Err, rules}
use Rattle.values.proofs.Arguments.{kind_askable, filter_over, filter_follows}
use Rattle.values.proofs.value.argument_value.Goals as goal

pub operand_value-requires : goal.operand_value-requires
operand_value-requires c = kind_askable _ _ _ _ _ c.kind_of-kind.ensures c.requires.0

pub returns-in_err-found : goal.returns-in_err-found
returns-in_err-found c =
    let e : c.from_residual.result ≡ Err c.in_err-found.field-0.0 = search rules in
    rw e (filter_over _ _ _ _ _ _ _ _ c.args.argument _ _ c.kind_of-kind.ensures _ c.in_err-found.ensures)

pub returns : goal.returns
returns c = filter_follows _ _ _ _ _ _ _ _ c.args.argument _ _ c.kind_of-kind.ensures _ _ c.in_ok-found.ensures c.filtered.ensures
