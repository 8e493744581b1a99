-- Each test that fails leaves no cell; where all pass, the bytes begin with a cell.
use Rattle.std.proofs.Common.{sym, ◌∙◌}
use Rattle.cells.proofs.CellForm.{unknown_kind, cut_short, room_for_key, refused_key, refused_value, sized_cell}
use Rattle.cells.proofs.form.cell_size.Goals.{else-size-s-via-then-size-s+then-key_allowed+else-value_allowed, else-size-s-via-then-size-s+else-key_allowed, else-size-s-via-else-size-s}
use Rattle.cells.proofs.form.cell_size.Goals as goal

pub returns-in_err-kind : goal.returns-in_err-kind
returns-in_err-kind c = rw c.from_residual.ensures (unknown_kind _ (sym c.at.ensures.told ∙ c.in_err-kind.was))

pub key_allowed-requires : goal.key_allowed-requires
key_allowed-requires c = room_for_key _ _ (sym c.at.ensures.told ∙ c.in_ok-kind.was) _ c.size-size.ensures c.if-size-s.true

pub returns-then-value_allowed : goal.returns-then-value_allowed
returns-then-value_allowed c =
    sized_cell _ _ (sym c.at.ensures.told ∙ c.in_ok-kind.was) _ c.size-size.ensures (λ i. (c.type_inv.s i).fits) c.if-size-s.true _ c.key_allowed.ensures c.if-key_allowed.true _ c.value_allowed.ensures c.if-value_allowed.true

pub returns : goal.returns
returns c =
    let k = sym c.at.ensures.told ∙ c.in_ok-kind.was in
    elim c.else-size-s.branch [
      | else-size-s-via-then-size-s+then-key_allowed+else-value_allowed w ↦ refused_value _ _ k _ c.size-size.ensures _ w.value_allowed.ensures w.if-value_allowed.false
      | else-size-s-via-then-size-s+else-key_allowed w ↦ refused_key _ _ k _ c.size-size.ensures _ w.key_allowed.ensures w.if-key_allowed.false
      | else-size-s-via-else-size-s w ↦ cut_short _ _ k _ c.size-size.ensures w.if-size-s.false
    ]
