-- The bytes are those of the cell that begins at the place, if one does.
use Rattle.std.proofs.Common.{Some, sym, refl, ap, ◌∙◌, arith}
use Rattle.cells.proofs.CellForm.{kind_some, kind_integer, kind_decimal, kind_string}
use Rattle.cells.proofs.Values.{bits_back, value_unknown, value_short, value_integer, value_decimal, value_text}
use Rattle.cells.proofs.value.value_at.Goals as goal

pub returns-in_default : goal.returns-in_default
returns-in_default c = value_unknown _ _ (sym c.at.ensures.told ∙ c.in_default.is)

pub returns-then-store-at : goal.returns-then-store-at
returns-then-store-at c =
    value_short _ _ _ _ refl (c.size.ensures ∙ sym (kind_some _ _ (sym c.at.ensures.told ∙ c.in-Some.is))) c.if-store-at.true

pub returns-in-Integer : goal.returns-in-Integer
returns-in-Integer c =
    let k = kind_integer _ (sym c.at.ensures.told ∙ c.in-Some.is ∙ ap Some c.in-Integer.is) in
    value_integer _ _ k _ c.quad.ensures.0 _ (bits_back 4294967295 _ _ c.signed_quad.ensures (omega arith) (omega arith))

pub returns-in-Decimal : goal.returns-in-Decimal
returns-in-Decimal c =
    let k = kind_decimal _ (sym c.at.ensures.told ∙ c.in-Some.is ∙ ap Some c.in-Decimal.is) in
    value_decimal _ _ k.0 k.1 _ c.octet.ensures.0 _ (bits_back 18446744073709551615 _ _ c.signed_octet.ensures (omega arith) (omega arith))

pub returns-in-String : goal.returns-in-String
returns-in-String c =
    let k = kind_string _ (sym c.at.ensures.told ∙ c.in-Some.is ∙ ap Some c.in-String.is) in
    value_text _ _ k.0 k.1 _ c.from.ensures
