-- The kind picks the test, as in the definition.
use Rattle.std.proofs.Common.{ℤ, Some, ap, ◌∙◌, arith}
use Rattle.numbers.specs.Range.{within}
use Rattle.cells.specs.Inner.Tests.{kind_size}
use Rattle.cells.proofs.CellForm.{kind_integer, kind_decimal, kind_string}
use Rattle.cells.proofs.Values.{bits_back}
use Rattle.cells.proofs.Laws.{value_of_integer, value_of_decimal, value_of_string}
use Rattle.cells.proofs.form.value_allowed.Goals as goal

pub quad-requires : goal.quad-requires
unfolding kind_size
quad-requires c = let e = ap kind_size c.in-Integer.is in omega arith

pub octet-requires : goal.octet-requires
unfolding kind_size
octet-requires c = let e = ap kind_size c.in-Decimal.is in omega arith

pub string_allowed-requires : goal.string_allowed-requires
unfolding kind_size
string_allowed-requires c = let e = ap kind_size c.in-String.is in omega arith

pub returns-in-Integer : goal.returns-in-Integer
returns-in-Integer c =
    let k = kind_integer _ (c.requires.0 ∙ ap Some c.in-Integer.is) in
    value_of_integer _ _ k _ c.quad.ensures.0 (c.number_allowed.ensures ∙ ap (λ (z : ℤ). within 2000000000 z) (bits_back 4294967295 _ _ c.signed_quad.ensures (omega arith) (omega arith)))

pub returns-in-Decimal : goal.returns-in-Decimal
returns-in-Decimal c =
    let k = kind_decimal _ (c.requires.0 ∙ ap Some c.in-Decimal.is) in
    value_of_decimal _ _ k.0 k.1 _ c.octet.ensures.0 (c.number_allowed-in-Decimal.ensures ∙ ap (λ (z : ℤ). within 2000000000000000 z) (bits_back 18446744073709551615 _ _ c.signed_octet.ensures (omega arith) (omega arith)))

pub returns-in-String : goal.returns-in-String
returns-in-String c =
    let k = kind_string _ (c.requires.0 ∙ ap Some c.in-String.is) in
    value_of_string _ _ k.0 k.1 c.string_allowed.ensures
