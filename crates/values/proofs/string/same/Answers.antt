-- What `bytes_of` finds are the texts, before |UPPER.
use Rattle.values.proofs.Texts.{text_is}
use Rattle.values.specs.Inner.Texts.{strings}
use Rattle.values.specs.Letters.{equal_strings}
use mathlib.Core.Path.{◌∙◌, ap₂}
use Rattle.values.proofs.string.same.Goals as goal

pub returns : goal.returns
returns c =
    let a = c.args in
    let s = strings a.line.now a.store.now a.strings.now in
    c.same_bytes.ensures ∙ ap₂ (λ x y. equal_strings a.ignoring x y)
    (text_is s a.p _ _ c.row_for-row.ensures c.bytes_of-a.ensures)
    (text_is s a.q _ _ c.row_for-other.ensures c.bytes_of-b.ensures)
