use Rattle.pages.proofs.Shows.{text_put, text_raised}
use Rattle.values.specs.Inner.Texts.{strings}
use Rattle.values.proofs.Texts.{text_is}
use Rattle.pages.proofs.field.put_text.Goals as goal

pub returns-then-text : goal.returns-then-text
returns-then-text c = let a = c.args in
    let k = text_is (strings a.line.now a.store.now a.rows.now) a.text _ _ c.row_for-row.ensures c.bytes_of-bytes.ensures in
    text_raised _ _ _ _ _ a.text _ _ _ c.requires k c.string-put.ensures c.stars.ensures _ c.if-text.true c.raise.ensures

pub returns-else-text : goal.returns-else-text
returns-else-text c = let a = c.args in
    let k = text_is (strings a.line.now a.store.now a.rows.now) a.text _ _ c.row_for-row.ensures c.bytes_of-bytes.ensures in
    text_put _ _ _ _ _ a.text _ _ _ c.requires k c.string-put.ensures c.stars.ensures c.if-text.false
