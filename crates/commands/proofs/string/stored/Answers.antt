-- The bytes of the string are copied, then SVn is set.
use Rattle.commands.proofs.Copying.{string_stored}
use Rattle.commands.proofs.string.stored.Goals as goal

pub returns : goal.returns
returns c = string_stored _ _ _ _ _ _ c.requires _ c.text_of.ensures _ c.in_ok-text.was _ _ c.row_for-row.ensures c.bytes_of-bytes.ensures _ _ c.copied-copy.ensures c.count_of.ensures _ _ c.put.ensures
