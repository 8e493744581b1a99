-- The bytes found are the text before |UPPER, which keeps the length; all three slices are short.
use lib.ListN.{length}
use mathlib.Core.Path.{◌≡◌}
use native.Mathlib.Omega.{arith}
use Rattle.values.proofs.Texts.{chosen_short, part_short, text_length}
use Rattle.values.specs.Inner.Texts.{strings, chosen}
use borrow.Author.Rules.{rules}
use Rattle.values.proofs.string.length_of.Goals as goal

pub returns : goal.returns
returns c =
    let a = c.args in
    let h = c.requires in
    let s = strings a.line.now a.store.now a.strings.now in
    let e = c.bytes_of.ensures in
    let sixteen : length c.row_for-row.result ≡ 16 = search rules in
    let k = chosen_short a.line.now a.store.now c.row_for-row.result a.text.source h.short_line h.short_store (omega (arith, sixteen)) in
    (text_length s a.text _ _ c.row_for-row.ensures e, part_short _ (chosen a.line.now a.store.now c.row_for-row.result a.text.source) a.text.count a.text.at e k)
