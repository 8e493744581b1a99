-- By its letters the line can have only the words that are compared with it.
use mathlib.Core.Path.{refl}
use native.Mathlib.Omega.{arith}
use Rattle.scan.specs.Inner.Tables.{word_at}
use Rattle.scan.proofs.LetterLaws.{letter_fits, fitting}
use Rattle.lines.specs.Inner.Dispatch.{command_words}
use Rattle.lines.proofs.WordLetters.{by_first, no_words}
use Rattle.lines.proofs.word.command_word.Goals as goal

pub returns-in-66 : goal.returns-in-66
unfolding word_at fitting letter_fits command_words
returns-in-66 c = rw (c.word_or.ensures) (by_first _ c.byte.ensures.value c.in-66.is refl)

pub returns-in-69 : goal.returns-in-69
unfolding word_at fitting letter_fits command_words
returns-in-69 c = rw (c.word_or-in-69.ensures, c.word_or-end.ensures, c.word_or-table.ensures) (by_first _ c.byte.ensures.value c.in-69.is refl)

pub returns-in-78 : goal.returns-in-78
unfolding word_at fitting letter_fits command_words
returns-in-78 c = rw (c.word_or-in-78.ensures, c.word_or-page.ensures) (by_first _ c.byte.ensures.value c.in-78.is refl)

pub returns-in-80 : goal.returns-in-80
unfolding word_at fitting letter_fits command_words
returns-in-80 c = rw (c.word_or-in-80.ensures) (by_first _ c.byte.ensures.value c.in-80.is refl)

pub returns-in-82 : goal.returns-in-82
unfolding word_at fitting letter_fits command_words
returns-in-82 c = rw (c.word_or-in-82.ensures, c.word_or-remark.ensures) (by_first _ c.byte.ensures.value c.in-82.is refl)

pub returns-in-84 : goal.returns-in-84
unfolding word_at fitting letter_fits command_words
returns-in-84 c = rw (c.word_or-in-84.ensures) (by_first _ c.byte.ensures.value c.in-84.is refl)

pub returns-in_default : goal.returns-in_default
unfolding word_at
returns-in_default c = by_first _ c.byte.ensures.value refl (no_words _ (omega arith) (omega arith) (omega arith) (omega arith) (omega arith) (omega arith) (omega arith) (omega arith))
