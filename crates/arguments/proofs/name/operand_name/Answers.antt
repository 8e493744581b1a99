-- By its first letter the line can have only the words that are compared with it.
use Rattle.std.proofs.lemmas.Bool.Decides.{nat_tests}
use native.Mathlib.Omega.{arith}
use Rattle.scan.specs.Inner.Tables.{word_at}
use Rattle.scan.proofs.LetterLaws.{letter_fits, fitting, by_first, no_first}
use Rattle.arguments.specs.Inner.Named.{name_words}
use Rattle.arguments.proofs.name.operand_name.Goals as goal

pub returns-in-80 : goal.returns-in-80
unfolding word_at fitting letter_fits
returns-in-80 c = rw (c.word_or.ensures, c.word_or-cell.ensures) (by_first 80 name_words _ _ c.byte.ensures.value c.in-80.is)

pub returns-in-76 : goal.returns-in-76
unfolding word_at fitting letter_fits
returns-in-76 c = rw (c.word_or-in-76.ensures, c.word_or-turn.ensures) (by_first 76 name_words _ _ c.byte.ensures.value c.in-76.is)

pub returns-in-73 : goal.returns-in-73
unfolding word_at fitting letter_fits
returns-in-73 c = rw (c.word_or-in-73.ensures) (by_first 73 name_words _ _ c.byte.ensures.value c.in-73.is)

pub returns-in-70 : goal.returns-in-70
unfolding word_at fitting letter_fits
returns-in-70 c = rw (c.word_or-in-70.ensures) (by_first 70 name_words _ _ c.byte.ensures.value c.in-70.is)

pub returns-in-83 : goal.returns-in-83
unfolding word_at fitting letter_fits
returns-in-83 c = rw (c.word_or-in-83.ensures) (by_first 83 name_words _ _ c.byte.ensures.value c.in-83.is)

pub returns-in-82 : goal.returns-in-82
unfolding word_at fitting letter_fits
returns-in-82 c = rw (c.word_or-in-82.ensures) (by_first 82 name_words _ _ c.byte.ensures.value c.in-82.is)

pub returns-in-84 : goal.returns-in-84
unfolding word_at fitting letter_fits
returns-in-84 c = rw (c.word_or-in-84.ensures) (by_first 84 name_words _ _ c.byte.ensures.value c.in-84.is)

pub returns-in_default : goal.returns-in_default
unfolding word_at fitting letter_fits
returns-in_default c = no_first name_words _ _ c.byte.ensures.value (grind (arith, nat_tests))
