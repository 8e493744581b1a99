-- By its first letter the line can have only the words that are compared with it.
use Rattle.std.proofs.lemmas.Bool.Decides.{nat_tests}
use native.Mathlib.Omega.{arith}
use Rattle.scan.specs.Inner.Tables.{word_at}
use Rattle.scan.proofs.LetterLaws.{letter_fits, fitting, by_first, no_first}
use Rattle.arguments.specs.Inner.Filtered.{filter_words}
use Rattle.arguments.proofs.name.filter_name.Goals as goal

pub returns-in-65 : goal.returns-in-65
unfolding word_at fitting letter_fits
returns-in-65 c = rw (c.word_or.ensures) (by_first 65 filter_words _ _ c.byte.ensures.value c.in-65.is)

pub returns-in-73 : goal.returns-in-73
unfolding word_at fitting letter_fits
returns-in-73 c = rw (c.word_or-in-73.ensures) (by_first 73 filter_words _ _ c.byte.ensures.value c.in-73.is)

pub returns-in-85 : goal.returns-in-85
unfolding word_at fitting letter_fits
returns-in-85 c = rw (c.word_or-in-85.ensures) (by_first 85 filter_words _ _ c.byte.ensures.value c.in-85.is)

pub returns-in-76 : goal.returns-in-76
unfolding word_at fitting letter_fits
returns-in-76 c = rw (c.word_or-in-76.ensures) (by_first 76 filter_words _ _ c.byte.ensures.value c.in-76.is)

pub returns-in-82 : goal.returns-in-82
unfolding word_at fitting letter_fits
returns-in-82 c = rw (c.word_or-in-82.ensures) (by_first 82 filter_words _ _ c.byte.ensures.value c.in-82.is)

pub returns-in-69 : goal.returns-in-69
unfolding word_at fitting letter_fits
returns-in-69 c = rw (c.word_or-in-69.ensures) (by_first 69 filter_words _ _ c.byte.ensures.value c.in-69.is)

pub returns-in_default : goal.returns-in_default
unfolding word_at fitting letter_fits
returns-in_default c = no_first filter_words _ _ c.byte.ensures.value (grind (arith, nat_tests))
