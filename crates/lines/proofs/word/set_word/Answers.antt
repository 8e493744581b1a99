-- By its letters the line can have only the words that are compared with it.
use mathlib.Core.Path.{refl}
use native.Mathlib.Omega.{arith}
use Rattle.std.proofs.lemmas.Bool.Decides.{nat_tests}
use Rattle.scan.specs.Inner.Tables.{word_at}
use Rattle.scan.proofs.LetterLaws.{letter_fits, fitting}
use Rattle.lines.specs.Inner.Dispatch.{command_words}
use Rattle.std.specs.Prelude.{[], ◌∷◌}
use Rattle.scan.specs.Ascii.{ascii}
use Rattle.lines.specs.declared.word.Word.TheVariants.{Section}
use Rattle.lines.proofs.WordLetters.{by_second}
use Rattle.lines.proofs.word.set_word.Goals as goal

pub returns-in-65 : goal.returns-in-65
unfolding word_at fitting letter_fits command_words
returns-in-65 c = rw (c.word_or.ensures, c.word_or-section.ensures) (by_second 3 83 _ c.requires c.byte.ensures.value c.in-65.is refl)

pub returns-in-68 : goal.returns-in-68
unfolding word_at fitting letter_fits command_words
returns-in-68 c = rw (c.word_or-in-68.ensures, c.word_or-divide.ensures, c.word_or-section.ensures) (by_second 3 83 _ c.requires c.byte.ensures.value c.in-68.is refl)

pub returns-in-69 : goal.returns-in-69
unfolding word_at fitting letter_fits command_words
returns-in-69 c = rw (c.word_or-in-69.ensures, c.word_or-section.ensures) (by_second 3 83 _ c.requires c.byte.ensures.value c.in-69.is refl)

pub returns-in-77 : goal.returns-in-77
unfolding word_at fitting letter_fits command_words
returns-in-77 c = rw (c.word_or-in-77.ensures, c.word_or-section.ensures) (by_second 3 83 _ c.requires c.byte.ensures.value c.in-77.is refl)

pub returns-in-83 : goal.returns-in-83
unfolding word_at fitting letter_fits command_words
returns-in-83 c = rw (c.word_or-in-83.ensures, c.word_or-section.ensures) (by_second 3 83 _ c.requires c.byte.ensures.value c.in-83.is refl)

pub returns-in_default : goal.returns-in_default
unfolding word_at fitting letter_fits command_words
returns-in_default c = rw c.word_or-section.ensures (by_second 3 83 _ {es = (ascii "SEC", Section) ∷ []} c.requires c.byte.ensures.value refl (grind (arith, nat_tests)))
