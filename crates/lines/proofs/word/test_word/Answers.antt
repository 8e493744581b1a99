-- By its letters the line can have only the words that are compared with it.
use mathlib.Core.Path.{refl}
use native.Mathlib.Omega.{arith}
use Rattle.std.proofs.lemmas.Bool.Decides.{nat_tests}
use Rattle.scan.specs.Inner.Tables.{word_at}
use Rattle.scan.proofs.LetterLaws.{letter_fits, fitting}
use Rattle.lines.specs.Inner.Dispatch.{command_words}
use Rattle.std.specs.Prelude.{[], ◌∷◌}
use Rattle.scan.specs.Ascii.{ascii}
use Rattle.lines.specs.declared.word.Single.TheVariants.{If}
use Rattle.lines.specs.declared.word.Word.TheVariants.{Single}
use Rattle.lines.proofs.WordLetters.{by_second}
use Rattle.lines.proofs.word.test_word.Goals as goal

pub returns-in-69 : goal.returns-in-69
unfolding word_at fitting letter_fits command_words
returns-in-69 c = rw (c.word_or.ensures, c.word_or-letters.ensures, c.word_or-equal.ensures, c.word_or-shortest.ensures) (by_second 2 73 _ c.requires c.byte.ensures.value c.in-69.is refl)

pub returns-in-71 : goal.returns-in-71
unfolding word_at fitting letter_fits command_words
returns-in-71 c = rw (c.word_or-in-71.ensures, c.word_or-least.ensures, c.word_or-shortest.ensures) (by_second 2 73 _ c.requires c.byte.ensures.value c.in-71.is refl)

pub returns-in-76 : goal.returns-in-76
unfolding word_at fitting letter_fits command_words
returns-in-76 c = rw (c.word_or-in-76.ensures, c.word_or-most.ensures, c.word_or-shortest.ensures) (by_second 2 73 _ c.requires c.byte.ensures.value c.in-76.is refl)

pub returns-in-78 : goal.returns-in-78
unfolding word_at fitting letter_fits command_words
returns-in-78 c = rw (c.word_or-in-78.ensures, c.word_or-zero.ensures, c.word_or-shortest.ensures) (by_second 2 73 _ c.requires c.byte.ensures.value c.in-78.is refl)

pub returns-in_default : goal.returns-in_default
unfolding word_at fitting letter_fits command_words
returns-in_default c = rw c.word_or-shortest.ensures (by_second 2 73 _ {es = (ascii "IF", Single If) ∷ []} c.requires c.byte.ensures.value refl (grind (arith, nat_tests)))
