-- What a word begins finds the command that the definition finds by the word.
use Rattle.std.specs.Prelude.{None}
use mathlib.Core.Path.{◌≡◌, refl}
use mathlib.Core.List.{List}
use Prim.Native.Nat.{ℕ}
use Rattle.scan.specs.Words.{first_of}
use Rattle.scan.specs.Inner.Tables.{word_or}
use Rattle.scan.proofs.WordLaws.{spelled, by_kind}
use Rattle.lines.specs.Readers.Command.{commands}
use Rattle.lines.specs.Inner.Dispatch.{command_words, command_word, single_of, bare_of, optional_of, fetch_of, command_at}

all_words : spelled command_at command_words ≡ commands
unfolding spelled command_words commands command_at single_of bare_of optional_of fetch_of
all_words = refl

pub command_by_kind : (l : List ℕ) → first_of None commands l 1 ≡ word_or None (command_word l) (λ k next. command_at k l next)
unfolding command_word
command_by_kind l = rw (← all_words) (by_kind None command_at command_words l 1)
