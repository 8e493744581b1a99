-- What a name begins finds what the definition finds by the name; a filter's name finds its filter.
use Rattle.std.specs.Prelude.{None}
use mathlib.Core.Path.{◌≡◌, refl}
use mathlib.Core.List.{List}
use Prim.Native.Nat.{ℕ}
use Rattle.scan.specs.Words.{first_of}
use Rattle.scan.specs.Inner.Tables.{word_at, word_or}
use Rattle.scan.proofs.WordLaws.{spelled, by_kind}
use Rattle.arguments.specs.declared.operand.Operand.{Operand}
use Rattle.arguments.specs.Readers.Operand.{names, named_at}
use Rattle.arguments.specs.Readers.Argument.{filtered_at, filters}
use Rattle.arguments.specs.Inner.Named.{name_words, numbered, limit_of, name_at}
use Rattle.arguments.specs.Inner.Filtered.{filter_words}

all_names : spelled name_at name_words ≡ names
unfolding spelled names numbered limit_of name_at
all_names = refl

pub name_by_kind : (l : List ℕ) (at : ℕ) → named_at l at ≡ word_or None (word_at name_words l at) (λ k next. name_at k l next)
unfolding named_at
name_by_kind l at = rw (← all_names) (by_kind None name_at name_words l at)

all_filters : (o : Operand) → spelled (filtered_at o) filter_words ≡ filters o
unfolding spelled filters
all_filters o = refl

pub filter_by_kind : (o : Operand) (l : List ℕ) (at : ℕ) → first_of None (filters o) l at ≡ word_or None (word_at filter_words l at) (λ f next. filtered_at o f l next)
filter_by_kind o l at = rw (← all_filters o) (by_kind None (filtered_at o) filter_words l at)
