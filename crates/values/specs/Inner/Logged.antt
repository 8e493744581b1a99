-- The log of a stretch of lines, as the code keeps it.
use Rattle.std.specs.Prelude.{List, ℕ, ◌+◌, set}
use Rattle.std.proofs.lemmas.List.Edits.{sets}
use Rattle.meaning.specs.Inner.Place.{Place, at}
use Rattle.meaning.specs.declared.question.Question.{Question}
use Rattle.values.specs.declared.log.Log.{Log}
use Rattle.values.specs.Inner.Word.{questions}

-- the buffers filled so far, the log among them, on page g
abbrev pub filled_to : List ℕ → ℕ → Log → ℕ → Place Question
filled_to text m log g = at text m (questions log.words) log.asked log.places g

-- some words more
abbrev pub with_words : Log → List ℕ → ℕ → Log
with_words log ws n = record { words = sets log.words log.asked ws; asked = log.asked + n; places = log.places }

-- one word more
abbrev pub with_word : Log → ℕ → Log
with_word log w = record { words = set log.words log.asked w; asked = log.asked + 1; places = log.places }
