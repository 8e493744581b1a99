-- The words of commands that can stand behind the `$`, by letters of the line.
use mathlib.Core.Path.{◌≡◌, sym, ◌∙◌, subst}
use borrow.Author.Tests.{ne_eqb}
use mathlib.Core.List.{List, []}
use Prim.Native.Nat.{ℕ, ◌+◌}
use Rattle.scan.specs.Line.{byte_at}
use Rattle.scan.specs.Inner.Tables.{word_at}
use Rattle.scan.proofs.LetterLaws.{letter_fits, fitting, by_letter}
use Rattle.lines.specs.declared.word.Word.{Word}
use Rattle.lines.specs.Inner.Dispatch.{command_words, command_word}

-- the words that begin with a letter
abbrev pub words_by : ℕ → List (List ℕ × Word)
words_by b = fitting 0 b command_words

-- no other letter begins one
pub no_words : (b : ℕ) → (66 ≡ b → ⊥) → (69 ≡ b → ⊥) → (73 ≡ b → ⊥) → (78 ≡ b → ⊥) → (80 ≡ b → ⊥) → (82 ≡ b → ⊥) → (83 ≡ b → ⊥) → (84 ≡ b → ⊥) → words_by b ≡ []
unfolding command_words fitting letter_fits
no_words b e n i p q r s t = rw (ne_eqb 66 b e, ne_eqb 69 b n, ne_eqb 73 b i, ne_eqb 78 b p, ne_eqb 80 b q, ne_eqb 82 b r, ne_eqb 83 b s, ne_eqb 84 b t)

-- those that may stand, by the first letter,
pub by_first : (l : List ℕ) {r b : ℕ} {es : List (List ℕ × Word)} → r ≡ byte_at l 1 → r ≡ b → words_by b ≡ es → word_at es l 1 ≡ command_word l
unfolding command_word
by_first l {b = b} e q w = subst (λ (es : List (List ℕ × Word)). word_at es l 1 ≡ command_word l) w (sym (by_letter 0 b command_words l 1 (sym e ∙ q)))

-- and by another
pub by_second : (j a : ℕ) (l : List ℕ) {r b : ℕ} {es : List (List ℕ × Word)} → byte_at l 1 ≡ a → r ≡ byte_at l (1 + j) → r ≡ b → fitting j b (words_by a) ≡ es → word_at es l 1 ≡ command_word l
unfolding command_word
by_second j a l {b = b} first e q w = subst (λ (es : List (List ℕ × Word)). word_at es l 1 ≡ command_word l) w (sym (by_letter 0 a command_words l 1 first ∙ by_letter j b (words_by a) l 1 (sym e ∙ q)))
