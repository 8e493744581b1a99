-- What the contracts of commands say of an argument, and of what they come to.
use Rattle.meaning.specs.declared.refusal.Refusal.{Refusal}
use Rattle.std.specs.Prelude.{◌≡◌, List, ℕ, ℤ, Option, Some, None, Result, Ok, Err}
use Rattle.arguments.specs.declared.argument.Argument.{Argument}
use Rattle.values.specs.declared.string.Text.{Text}
use Rattle.numbers.specs.declared.Quantity.{Quantity}
use Rattle.values.specs.Inner.Texts.{Strings, text_of}
use Rattle.values.specs.declared.worth.Worth as W
use Rattle.values.specs.Worth as D
use Rattle.values.specs.Inner.Yielding.{meant}
use Rattle.commands.specs.Settling.{Settled, and_then, integer_from, quantity_from, string_from}

-- a string or why there is none, as the code has it
abbrev pub phrase_of : Strings → Result Text Refusal → Settled (List ℕ)
phrase_of s (Ok t) = Ok (text_of s t)
phrase_of s (Err e) = Err e

-- what follows from a result
abbrev pub mapped : {A B : Type 0} → (A → B) → Settled A → Settled B
mapped f x = and_then x (λ y. Ok (f y))

-- `$ET [k]`, `$NP [n]`: z stands for none
unfoldable pub integer_or : ℤ → Option Argument → D.Worth → Settled ℤ
integer_or z None w = Ok z
integer_or z (Some a) w = integer_from w

-- r is the number that is taken from w, wherever strings lie; the same of a number of either kind, and of a string
pub record Takes (from : D.Worth → Settled ℤ) (w : W.Worth) (r : Result ℤ Refusal) : Type 0 where
  pub same : (s : Strings) → r ≡ from (meant s w)

pub record TakesQuantity (w : W.Worth) (r : Result Quantity Refusal) : Type 0 where
  pub same : (s : Strings) → r ≡ quantity_from (meant s w)

pub record TakesText (w : W.Worth) (r : Result Text Refusal) : Type 0 where
  pub same : (s : Strings) → phrase_of s r ≡ string_from (meant s w)
