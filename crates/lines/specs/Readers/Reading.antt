-- What was read in a line, with the place behind it, handed on; or what stands for its lack.
use Rattle.std.specs.Prelude.{ℕ, Option, Some, None}
use Rattle.arguments.specs.declared.argument.Argument.{Argument}
use Rattle.arguments.specs.declared.index.Index.{Index}

module _ {A : Type 0} (lack : A) where
  abbrev pub argument_or : Option (Argument × ℕ) → (Argument → ℕ → A) → A
  argument_or (Some (a, next)) found = found a next
  argument_or None found = lack

  abbrev pub index_or : Option (Index × ℕ) → (Index → ℕ → A) → A
  index_or (Some (i, next)) found = found i next
  index_or None found = lack

  abbrev pub numeral_or : Option (ℕ × ℕ) → (ℕ → ℕ → A) → A
  numeral_or (Some (n, next)) found = found n next
  numeral_or None found = lack
