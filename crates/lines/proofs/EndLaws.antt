-- No argument and no name starts at a line's end, so that `behind_space` may stand for the lack of a space.
use Rattle.std.specs.Prelude.{None}
use mathlib.Core.Path.{◌≡◌}
use mathlib.Core.List.{List}
use Prim.Native.Nat.{ℕ, ◌≤◌}
use lib.ListN.{length, drop_of_length-le, get_or-eq_default}
use Rattle.scan.specs.Run.{span}
use Rattle.scan.specs.Line.{byte_at}
use Rattle.scan.specs.Readers.Digits.{digits_at, number_at}
use Rattle.scan.specs.Words.{begins, stands_at, first_of}
use Rattle.arguments.specs.Readers.Literal.{unsigned_at, literal_at}
use Rattle.arguments.specs.Readers.Index.{index_at}
use Rattle.arguments.specs.Readers.Operand.{names, named_at, number_or, operand_at}
use Rattle.arguments.specs.Readers.Argument.{argument_of, argument_at}
use Rattle.lines.specs.Readers.Fetch.{parameter_at}
use Rattle.lines.specs.Readers.Title.{name_at}

module _ (l : List ℕ) (at : ℕ) (h : length l ≤ at) where
  no_byte : byte_at l at ≡ 0
  unfolding byte_at
  no_byte = get_or-eq_default l 0 h

  pub no_number : (limit : ℕ) → number_at l at limit ≡ None
  unfolding span digits_at number_at
  no_number limit = rw (no_byte, drop_of_length-le l h)

  pub no_parameter : parameter_at l at ≡ None
  unfolding parameter_at
  no_parameter = rw no_byte

  pub no_index : index_at l at ≡ None
  unfolding span digits_at begins stands_at index_at
  no_index = rw (drop_of_length-le l h)

  pub no_operand : operand_at l at ≡ None
  unfolding span digits_at begins stands_at first_of unsigned_at literal_at names named_at number_or operand_at
  no_operand = rw (no_byte, drop_of_length-le l h)

  pub no_argument : argument_at l at ≡ None
  unfolding argument_of argument_at
  no_argument = rw no_operand

  pub no_name : name_at l at ≡ None
  unfolding span name_at
  no_name = rw (drop_of_length-le l h)
