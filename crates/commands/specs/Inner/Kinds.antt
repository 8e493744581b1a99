-- The tests of two numbers as the code goes through them (proofs/Tests: kind_numbers).
use Rattle.std.specs.Prelude.{Bool, false, not}
use Rattle.numbers.specs.declared.Quantity.{Quantity}
use Rattle.numbers.specs.Order.{less_than, at_most, equal_to}
use Rattle.lines.specs.declared.command.Comparison.{Comparison}
use Rattle.lines.specs.declared.command.Comparison.TheVariants.{SameString, SameLetters, Equal, NotEqual, Less, AtMost, Greater, AtLeast}

-- whether a test of numbers holds; no test of strings does
unfoldable pub numbers_hold : Comparison → Quantity → Quantity → Bool
numbers_hold SameString p q = false
numbers_hold SameLetters p q = false
numbers_hold Equal p q = equal_to p q
numbers_hold NotEqual p q = not (equal_to p q)
numbers_hold Less p q = less_than p q
numbers_hold AtMost p q = at_most p q
numbers_hold Greater p q = less_than q p
numbers_hold AtLeast p q = at_most q p
