-- A test of numbers, as the code has it.
use mathlib.Core.Path.{◌≡◌, refl}
use Rattle.lines.specs.declared.command.Comparison.{Comparison}
use Rattle.lines.specs.declared.command.Comparison.TheVariants.{SameString, SameLetters, Equal, NotEqual, Less, AtMost, Greater, AtLeast}
use Rattle.values.specs.Worth as D
use Rattle.commands.specs.Testing.{of_numbers, judged}
use Rattle.commands.specs.Inner.Kinds.{numbers_hold}

pub kind_numbers : (c : Comparison) (v w : D.Worth) → (c ≡ SameString → ⊥) → (c ≡ SameLetters → ⊥) → judged c v w ≡ of_numbers (numbers_hold c) v w
unfolding judged numbers_hold
kind_numbers SameString v w n m = absurd (n refl)
kind_numbers SameLetters v w n m = absurd (m refl)
kind_numbers Equal v w n m = refl
kind_numbers NotEqual v w n m = refl
kind_numbers Less v w n m = refl
kind_numbers AtMost v w n m = refl
kind_numbers Greater v w n m = refl
kind_numbers AtLeast v w n m = refl
