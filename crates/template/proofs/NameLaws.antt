-- Laws of a line's step in check 5.
use Rattle.std.specs.Prelude.{Some, None}
use mathlib.Core.Path.{◌≡◌}
use mathlib.Core.Bool.{Bool, true, false}
use mathlib.Core.List.{List}
use Prim.Native.Nat.{ℕ, ◌+◌}
use borrow.Author.Tests.{eq-eqb, ne_eqb}
use lib.ListN.{length, take}
use Rattle.template.specs.Name.{name_of}
use Rattle.template.specs.Lines.{lines_of}
use Rattle.template.specs.Checks.{has_name, came_before, name_step}

pub name_unnamed : (t line name : List ℕ) (n : ℕ) → name ≡ name_of line → length name ≡ 0 → name_step t n line ≡ Some (n + 1)
unfolding name_step came_before
name_unnamed t line name n o z = rw (← o, eq-eqb _ _ z)

module _ (t line name : List ℕ) (n : ℕ) (b : Bool) (o : name ≡ name_of line) (named : length name ≡ 0 → ⊥) (q : b ≡ has_name name (take n (lines_of t))) where
  pub name_repeated : b ≡ true → name_step t n line ≡ None
  unfolding name_step came_before
  name_repeated x = rw (← o, ne_eqb _ _ named, ← q, x)

  pub name_fresh : b ≡ false → name_step t n line ≡ Some (n + 1)
  unfolding name_step came_before
  name_fresh x = rw (← o, ne_eqb _ _ named, ← q, x)
