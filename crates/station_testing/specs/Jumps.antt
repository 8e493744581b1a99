-- What the call for tests hands back of a jump in a template.
use Rattle.std.specs.Prelude.{◌≡◌, cond, ℕ, eqb}
use Rattle.template.specs.declared.seek.Sought.{Sought}
use Rattle.template.specs.declared.seek.Sought.TheVariants.{Branch, TestEnd, TableEnd}
use Rattle.template.specs.declared.seek.Skip.{Skip}

-- the search of a code: a failed test, an executed $ELSE, and a skipped table for any other
unfoldable pub sought_of : ℕ → Sought
sought_of n = cond (eqb n 0) Branch (cond (eqb n 1) TestEnd TableEnd)

-- b bytes and n lines are passed over
pub record ToldSkip (x : Skip) (b n : ℕ) : Type 0 where
  pub bytes : b ≡ x.bytes
  pub lines : n ≡ x.lines
