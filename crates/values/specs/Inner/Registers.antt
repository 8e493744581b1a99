-- What the calls that set a register say.
use Rattle.std.specs.Prelude.{◌≡◌, List, ℕ, ◌+◌, ◌≤◌}
use Rattle.values.specs.Machine.{set_numbered}
use Rattle.values.specs.Inner.State.{bank}

-- the n-th of a part is x now, any other what it was, and so is every other part
pub record Puts {A : Type 0} (l : List A) (from size n : ℕ) (x : A) (l' : List A) : Type 0 where
  pub own : bank from size l' ≡ set_numbered (bank from size l) n x
  pub below : (i k : ℕ) → i + k ≤ from → bank i k l' ≡ bank i k l
  pub above : (i k : ℕ) → from + size ≤ i → bank i k l' ≡ bank i k l
