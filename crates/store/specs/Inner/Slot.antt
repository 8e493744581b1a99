-- Where an edit takes place in the bytes of a store.
use Rattle.std.specs.Prelude.{◌≡◌, List, ◌++◌, ℕ, ◌+◌, ◌-◌, ◌≤◌, length, take, drop, replicate, Some, None}
use Rattle.std.specs.Option.{unwrap_or}
use Rattle.std.proofs.lemmas.List.Edits.{sets}
use Rattle.cells.specs.Cell.{Cell}
use Rattle.cells.specs.Store.{encode}
use Rattle.cells.specs.Inner.Index.{Ready}
use Rattle.cells.specs.Asking.{lookup}
use Rattle.store.specs.declared.Slot.{Slot}
use Rattle.store.specs.Edit.{lower, higher}

-- b with the `size` bytes at `at` replaced, the rest of its first n bytes behind, and zeros up to n
unfoldable pub replaced : List ℕ → ℕ → ℕ → ℕ → List ℕ → List ℕ
replaced b n at size s =
    sets b 0 (take at b ++ (s ++ (take (n - (at + size)) (drop (at + size) b) ++ replicate (n - (at + length s + (n - (at + size)))) 0)))

-- the stretch between the cells with lower and those with higher keys
pub record Stretch (b : List ℕ) (n : ℕ) (cs : List Cell) (k at size : ℕ) : Type 0 where
  pub left : take at b ≡ encode (lower k cs)
  pub right : take (n - (at + size)) (drop (at + size) b) ≡ encode (higher k cs)
  pub inside : at + size ≤ n
  pub missing : size ≡ 0 → lookup k cs ≡ None
  pub found : 1 ≤ size → (c : Cell) × (lookup k cs ≡ Some c)

pub record SlotOf (b : List ℕ) (n : ℕ) (starts : List ℕ) (count k : ℕ) (r : Slot) : Type 0 where
  pub stretch : (cs : List Cell) → Ready b n starts count cs → Stretch b n cs k r.at (unwrap_or r.size 0)
  pub sized : (cs : List Cell) → Ready b n starts count cs → (size : ℕ) → r.size ≡ Some size → 1 ≤ size
