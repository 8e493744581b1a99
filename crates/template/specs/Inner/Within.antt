-- Where a section's line is found.
use Rattle.std.specs.Prelude.{List, ℕ, ◌+◌, ◌≤◌, ◌<◌, length, Option, Some, None}

-- a line that was found starts in the template, and no more lines than bytes stand before it
unfoldable pub Within : List ℕ → Option (ℕ × ℕ) → Type 0
Within t (Some (at, n)) = (at < length t) × (n ≤ at + 1)
Within t None = Unit
