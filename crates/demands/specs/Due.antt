-- The line that is due in a state, and the states in which a run goes on behind it.
use Rattle.std.specs.Prelude.{List, ◌∷◌, ℕ, ◌+◌, ℤ, nat_abs, length}
use Rattle.scan.specs.Line.{line_at, next_line}
use Rattle.commands.specs.Looping.{new_table}
use Rattle.control.specs.State.{Position, State, with_position, with_tables}
use Rattle.control.specs.Line.{past_line}

-- its bytes
abbrev pub bytes_due : List ℕ → State → List ℕ
bytes_due t s = line_at t s.position.at

-- with the next line due
abbrev pub on_next : List ℕ → State → State
on_next t s = past_line s (length (bytes_due t s))

-- with the line at a position due
abbrev pub on_at : State → Position → State
on_at s p = with_position s p.at p.line

-- in a table that counts up to n, its first line due
abbrev pub in_table : List ℕ → State → ℤ → State
in_table t s n = with_tables (on_next t s) (new_table (nat_abs n) (next_line t s.position.at) (s.position.line + 1) ∷ s.tables)
