-- $BT and $ET.
use Rattle.std.specs.Prelude.{Bool, true, false, cond, ◌||◌, List, [], ◌∷◌, ℕ, ◌+◌, ltb, ℤ, pos, nat_abs, get_or, drop, Option, Some, None, Err, Ok}
use Rattle.std.specs.Int.Signed.{lt_z}
use Rattle.meaning.specs.Tree.{done, bind}
use Rattle.meaning.specs.Meaning.{Meaning}
use Rattle.meaning.specs.declared.refusal.Refusal.TheVariants.{OutOfRange}
use Rattle.arguments.specs.declared.argument.Argument.{Argument}
use Rattle.values.specs.Machine.{Machine}
use Rattle.commands.specs.declared.table.Table.{Table}
use Rattle.commands.specs.Settling.{Settled, concluded, integer_meaning}

-- "LOOP is the innermost table's counter, 0 outside"; the open tables stand the innermost first
unfoldable pub loop : List Table → ℕ
loop [] = 0
loop (t ∷ ts) = t.counter

-- the open tables, and whether the run goes on elsewhere than at the next line: for $BT behind its $ET, for $ET at the line after $BT
pub record Looping : Type 0 where
  pub tables : List Table
  pub elsewhere : Bool

abbrev pub looping : List Table → Bool → Looping
looping ts b = record { tables = ts; elsewhere = b }

-- "the counter starts at 1"; "n is read once"; `start` and `next` are the line after $BT, by place and number
abbrev pub new_table : ℕ → ℕ → ℕ → Table
new_table n start next = record { counter = 1; last = n; start = start; line = next }

-- "With n below 1 the run continues after the matching $ET". "At most 5 are open": check 4 has seen to it.
unfoldable pub begun : List Table → ℕ → ℕ → ℤ → Looping
begun ts start next n = cond (lt_z n (pos 1)) (looping ts true) (looping (new_table (nat_abs n) start next ∷ ts) false)

-- "$BT n": "$BT, $ET and $NP take integers"
unfoldable pub begin_meaning : Machine → List ℕ → ℕ → List Table → ℕ → ℕ → Argument → Meaning Looping
begin_meaning m s line ts start next a = bind (integer_meaning m s line a) (λ n. done (begun ts start next n))

-- The innermost table. Check 4 has seen to it that one is open where a $ET stands (template/proofs/Opening:behind_end_table).
abbrev pub no_table : Table
no_table = record { counter = 0; last = 0; start = 0; line = 0 }

abbrev pub innermost : List Table → Table
innermost ts = get_or ts 0 no_table

-- "exceeds n"; "a counter past 2,000,000,000 has exceeded it"
unfoldable pub exceeds : ℕ → ℕ → Bool
exceeds c last = ltb 2000000000 c || ltb last c

abbrev pub counted_to : Table → ℕ → Table
counted_to t c = record { counter = c; last = t.last; start = t.start; line = t.line }

-- "ends the table when the counter exceeds n, else goes to the line after $BT"
unfoldable pub counting : List Table → ℕ → Looping
counting ts c =
    cond (exceeds c (innermost ts).last) (looping (drop 1 ts) false) (looping (counted_to (innermost ts) c ∷ drop 1 ts) true)

-- "$ET adds k"; 13: "or $ET's k is below 1"
unfoldable pub counted : List Table → ℤ → Settled Looping
counted ts k = cond (lt_z k (pos 1)) (Err OutOfRange) (Ok (counting ts ((innermost ts).counter + nat_abs k)))

-- "$ET [k]"; "(default 1)"
unfoldable pub end_meaning : Machine → List ℕ → ℕ → List Table → Option Argument → Meaning Looping
end_meaning m s line ts None = concluded line (counted ts (pos 1))
end_meaning m s line ts (Some a) = bind (integer_meaning m s line a) (λ k. concluded line (counted ts k))
