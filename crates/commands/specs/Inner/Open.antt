-- The words that stand for the open tables, and what its contracts say.
use Rattle.std.specs.Prelude.{◌≡◌, Bool, true, false, cond, List, [], ◌∷◌, ℕ, zero, suc, ◌+◌, ◌-◌, ◌*◌, ◌%◌, ◌≤◌, ℤ, length, get_or, Result, Ok}
use Rattle.meaning.specs.declared.refusal.Refusal.{Refusal}
use Rattle.commands.specs.declared.table.Table.{Table}
use Rattle.values.specs.Inner.State.{bank, tables_in}
use Rattle.commands.specs.Settling.{Settled, and_then}
use Rattle.commands.specs.Inner.Taking.{mapped}
use Rattle.commands.specs.Looping.{Looping, looping, begun, counted}

-- table i, counted from 0: its counter, its n, and the line after its $BT by place and number
abbrev pub table_in : List ℕ → ℕ → Table
table_in ws i =
    record {
      counter = get_or ws (i * 4) 0 % 4294967296;
      last = get_or ws (i * 4 + 1) 0;
      start = get_or ws (i * 4 + 2) 0;
      line = get_or ws (i * 4 + 3) 0 % 4294967296;
    }

-- so many are open: the innermost first
unfoldable pub opened : List ℕ → ℕ → List Table
opened ws zero = []
opened ws (suc d) = table_in ws d ∷ opened ws d

abbrev pub open_of : List ℕ → ℕ → List Table
open_of words d = opened (tables_in words) d

-- where $BT leads with so many open before it: a table more, or past the matching $ET
abbrev pub beginning : List ℕ → ℕ → Bool → Looping
beginning words d holds = cond holds (looping (open_of words (d + 1)) false) (looping (open_of words d) true)

-- where $ET leads: another pass, or the innermost table is closed
abbrev pub passing : List ℕ → ℕ → Bool → Looping
passing words d holds = cond holds (looping (open_of words d) true) (looping (open_of words (d - 1)) false)

-- What the calls require: so many tables are open at most.
pub record AtMostOpen (n : ℕ) (words : List ℕ) (d : ℕ) : Type 0 where
  pub few : d ≤ n
  pub row : 148 ≤ length words

-- no other register is set
pub record Stays (words words' : List ℕ) : Type 0 where
  pub others : (i k : ℕ) → i + k ≤ 128 → bank i k words' ≡ bank i k words
  pub above : (i k : ℕ) → 148 ≤ i → bank i k words' ≡ bank i k words
  pub same : length words' ≡ length words

-- a table more
pub record Pushes (words : List ℕ) (d : ℕ) (t : Table) (words' : List ℕ) : Type 0 where
  pub more : open_of words' (d + 1) ≡ t ∷ open_of words d
  pub rest : open_of words' d ≡ open_of words d
  pub stays : Stays words words'

-- $BT and $ET with their value
abbrev pub begin_from : List Table → ℕ → ℕ → Settled ℤ → Settled Looping
begin_from ts start next x = and_then x (λ z. Ok (begun ts start next z))

abbrev pub end_from : List Table → Settled ℤ → Settled Looping
end_from ts x = and_then x (λ k. counted ts k)

-- What `begin_table` and `end_table` say.
pub record BeginsTable (t : Result ℤ Refusal) (start next : ℕ) (words : List ℕ) (d : ℕ) (words' : List ℕ) (r : Result Bool Refusal) : Type 0 where
  pub same : begin_from (open_of words d) start next t ≡ mapped (beginning words' d) r
  pub rest : open_of words' d ≡ open_of words d
  pub stays : Stays words words'

pub record EndsTable (t : Result ℤ Refusal) (words : List ℕ) (d : ℕ) (words' : List ℕ) (r : Result Bool Refusal) : Type 0 where
  pub same : end_from (open_of words d) t ≡ mapped (passing words' d) r
  pub stays : Stays words words'
