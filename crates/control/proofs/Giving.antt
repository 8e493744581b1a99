-- What the trees of commands give, whatever the answers are: they only ask, and what they yield keeps what a run needs.
use Rattle.std.specs.Prelude.{Option, Some, None, Err, Ok}
use mathlib.Core.Path.{◌≡◌, refl}
use mathlib.Core.Bool.{Bool, true, false, cond, ◌||◌, ◌&&◌}
use mathlib.Core.List.{List, [], ◌∷◌}
use Prim.Native.Nat.{ℕ, zero, suc, ◌+◌, ◌≤◌}
use native.Mathlib.Omega.{arith}
use borrow.Author.Tests.{leb-true, ltb-false}
use lib.Dec.{leb, ltb}
use lib.IntN.{ℤ, pos, negsuc, nat_abs}
use lib.Signed.{lt_z}
use lib.ListN.{length, drop, length-set}
use Rattle.meaning.specs.Each.{Each}
use Rattle.meaning.specs.Tree.{done, bind}
use Rattle.meaning.specs.declared.refusal.Refusal.TheVariants.{BadIndex, OutOfRange}
use Rattle.arguments.specs.declared.argument.Argument.{Argument}
use Rattle.arguments.specs.declared.index.Index.{Index}
use Rattle.lines.specs.declared.command.Comparison.{Comparison}
use Rattle.lines.specs.declared.command.Fetch.{Fetch}
use Rattle.lines.specs.declared.command.Operation.{Operation}
use Rattle.lines.specs.declared.command.Target.{Target}
use Rattle.lines.specs.declared.command.Target.TheVariants.{IntegerTarget, DecimalTarget, StringTarget}
use Rattle.values.specs.declared.fetch.Along.TheVariants.{Records, Entries}
use Rattle.values.specs.Machine.{Machine, Variables, set_numbered}
use Rattle.values.specs.Indexes.{index_number}
use Rattle.values.specs.Fetching.{fetch_meaning}
use Rattle.values.specs.Worth.{Worth}
use Rattle.values.specs.Meanings.{argument_meaning}
use Rattle.values.proofs.Giving.{Gives, Anything, gives_bind, argument_gives, fetch_gives}
use Rattle.commands.specs.declared.table.Table.{Table}
use Rattle.commands.specs.Settling.{Settled, and_then, concluded, integer_from, integer_meaning}
use Rattle.commands.specs.Setting.{as_variable, set_of, set_meaning}
use Rattle.commands.specs.Testing.{zero_judged, compared, zero_meaning, test_meaning}
use Rattle.control.specs.Fetching.{with_records, with_entries, records_meaning, entries_meaning}
use Rattle.commands.specs.Looping.{loop, Looping, looping, new_table, begun, begin_meaning, innermost, exceeds, counted_to, counting, counted, end_meaning}
use Rattle.control.specs.Selecting.{datasource_from, datasource_meaning}

-- Φ a where x is settled with a
abbrev pub Whenever : {A : Type 0} → Settled A → (A → Type 0) → Type 0
Whenever (Ok a) Φ = Φ a
Whenever (Err e) Φ = Unit {0}

module _ {A : Type 0} where
  pub gives_concluded : (line : ℕ) (x : Settled A) (Φ : A → Type 0) → Whenever x Φ → Gives (concluded line x) Φ
  gives_concluded line (Ok a) Φ h = h
  gives_concluded line (Err e) Φ h = h

  pub whenever_then : {B : Type 0} (x : Settled A) (f : A → Settled B) (Φ : A → Type 0) (Ψ : B → Type 0) → Whenever x Φ → ((a : A) → Φ a → Whenever (f a) Ψ) → Whenever (and_then x f) Ψ
  whenever_then (Ok a) f Φ Ψ h g = g a h
  whenever_then (Err e) f Φ Ψ h g = tt

  whenever_any : (x : Settled A) → Whenever x Anything
  whenever_any (Ok a) = tt
  whenever_any (Err e) = tt

module _ (m : Machine) (s : List ℕ) (line : ℕ) where
  -- an argument, and what follows from its value
  followed : {A : Type 0} (a : Argument) (f : Worth → Settled A) (Φ : A → Type 0) → ((w : Worth) → Whenever (f w) Φ) → Gives (bind (argument_meaning m s line a) (λ w. concluded line (f w))) Φ
  followed a f Φ g =
      gives_bind (argument_meaning m s line a) (λ w. concluded line (f w)) Anything Φ (argument_gives m s line a) (λ w h. gives_concluded line (f w) Φ (g w))

  pub integer_gives : (a : Argument) → Gives (integer_meaning m s line a) Anything
  unfolding integer_meaning
  integer_gives a = followed a integer_from Anything (λ w. whenever_any (integer_from w))

  -- ---- tests

  pub zero_gives : (wanted : Bool) (a : Argument) → Gives (zero_meaning m s line wanted a) Anything
  unfolding zero_meaning
  zero_gives wanted a = followed a (zero_judged wanted) Anything (λ w. whenever_any (zero_judged wanted w))

  pub test_gives : (c : Comparison) (a b : Argument) → Gives (test_meaning m s line c a b) Anything
  unfolding test_meaning
  test_gives c a b =
      gives_bind (argument_meaning m s line a) (λ v. bind (argument_meaning m s line b) (λ w. concluded line (compared c v w))) Anything Anything (argument_gives m s line a) (λ v h. followed b (compared c v) Anything (λ w. whenever_any (compared c v w)))

-- ---- variables

-- as many variables
pub record Shaped (v v' : Variables) : Type 0 where
  pub integers : length v'.integers ≡ length v.integers
  pub decimals : length v'.decimals ≡ length v.decimals
  pub strings : length v'.strings ≡ length v.strings
  pub records : length v'.records ≡ length v.records
  pub entries : length v'.entries ≡ length v.entries

pub numbered_length : {A : Type 0} (l : List A) (n : ℕ) (x : A) → length (set_numbered l n x) ≡ length l
unfolding set_numbered
numbered_length l zero x = refl
numbered_length l (suc k) x = length-set l k x

-- a result as the n-th of l
stored_length : {A : Type 0} (l : List A) (n : ℕ) (x : Settled A) → Whenever (as_variable l n x) (λ l'. length l' ≡ length l)
unfolding as_variable
stored_length l n (Ok x) = numbered_length l n x
stored_length l n (Err e) = tt

set_shapes : (v : Variables) (o : Operation) (t : Target) (w : Worth) → Whenever (set_of v o t w) (Shaped v)
unfolding set_of
set_shapes v o (IntegerTarget n) w =
    whenever_then (as_variable v.integers n _) _ (λ l. length l ≡ length v.integers) (Shaped v) (stored_length v.integers n _) (λ l h. record { integers = h; decimals = refl; strings = refl; records = refl; entries = refl })
set_shapes v o (DecimalTarget n) w =
    whenever_then (as_variable v.decimals n _) _ (λ l. length l ≡ length v.decimals) (Shaped v) (stored_length v.decimals n _) (λ l h. record { integers = refl; decimals = h; strings = refl; records = refl; entries = refl })
set_shapes v o (StringTarget n) w =
    whenever_then (as_variable v.strings n _) _ (λ l. length l ≡ length v.strings) (Shaped v) (stored_length v.strings n _) (λ l h. record { integers = refl; decimals = refl; strings = h; records = refl; entries = refl })

pub set_gives : (m : Machine) (s : List ℕ) (line : ℕ) (o : Operation) (t : Target) (a : Argument) → Gives (set_meaning m s line o t a) (Shaped m.variables)
unfolding set_meaning
set_gives m s line o t a = followed m s line a (set_of m.variables o t) (Shaped m.variables) (λ w. set_shapes m.variables o t w)

-- ---- $REC and $TBL

module _ (m : Machine) (line : ℕ) (f : Fetch) where
  pub records_gives : Gives (records_meaning m line f) (Shaped m.variables)
  unfolding records_meaning
  records_gives =
      gives_bind (fetch_meaning m line Records f.parameter f.«record» f.entry f.count) (λ l. done (with_records m.variables (set_numbered m.variables.records f.number l))) Anything (Shaped m.variables) (fetch_gives m line Records f.parameter f.«record» f.entry f.count) (λ l h. record { integers = refl; decimals = refl; strings = refl; records = numbered_length m.variables.records f.number l; entries = refl })

  pub entries_gives : Gives (entries_meaning m line f) (Shaped m.variables)
  unfolding entries_meaning
  entries_gives =
      gives_bind (fetch_meaning m line Entries f.parameter f.«record» f.entry f.count) (λ l. done (with_entries m.variables (set_numbered m.variables.entries f.number l))) Anything (Shaped m.variables) (fetch_gives m line Entries f.parameter f.«record» f.entry f.count) (λ l h. record { integers = refl; decimals = refl; strings = refl; records = refl; entries = numbered_length m.variables.entries f.number l })

-- ---- tables

-- what $BT leads to: it is skipped, or a table more is open
pub data Begun (ts : List Table) (start next : ℕ) : Looping → Type 0 where
  skipped : Begun ts start next (looping ts true)
  opened : (n : ℕ) → Begun ts start next (looping (new_table n start next ∷ ts) false)

-- what $ET leads to: the innermost table has ended, or it is counted on within its limits
pub data Counting (ts : List Table) : Looping → Type 0 where
  ended : Counting ts (looping (drop 1 ts) false)
  again : (c : ℕ) → c ≤ 2000000000 → c ≤ (innermost ts).last → Counting ts (looping (counted_to (innermost ts) c ∷ drop 1 ts) true)

begun_is : (ts : List Table) (start next : ℕ) (n : ℤ) → Begun ts start next (begun ts start next n)
unfolding begun
begun_is ts start next n = by (lt_z n (pos 1))
  where
    by : (b : Bool) → Begun ts start next (cond b (looping ts true) (looping (new_table (nat_abs n) start next ∷ ts) false))
    by true = skipped
    by false = opened (nat_abs n)

counting_is : (ts : List Table) (c : ℕ) → Counting ts (counting ts c)
unfolding counting exceeds
counting_is ts c = by (ltb 2000000000 c) refl (ltb (innermost ts).last c) refl
  where
    by : (b : Bool) → ltb 2000000000 c ≡ b → (d : Bool) → ltb (innermost ts).last c ≡ d → Counting ts (cond (b || d) (looping (drop 1 ts) false) (looping (counted_to (innermost ts) c ∷ drop 1 ts) true))
    by true e d f = ended
    by false e true f = ended
    by false e false f = again c (ltb-false 2000000000 c e) (ltb-false (innermost ts).last c f)

counted_is : (ts : List Table) (k : ℤ) → Whenever (counted ts k) (Counting ts)
unfolding counted
counted_is ts k = by (lt_z k (pos 1))
  where
    by : (b : Bool) → Whenever (cond b (Err OutOfRange) (Ok (counting ts ((innermost ts).counter + nat_abs k)))) (Counting ts)
    by true = tt
    by false = counting_is ts ((innermost ts).counter + nat_abs k)

module _ (m : Machine) (s : List ℕ) (line : ℕ) (ts : List Table) where
  pub begin_gives : (start next : ℕ) (a : Argument) → Gives (begin_meaning m s line ts start next a) (Begun ts start next)
  unfolding begin_meaning
  begin_gives start next a =
      gives_bind (integer_meaning m s line a) (λ n. done (begun ts start next n)) Anything (Begun ts start next) (integer_gives m s line a) (λ n h. begun_is ts start next n)

  pub end_gives : (o : Option Argument) → Gives (end_meaning m s line ts o) (Counting ts)
  unfolding end_meaning
  end_gives None = gives_concluded line (counted ts (pos 1)) (Counting ts) (counted_is ts (pos 1))
  end_gives (Some a) =
      gives_bind (integer_meaning m s line a) (λ k. concluded line (counted ts k)) Anything (Counting ts) (integer_gives m s line a) (λ k h. gives_concluded line (counted ts k) (Counting ts) (counted_is ts k))

-- Counters and limits of tables are integers within their range, where $BT takes one.
pub record Bounded (t : Table) : Type 0 where
  pub counter : t.counter ≤ 2000000000
  pub last : t.last ≤ 2000000000

drop_each : (ts : List Table) → Each Bounded ts → Each Bounded (drop 1 ts)
drop_each [] h = tt
drop_each (t ∷ ts) h = h.1

innermost_last : (ts : List Table) → Each Bounded ts → (innermost ts).last ≤ 2000000000
innermost_last [] h = omega arith
innermost_last (t ∷ ts) h = h.0.last

pub begun_bounded : (ts : List Table) (start next : ℕ) (n : ℤ) → nat_abs n ≤ 2000000000 → Each Bounded ts → Each Bounded (begun ts start next n).tables
unfolding begun
begun_bounded ts start next n k h = by (lt_z n (pos 1))
  where
    by : (b : Bool) → Each Bounded (cond b (looping ts true) (looping (new_table (nat_abs n) start next ∷ ts) false)).tables
    by true = h
    by false = (record { counter = omega arith; last = k }, h)

pub counting_bounded : (ts : List Table) (l : Looping) → Counting ts l → Each Bounded ts → Each Bounded l.tables
counting_bounded ts _ ended h = drop_each ts h
counting_bounded ts _ (again c j k) h = (record { counter = j; last = innermost_last ts h }, drop_each ts h)

-- LOOP is then an integer within its range.
pub loop_bounded : (ts : List Table) → Each Bounded ts → loop ts ≤ 2000000000
unfolding loop
loop_bounded [] h = omega arith
loop_bounded (t ∷ ts) h = h.0.counter

-- ---- $SETDS

-- "datasource 1–35"
pub record Selectable (n : ℕ) : Type 0 where
  pub low : 1 ≤ n
  pub high : n ≤ 35

from_selectable : (z : ℤ) → Whenever (datasource_from z) Selectable
unfolding datasource_from
from_selectable (negsuc n) = tt
from_selectable (pos n) = by (leb 1 n) refl (leb n 35) refl
  where
    by : (b : Bool) → leb 1 n ≡ b → (d : Bool) → leb n 35 ≡ d → Whenever (cond (b && d) (Ok n) (Err BadIndex)) Selectable
    by true e true f = record { low = leb-true 1 n e; high = leb-true n 35 f }
    by true e false f = tt
    by false e d f = tt

pub datasource_gives : (m : Machine) (line : ℕ) (i : Index) → Gives (datasource_meaning m line i) Selectable
unfolding datasource_meaning
datasource_gives m line i = gives_concluded line (datasource_from (index_number m.variables.integers m.counter i)) Selectable (from_selectable (index_number m.variables.integers m.counter i))
