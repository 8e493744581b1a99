-- Commands ask only questions within their limits, where their arguments lie within theirs.
use Rattle.std.specs.Prelude.{Option, Some, None, Err, Ok}
use mathlib.Core.Bool.{Bool}
use mathlib.Core.List.{List}
use Prim.Native.Nat.{ℕ}
use lib.IntN.{pos}
use Rattle.meaning.specs.Tree.{done, bind}
use Rattle.meaning.proofs.Questions.{asks_then}
use Rattle.cells.proofs.Limits.{AnswerWithin}
use Rattle.arguments.specs.declared.argument.Argument.{Argument}
use Rattle.arguments.specs.declared.index.Index.{Index}
use Rattle.arguments.proofs.Parsed.{Between, ArgumentWithin}
use Rattle.lines.specs.declared.command.Comparison.{Comparison}
use Rattle.lines.specs.declared.command.Fetch.{Fetch}
use Rattle.lines.specs.declared.command.Operation.{Operation}
use Rattle.lines.specs.declared.command.Target.{Target}
use Rattle.lines.proofs.Accepted.{OptionalWithin, FetchWithin}
use Rattle.values.specs.declared.fetch.Along.TheVariants.{Records, Entries}
use Rattle.values.specs.Machine.{Machine, set_numbered}
use Rattle.values.specs.Indexes.{index_number}
use Rattle.values.specs.Fetching.{fetch_meaning}
use Rattle.values.specs.Worth.{Worth}
use Rattle.values.specs.Meanings.{argument_meaning}
use Rattle.values.proofs.Allowed.{Allowed, AsksAllowed, argument_asks, fetch_asks}
use Rattle.commands.specs.declared.table.Table.{Table}
use Rattle.commands.specs.Settling.{Settled, concluded, integer_from, integer_meaning}
use Rattle.commands.specs.Setting.{set_of, set_meaning}
use Rattle.commands.specs.Testing.{zero_judged, compared, zero_meaning, test_meaning}
use Rattle.control.specs.Fetching.{with_records, with_entries, records_meaning, entries_meaning}
use Rattle.commands.specs.Looping.{begun, begin_meaning, counted, end_meaning}
use Rattle.control.specs.Selecting.{datasource_from, datasource_meaning}

concluded_asks : {A : Type 0} (line : ℕ) (x : Settled A) → AsksAllowed (concluded line x)
concluded_asks line (Ok a) = tt
concluded_asks line (Err e) = tt

module _ (m : Machine) (d : Between 1 35 m.datasource) (line : ℕ) where
  module _ (s : List ℕ) where
    -- an argument, and what follows from its value
    followed : {A : Type 0} (a : Argument) (f : Worth → Settled A) → ArgumentWithin s a → AsksAllowed (bind (argument_meaning m s line a) (λ w. concluded line (f w)))
    followed a f b = asks_then AnswerWithin Allowed (argument_meaning m s line a) (λ w. concluded line (f w)) (argument_asks m line d s a b) (λ w. concluded_asks line (f w))

    pub set_asks : (o : Operation) (t : Target) (a : Argument) → ArgumentWithin s a → AsksAllowed (set_meaning m s line o t a)
    unfolding set_meaning
    set_asks o t a b = followed a (set_of m.variables o t) b

    pub integer_asks : (a : Argument) → ArgumentWithin s a → AsksAllowed (integer_meaning m s line a)
    unfolding integer_meaning
    integer_asks a b = followed a integer_from b

    pub zero_asks : (wanted : Bool) (a : Argument) → ArgumentWithin s a → AsksAllowed (zero_meaning m s line wanted a)
    unfolding zero_meaning
    zero_asks wanted a b = followed a (zero_judged wanted) b

    pub test_asks : (c : Comparison) (a b : Argument) → ArgumentWithin s a → ArgumentWithin s b → AsksAllowed (test_meaning m s line c a b)
    unfolding test_meaning
    test_asks c a b x y =
        asks_then AnswerWithin Allowed (argument_meaning m s line a) (λ v. bind (argument_meaning m s line b) (λ w. concluded line (compared c v w))) (argument_asks m line d s a x) (λ v. followed b (compared c v) y)

    pub begin_asks : (ts : List Table) (start next : ℕ) (a : Argument) → ArgumentWithin s a → AsksAllowed (begin_meaning m s line ts start next a)
    unfolding begin_meaning
    begin_asks ts start next a b =
        asks_then AnswerWithin Allowed (integer_meaning m s line a) (λ n. done (begun ts start next n)) (integer_asks a b) (λ n. tt)

    pub end_asks : (ts : List Table) (k : Option Argument) → OptionalWithin s k → AsksAllowed (end_meaning m s line ts k)
    unfolding end_meaning
    end_asks ts None b = concluded_asks line (counted ts (pos 1))
    end_asks ts (Some a) b =
        asks_then AnswerWithin Allowed (integer_meaning m s line a) (λ k. concluded line (counted ts k)) (integer_asks a b) (λ k. concluded_asks line (counted ts k))

  pub records_asks : (f : Fetch) → FetchWithin f → AsksAllowed (records_meaning m line f)
  unfolding records_meaning
  records_asks f b =
      asks_then AnswerWithin Allowed (fetch_meaning m line Records f.parameter f.«record» f.entry f.count) (λ l. done (with_records m.variables (set_numbered m.variables.records f.number l))) (fetch_asks m line Records f.parameter f.«record» f.entry f.count d b.parameter) (λ l. tt)

  pub entries_asks : (f : Fetch) → FetchWithin f → AsksAllowed (entries_meaning m line f)
  unfolding entries_meaning
  entries_asks f b =
      asks_then AnswerWithin Allowed (fetch_meaning m line Entries f.parameter f.«record» f.entry f.count) (λ l. done (with_entries m.variables (set_numbered m.variables.entries f.number l))) (fetch_asks m line Entries f.parameter f.«record» f.entry f.count d b.parameter) (λ l. tt)

pub datasource_asks : (m : Machine) (line : ℕ) (i : Index) → AsksAllowed (datasource_meaning m line i)
unfolding datasource_meaning
datasource_asks m line i = concluded_asks line (datasource_from (index_number m.variables.integers m.counter i))
