-- Commands keep a machine in range, where their arguments lie within their limits and answers within theirs. So a string that
-- SV takes is not cut, and a variable that is set is one of the machine's.
use Rattle.std.specs.Prelude.{Option, Result, Ok, Err}
use mathlib.Core.Path.{◌≡◌, refl, ap, subst, ◌∙◌}
use mathlib.Core.List.{List, [], ◌∷◌}
use Prim.Native.Nat.{ℕ, zero, suc, ◌≤◌}
use native.Mathlib.Omega.{arith}
use lib.IntN.{ℤ, pos, nat_abs}
use lib.ListN.{length, set}
use lib.Seq.{take_all, get_or-set_same}
use Rattle.meaning.specs.Each.{Each}
use Rattle.meaning.specs.Tree.{done, stop, ask, print}
use Rattle.meaning.specs.Meaning.{Meaning}
use Rattle.meaning.proofs.Yielding.{Yields, yields_bind, yields_more}
use Rattle.numbers.specs.declared.Quantity.{Quantity}
use Rattle.numbers.specs.declared.Quantity.TheVariants.{Integer, Decimal}
use Rattle.numbers.specs.Range.{integer_limit, decimal_limit}
use Rattle.numbers.specs.declared.ArithmeticError.{ArithmeticError}
use Rattle.numbers.specs.Arithmetic.{in_millionths}
use Rattle.numbers.proofs.Laws.{Inside, sum_bound, difference_bound, integer_product_bound, integer_quotient_bound, decimal_product_bound, decimal_quotient_bound, millionths_bound}
use Rattle.cells.proofs.Limits.{AnswerWithin}
use Rattle.arguments.specs.declared.argument.Argument.{Argument}
use Rattle.arguments.proofs.Parsed.{Between, QuantityWithin, ArgumentWithin}
use Rattle.lines.specs.declared.command.Fetch.{Fetch}
use Rattle.lines.proofs.Accepted.{TargetWithin, FetchWithin}
use Rattle.lines.specs.declared.command.Operation.{Operation}
use Rattle.lines.specs.declared.command.Operation.TheVariants.{Assign, Add, Subtract, Multiply, Divide}
use Rattle.lines.specs.declared.command.Target.{Target}
use Rattle.lines.specs.declared.command.Target.TheVariants.{IntegerTarget, DecimalTarget, StringTarget}
use Rattle.values.specs.declared.fetch.Along.TheVariants.{Records, Entries}
use Rattle.values.specs.Machine.{Machine, numbered, Variables, set_numbered}
use Rattle.values.specs.Fetching.{fetch_meaning}
use Rattle.values.specs.Worth.{Worth, missing, wrong, number, string}
use Rattle.values.specs.Meanings.{argument_meaning}
use Rattle.values.proofs.Giving.{Gives}
use Rattle.values.proofs.Ranges as R
use Rattle.values.proofs.Ranges.{IntegerWithin, DecimalWithin, Short, WorthWithin, MachineWithin, argument_within, fetch_within, All, VariablesWithin}
use Rattle.commands.specs.declared.table.Table.{Table}
use Rattle.commands.specs.Settling.{Settled, concluded, integer_from, quantity_from, string_from, result_of, millionths_of, decimal_from, integer_meaning}
use Rattle.commands.specs.Setting.{integer_result, decimal_result, as_variable, new_from, integer_new, decimal_new, string_new, set_of, set_meaning}
use Rattle.control.specs.Fetching.{with_records, with_entries, records_meaning, entries_meaning}
use Rattle.commands.specs.Looping.{begun, begin_meaning, end_meaning}
use Rattle.control.proofs.Giving.{Whenever, whenever_then, numbered_length, Counting, end_gives, Bounded, begun_bounded, counting_bounded}

-- what a tree that only asks gives, it yields
pub gives_yields : {A : Type 0} (t : Meaning A) (Φ : A → Type 0) → Gives t Φ → Yields AnswerWithin t Φ
gives_yields (done a) Φ h = h
gives_yields (stop e l) Φ h = tt
gives_yields (ask q l k) Φ h = λ r p. gives_yields (k r) Φ (h r)
gives_yields (print v l t) Φ h = absurd h

yields_concluded : {A : Type 0} (line : ℕ) (x : Settled A) (Φ : A → Type 0) → Whenever x Φ → Yields AnswerWithin (concluded line x) Φ
yields_concluded line (Ok a) Φ h = h
yields_concluded line (Err e) Φ h = tt

whenever_more : {A : Type 0} (x : Settled A) (Φ Ψ : A → Type 0) → Whenever x Φ → ((a : A) → Φ a → Ψ a) → Whenever x Ψ
whenever_more (Ok a) Φ Ψ h g = g a h
whenever_more (Err e) Φ Ψ h g = tt

-- ---- results

integer_from_law : (w : Worth) → WorthWithin w → Whenever (integer_from w) IntegerWithin
unfolding integer_from
integer_from_law missing h = tt
integer_from_law wrong h = tt
integer_from_law (number (Integer z)) h = h
integer_from_law (number (Decimal z)) h = tt
integer_from_law (string s) h = tt

quantity_from_law : (w : Worth) → WorthWithin w → Whenever (quantity_from w) QuantityWithin
unfolding quantity_from
quantity_from_law missing h = tt
quantity_from_law wrong h = tt
quantity_from_law (number q) h = h
quantity_from_law (string s) h = tt

result_within : (limit : ℕ) (o : Result ℤ ArithmeticError) → ((v : ℤ) → o ≡ Ok v → nat_abs v ≤ limit) → Whenever (result_of o) (λ v. nat_abs v ≤ limit)
unfolding result_of
result_within limit (Ok z) h = h z refl
result_within limit (Err e) h = tt

millionths_of_law : (q : Quantity) → QuantityWithin q → Whenever (millionths_of q) DecimalWithin
unfolding millionths_of
millionths_of_law (Integer n) h = result_within decimal_limit (in_millionths n) (λ v e. millionths_bound n v e)
millionths_of_law (Decimal m) h = h

decimal_from_law : (w : Worth) → WorthWithin w → Whenever (decimal_from w) DecimalWithin
unfolding decimal_from
decimal_from_law w h = whenever_then (quantity_from w) millionths_of QuantityWithin DecimalWithin (quantity_from_law w h) millionths_of_law

assigned : (limit : ℕ) (b v : ℤ) → nat_abs b ≤ limit → ◌≡◌ {A = Result ℤ ArithmeticError} (Ok b) (Ok v) → nat_abs v ≤ limit
assigned limit b v h e = let q : b ≡ v = cc in subst (λ z. nat_abs z ≤ limit) q h

integer_outcome : (o : Operation) (a b v : ℤ) → IntegerWithin b → integer_result o a b ≡ Ok v → IntegerWithin v
unfolding integer_result
integer_outcome Assign a b v h e = assigned integer_limit b v h e
integer_outcome Add a b v h e = sum_bound integer_limit a b v e
integer_outcome Subtract a b v h e = difference_bound integer_limit a b v e
integer_outcome Multiply a b v h e = integer_product_bound a b v e
integer_outcome Divide a b v h e = integer_quotient_bound a b v e

decimal_outcome : (o : Operation) (a b v : ℤ) → DecimalWithin b → decimal_result o a b ≡ Ok v → DecimalWithin v
unfolding decimal_result
decimal_outcome Assign a b v h e = assigned decimal_limit b v h e
decimal_outcome Add a b v h e = sum_bound decimal_limit a b v e
decimal_outcome Subtract a b v h e = difference_bound decimal_limit a b v e
decimal_outcome Multiply a b v h e = decimal_product_bound a b v e
decimal_outcome Divide a b v h e = decimal_quotient_bound a b v e

integer_new_law : (o : Operation) (a : ℤ) (w : Worth) → WorthWithin w → Whenever (integer_new o a w) IntegerWithin
unfolding new_from
integer_new_law o a w h =
    whenever_then (integer_from w) (λ b. result_of (integer_result o a b)) IntegerWithin IntegerWithin (integer_from_law w h) (λ b k. result_within integer_limit (integer_result o a b) (λ v e. integer_outcome o a b v k e))

decimal_new_law : (o : Operation) (a : ℤ) (w : Worth) → WorthWithin w → Whenever (decimal_new o a w) DecimalWithin
unfolding new_from
decimal_new_law o a w h =
    whenever_then (decimal_from w) (λ b. result_of (decimal_result o a b)) DecimalWithin DecimalWithin (decimal_from_law w h) (λ b k. result_within decimal_limit (decimal_result o a b) (λ v e. decimal_outcome o a b v k e))

-- "SV1–SV99 hold up to 16 bytes each": a string in range is taken whole.
pub string_whole : (w : Worth) → WorthWithin w → string_new w ≡ string_from w
unfolding string_new string_from
string_whole missing h = refl
string_whole wrong h = refl
string_whole (number q) h = refl
string_whole (string s) h = ap Ok (take_all 16 s h)

string_new_law : (w : Worth) → WorthWithin w → Whenever (string_new w) Short
unfolding string_from
string_new_law missing h = rw (string_whole missing h) tt
string_new_law wrong h = rw (string_whole wrong h) tt
string_new_law (number q) h = rw (string_whole (number q) h) tt
string_new_law (string s) h = rw (string_whole (string s) h) h

-- ---- variables

-- A number from 1 to the length names one of the list, which is then x.
pub set_there : {A : Type 0} (d : A) (l : List A) (n : ℕ) (x : A) → Between 1 (length l) n → numbered d (set_numbered l n x) n ≡ x
unfolding set_numbered numbered
set_there d l zero x h = absurd (omega (arith, h.least))
set_there d l (suc k) x h = get_or-set_same l k x d (omega (arith, h.most))

-- what is set is read again, whatever would stand for a number that there is none of
abbrev pub Held : {A : Type 0} → List A → ℕ → Type 0
Held {A} l n = (d x : A) → numbered d (set_numbered l n x) n ≡ x

pub held : {A : Type 0} (l : List A) (c n : ℕ) → length l ≡ c → Between 1 c n → Held l n
held l c n e h = λ d x. set_there d l n x (record { least = h.least; most = omega (arith, h.most) })

abbrev pub TargetThere : Variables → Target → Type 0
TargetThere v (IntegerTarget n) = Held v.integers n
TargetThere v (DecimalTarget n) = Held v.decimals n
TargetThere v (StringTarget n) = Held v.strings n

-- A variable that a parsed line sets is one that there is.
pub target_there : (v : Variables) → VariablesWithin v → (t : Target) → TargetWithin t → TargetThere v t
target_there v h (IntegerTarget n) b = held v.integers 99 n h.integers.count b
target_there v h (DecimalTarget n) b = held v.decimals 99 n h.decimals.count b
target_there v h (StringTarget n) b = held v.strings 99 n h.strings.count b

-- So is what $REC and $TBL fill.
pub fetch_there : (v : Variables) → VariablesWithin v → (f : Fetch) → FetchWithin f → Held v.records f.number × Held v.entries f.number
fetch_there v h f b = (held v.records 10 f.number h.records.count b.number, held v.entries 10 f.number h.entries.count b.number)

set_each : {A : Type 0} (P : A → Type 0) (l : List A) (k : ℕ) (x : A) → P x → Each P l → Each P (set l k x)
set_each P [] k x p h = tt
set_each P (y ∷ l) zero x p h = (p, h.1)
set_each P (y ∷ l) (suc k) x p h = (h.0, set_each P l k x p h.1)

pub numbered_each : {A : Type 0} (P : A → Type 0) (l : List A) (n : ℕ) (x : A) → P x → Each P l → Each P (set_numbered l n x)
unfolding set_numbered
numbered_each P l zero x p h = h
numbered_each P l (suc k) x p h = set_each P l k x p h

numbered_all : {A : Type 0} (P : A → Type 0) (c : ℕ) (l : List A) (n : ℕ) (x : A) → P x → All P c l → All P c (set_numbered l n x)
numbered_all P c l n x p h = record { each = numbered_each P l n x p h.each; count = numbered_length l n x ∙ h.count }

stored_all : {A : Type 0} (P : A → Type 0) (c : ℕ) (l : List A) (n : ℕ) (x : Settled A) → All P c l → Whenever x P → Whenever (as_variable l n x) (All P c)
unfolding as_variable
stored_all P c l n (Ok x) h p = numbered_all P c l n x p h
stored_all P c l n (Err r) h p = tt

module _ (v : Variables) (h : VariablesWithin v) where
  set_of_law : (o : Operation) (t : Target) (w : Worth) → WorthWithin w → Whenever (set_of v o t w) VariablesWithin
  unfolding set_of
  set_of_law o (IntegerTarget n) w k =
      whenever_then (as_variable v.integers n (integer_new o (numbered (pos 0) v.integers n) w)) _ (All IntegerWithin 99) VariablesWithin (stored_all IntegerWithin 99 v.integers n _ h.integers (integer_new_law o _ w k)) (λ l a. record { integers = a; decimals = h.decimals; strings = h.strings; records = h.records; entries = h.entries })
  set_of_law o (DecimalTarget n) w k =
      whenever_then (as_variable v.decimals n (decimal_new o (numbered (pos 0) v.decimals n) w)) _ (All DecimalWithin 99) VariablesWithin (stored_all DecimalWithin 99 v.decimals n _ h.decimals (decimal_new_law o _ w k)) (λ l a. record { integers = h.integers; decimals = a; strings = h.strings; records = h.records; entries = h.entries })
  set_of_law o (StringTarget n) w k =
      whenever_then (as_variable v.strings n (string_new w)) _ (All Short 99) VariablesWithin (stored_all Short 99 v.strings n (string_new w) h.strings (string_new_law w k)) (λ l a. record { integers = h.integers; decimals = h.decimals; strings = a; records = h.records; entries = h.entries })

  -- What an operation is done with is in range: `operands` refuses nothing.
  pub integer_operands : (n : ℕ) (w : Worth) → WorthWithin w → Whenever (integer_from w) (Inside integer_limit (numbered (pos 0) v.integers n))
  integer_operands n w k = whenever_more (integer_from w) IntegerWithin (Inside integer_limit (numbered (pos 0) v.integers n)) (integer_from_law w k) (λ b i. record { left = R.numbered_each IntegerWithin (pos 0) v.integers n (omega arith) h.integers.each; right = i })

  pub decimal_operands : (n : ℕ) (w : Worth) → WorthWithin w → Whenever (decimal_from w) (Inside decimal_limit (numbered (pos 0) v.decimals n))
  decimal_operands n w k = whenever_more (decimal_from w) DecimalWithin (Inside decimal_limit (numbered (pos 0) v.decimals n)) (decimal_from_law w k) (λ b i. record { left = R.numbered_each DecimalWithin (pos 0) v.decimals n (omega arith) h.decimals.each; right = i })

module _ (m : Machine) (h : MachineWithin m) where
  module _ (line : ℕ) where
    module _ (s : List ℕ) where
      -- $SETE to $SETD
      pub set_within : (o : Operation) (t : Target) (a : Argument) → ArgumentWithin s a → Yields AnswerWithin (set_meaning m s line o t a) VariablesWithin
      unfolding set_meaning
      set_within o t a b =
          yields_bind AnswerWithin (argument_meaning m s line a) (λ w. concluded line (set_of m.variables o t w)) WorthWithin VariablesWithin (argument_within m line h s a b) (λ w k. yields_concluded line (set_of m.variables o t w) VariablesWithin (set_of_law m.variables h.variables o t w k))

      -- What SV takes of a parsed line's argument is taken whole.
      pub string_taken : (a : Argument) → ArgumentWithin s a → Yields AnswerWithin (argument_meaning m s line a) (λ w. string_new w ≡ string_from w)
      string_taken a b = yields_more AnswerWithin (argument_meaning m s line a) WorthWithin (λ w. string_new w ≡ string_from w) (argument_within m line h s a b) string_whole

      -- "$BT, $ET and $NP take integers"
      pub integer_within : (a : Argument) → ArgumentWithin s a → Yields AnswerWithin (integer_meaning m s line a) IntegerWithin
      unfolding integer_meaning
      integer_within a b =
          yields_bind AnswerWithin (argument_meaning m s line a) (λ w. concluded line (integer_from w)) WorthWithin IntegerWithin (argument_within m line h s a b) (λ w k. yields_concluded line (integer_from w) IntegerWithin (integer_from_law w k))

      pub begin_within : (ts : List Table) (start next : ℕ) (a : Argument) → ArgumentWithin s a → Each Bounded ts → Yields AnswerWithin (begin_meaning m s line ts start next a) (λ x. Each Bounded x.tables)
      unfolding begin_meaning
      begin_within ts start next a b k =
          yields_bind AnswerWithin (integer_meaning m s line a) (λ n. done (begun ts start next n)) IntegerWithin (λ x. Each Bounded x.tables) (integer_within a b) (λ n i. begun_bounded ts start next n i k)

    -- $REC and $TBL
    pub records_within : (f : Fetch) → Yields AnswerWithin (records_meaning m line f) VariablesWithin
    unfolding records_meaning
    records_within f =
        yields_bind AnswerWithin (fetch_meaning m line Records f.parameter f.«record» f.entry f.count) (λ l. done (with_records m.variables (set_numbered m.variables.records f.number l))) (Each AnswerWithin) VariablesWithin (fetch_within m line Records f.parameter f.«record» f.entry f.count) (λ l k. record { integers = h.variables.integers; decimals = h.variables.decimals; strings = h.variables.strings; records = numbered_all (Each AnswerWithin) 10 m.variables.records f.number l k h.variables.records; entries = h.variables.entries })

    pub entries_within : (f : Fetch) → Yields AnswerWithin (entries_meaning m line f) VariablesWithin
    unfolding entries_meaning
    entries_within f =
        yields_bind AnswerWithin (fetch_meaning m line Entries f.parameter f.«record» f.entry f.count) (λ l. done (with_entries m.variables (set_numbered m.variables.entries f.number l))) (Each AnswerWithin) VariablesWithin (fetch_within m line Entries f.parameter f.«record» f.entry f.count) (λ l k. record { integers = h.variables.integers; decimals = h.variables.decimals; strings = h.variables.strings; records = h.variables.records; entries = numbered_all (Each AnswerWithin) 10 m.variables.entries f.number l k h.variables.entries })

-- $ET: counters stay within their limits, whatever k is.
pub end_within : (m : Machine) (s : List ℕ) (line : ℕ) (ts : List Table) (o : Option Argument) → Each Bounded ts → Yields AnswerWithin (end_meaning m s line ts o) (λ x. Each Bounded x.tables)
end_within m s line ts o h =
    yields_more AnswerWithin (end_meaning m s line ts o) (Counting ts) (λ x. Each Bounded x.tables) (gives_yields (end_meaning m s line ts o) (Counting ts) (end_gives m s line ts o)) (λ x k. counting_bounded ts x k h)
