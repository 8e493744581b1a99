-- Strings of a run are printable: those of cells, of the template, of SV, R and T, where the answers are.
use Rattle.std.specs.Prelude.{Err, Ok, Result}
use Rattle.numbers.specs.declared.ArithmeticError.{ArithmeticError}
use mathlib.Core.List.{List, []}
use Prim.Native.Nat.{ℕ, ◌-◌}
use lib.IntN.{ℤ, pos, negsuc}
use lib.ListN.{drop}
use Rattle.meaning.specs.Each.{Each}
use Rattle.meaning.specs.Answer as A
use Rattle.meaning.specs.Answer.{Answer, cell, highest}
use Rattle.meaning.specs.Tree.{done}
use Rattle.meaning.proofs.Yielding.{Yields, yields_bind}
use Rattle.numbers.specs.declared.Quantity.{Quantity}
use Rattle.numbers.specs.declared.Quantity.TheVariants.{Integer, Decimal}
use Rattle.arguments.specs.declared.argument.Argument.{Argument}
use Rattle.arguments.specs.declared.argument.Filter.{Filter}
use Rattle.arguments.specs.declared.argument.Filter.TheVariants.{Unfiltered, Absolute, Truncated, UpperCase, Length, RecordCount, EntryCount}
use Rattle.arguments.specs.declared.index.Index.{Index}
use Rattle.arguments.specs.declared.index.Index.TheVariants.{Fixed}
use Rattle.arguments.specs.declared.operand.Operand.{Operand}
use Rattle.arguments.specs.declared.operand.Operand.TheVariants.{NumberLiteral, StringLiteral, IntegerVariable, DecimalVariable, StringVariable, PageNumber, LineNumber, LoopCounter, RecordElement, EntryElement, Parameter, Record, Entry}
use Rattle.lines.specs.declared.command.Fetch.{Fetch}
use Rattle.lines.specs.declared.command.Operation.{Operation}
use Rattle.lines.specs.declared.command.Target.{Target}
use Rattle.lines.specs.declared.command.Target.TheVariants.{IntegerTarget, DecimalTarget, StringTarget}
use Rattle.values.specs.declared.fetch.Along.TheVariants.{Records, Entries}
use Rattle.values.specs.Machine.{Machine, numbered, Variables, set_numbered}
use Rattle.values.specs.Worth.{Worth, missing, wrong, number, string, answered, ranged, absolute, filtered_number, filtered_string, filtered, question_kind}
use Rattle.values.specs.Asking.{cell_meaning}
use Rattle.values.specs.Fetching.{element, fetch_meaning}
use Rattle.values.specs.Meanings.{worth_of, operand_meaning, argument_meaning}
use Rattle.values.proofs.Answering.{cell_has, fetch_has}
use Rattle.values.proofs.Ranges.{numbered_each}
use Rattle.commands.specs.Settling.{Settled, and_then, concluded, string_from}
use Rattle.commands.specs.Setting.{as_variable, string_new, integer_new, decimal_new, with_strings, set_of, set_meaning}
use Rattle.control.specs.Fetching.{records_meaning, entries_meaning}
use Rattle.control.proofs.Ranges as C
use Rattle.output.specs.Printable.{Printable, Clean}
use Rattle.output.proofs.Bytes.{each_take, each_drop, upper_clean}
use Rattle.output.proofs.Fields.{WorthClean}

abbrev pub AnswerClean : Answer → Type 0
AnswerClean A.missing = Unit {0}
AnswerClean (cell (A.number q)) = Unit {0}
AnswerClean (cell (A.string s)) = Clean s
AnswerClean (highest n) = Unit {0}

-- the strings that a machine holds
pub record VariablesClean (v : Variables) : Type 0 where
  pub strings : Each Clean v.strings
  pub records : Each (Each AnswerClean) v.records
  pub entries : Each (Each AnswerClean) v.entries

-- ---- arguments

answered_clean : (a : Answer) → AnswerClean a → WorthClean (answered a)
unfolding answered
answered_clean A.missing h = tt
answered_clean (cell (A.number q)) h = tt
answered_clean (cell (A.string s)) h = h
answered_clean (highest n) h = tt

ranged_clean : (kind : ℤ → Quantity) (o : Result ℤ ArithmeticError) → WorthClean (ranged kind o)
unfolding ranged
ranged_clean kind (Ok z) = tt
ranged_clean kind (Err n) = tt

number_clean : (f : Filter) (q : Quantity) → WorthClean (filtered_number f q)
unfolding filtered_number absolute
number_clean Unfiltered q = tt
number_clean Absolute (Integer n) = ranged_clean Integer _
number_clean Absolute (Decimal m) = ranged_clean Decimal _
number_clean Truncated q = tt
number_clean UpperCase q = tt
number_clean Length q = tt
number_clean RecordCount q = tt
number_clean EntryCount q = tt

string_clean : (f : Filter) (s : List ℕ) → Clean s → WorthClean (filtered_string f s)
unfolding filtered_string
string_clean Unfiltered s h = h
string_clean Absolute s h = tt
string_clean Truncated s h = tt
string_clean UpperCase s h = upper_clean s h
string_clean Length s h = tt
string_clean RecordCount s h = h
string_clean EntryCount s h = h

filtered_clean : (f : Filter) (w : Worth) → WorthClean w → WorthClean (filtered f w)
unfolding filtered
filtered_clean f missing h = tt
filtered_clean f wrong h = tt
filtered_clean f (number q) h = number_clean f q
filtered_clean f (string s) h = string_clean f s h

element_clean : (l : List Answer) (z : ℤ) → Each AnswerClean l → AnswerClean (element l z)
unfolding element
element_clean l (pos n) h = numbered_each AnswerClean A.missing l n tt h
element_clean l (negsuc n) h = tt

module _ (m : Machine) (line : ℕ) where
  cell_clean : (kind p : ℕ) (i j : Index) → Yields AnswerClean (worth_of (cell_meaning m line kind p i j)) WorthClean
  cell_clean = cell_has AnswerClean WorthClean answered_clean m line

  module _ (h : VariablesClean m.variables) (s : List ℕ) (c : Clean s) where
    operand_clean : (kind : ℕ) (o : Operand) → Yields AnswerClean (operand_meaning m s line kind o) WorthClean
    unfolding operand_meaning
    operand_clean kind (NumberLiteral q) = tt
    operand_clean kind (StringLiteral a e) = each_take Printable (e - a) (drop a s) (each_drop Printable a s c)
    operand_clean kind (IntegerVariable n) = tt
    operand_clean kind (DecimalVariable n) = tt
    operand_clean kind (StringVariable n) = numbered_each Clean [] m.variables.strings n tt h.strings
    operand_clean kind PageNumber = tt
    operand_clean kind LineNumber = tt
    operand_clean kind LoopCounter = tt
    operand_clean kind (RecordElement n) = answered_clean _ (element_clean (numbered [] m.variables.records n) m.counter (numbered_each (Each AnswerClean) [] m.variables.records n tt h.records))
    operand_clean kind (EntryElement n) = answered_clean _ (element_clean (numbered [] m.variables.entries n) m.counter (numbered_each (Each AnswerClean) [] m.variables.entries n tt h.entries))
    operand_clean kind (Parameter p) = cell_clean kind p (Fixed 0) (Fixed 0)
    operand_clean kind (Record p r) = cell_clean kind p r (Fixed 0)
    operand_clean kind (Entry p r e) = cell_clean kind p r e

    -- What an argument is worth, on a line of printable bytes.
    pub argument_clean : (a : Argument) → Yields AnswerClean (argument_meaning m s line a) WorthClean
    unfolding argument_meaning
    argument_clean a =
        yields_bind AnswerClean (operand_meaning m s line (question_kind a.filter) a.operand) (λ w. done (filtered a.filter w)) WorthClean WorthClean (operand_clean (question_kind a.filter) a.operand) (λ w k. filtered_clean a.filter w k)

-- ---- commands that set

-- what follows from the values, where something does
abbrev Whenever : {A : Type 0} → Settled A → (A → Type 0) → Type 0
Whenever (Ok a) Φ = Φ a
Whenever (Err e) Φ = Unit {0}

concluded_clean : {A : Type 0} (line : ℕ) (x : Settled A) (Φ : A → Type 0) → Whenever x Φ → Yields AnswerClean (concluded line x) Φ
concluded_clean line (Ok a) Φ h = h
concluded_clean line (Err e) Φ h = tt

then_always : {A B : Type 0} (x : Settled A) (f : A → Settled B) (Φ : B → Type 0) → ((a : A) → Whenever (f a) Φ) → Whenever (and_then x f) Φ
then_always (Ok a) f Φ h = h a
then_always (Err e) f Φ h = tt

string_new_law : (w : Worth) → WorthClean w → Whenever (string_new w) Clean
unfolding string_new string_from
string_new_law missing h = tt
string_new_law wrong h = tt
string_new_law (number q) h = tt
string_new_law (string s) h = each_take Printable 16 s h

stored_clean : (l : List (List ℕ)) (n : ℕ) (x : Settled (List ℕ)) → Each Clean l → Whenever x Clean → (f : List (List ℕ) → Variables) → ((k : List (List ℕ)) → Each Clean k → VariablesClean (f k)) → Whenever (and_then (as_variable l n x) (λ k. Ok (f k))) VariablesClean
unfolding as_variable
stored_clean l n (Ok s) h c f g = g (set_numbered l n s) (C.numbered_each Clean l n s c h)
stored_clean l n (Err e) h c f g = tt

module _ (v : Variables) (h : VariablesClean v) where
  set_of_law : (o : Operation) (t : Target) (w : Worth) → WorthClean w → Whenever (set_of v o t w) VariablesClean
  unfolding set_of
  set_of_law o (IntegerTarget n) w k = then_always (as_variable v.integers n (integer_new o (numbered (pos 0) v.integers n) w)) _ VariablesClean (λ l. record { strings = h.strings; records = h.records; entries = h.entries })
  set_of_law o (DecimalTarget n) w k = then_always (as_variable v.decimals n (decimal_new o (numbered (pos 0) v.decimals n) w)) _ VariablesClean (λ l. record { strings = h.strings; records = h.records; entries = h.entries })
  set_of_law o (StringTarget n) w k = stored_clean v.strings n (string_new w) h.strings (string_new_law w k) (with_strings v) (λ l a. record { strings = a; records = h.records; entries = h.entries })

pub set_clean : (m : Machine) → VariablesClean m.variables → (line : ℕ) (s : List ℕ) → Clean s → (o : Operation) (t : Target) (a : Argument) → Yields AnswerClean (set_meaning m s line o t a) VariablesClean
unfolding set_meaning
set_clean m h line s c o t a =
    yields_bind AnswerClean (argument_meaning m s line a) (λ w. concluded line (set_of m.variables o t w)) WorthClean VariablesClean (argument_clean m line h s c a) (λ w k. concluded_clean line (set_of m.variables o t w) VariablesClean (set_of_law m.variables h o t w k))

-- ---- $REC and $TBL

module _ (m : Machine) (h : VariablesClean m.variables) (line : ℕ) (f : Fetch) where
  pub records_clean : Yields AnswerClean (records_meaning m line f) VariablesClean
  unfolding records_meaning
  records_clean = yields_bind AnswerClean (fetch_meaning m line Records f.parameter f.«record» f.entry f.count) _ (Each AnswerClean) VariablesClean (fetch_has AnswerClean m line Records f.parameter f.«record» f.entry f.count) (λ l k. record { strings = h.strings; records = C.numbered_each (Each AnswerClean) m.variables.records f.number l k h.records; entries = h.entries })

  pub entries_clean : Yields AnswerClean (entries_meaning m line f) VariablesClean
  unfolding entries_meaning
  entries_clean = yields_bind AnswerClean (fetch_meaning m line Entries f.parameter f.«record» f.entry f.count) _ (Each AnswerClean) VariablesClean (fetch_has AnswerClean m line Entries f.parameter f.«record» f.entry f.count) (λ l k. record { strings = h.strings; records = h.records; entries = C.numbered_each (Each AnswerClean) m.variables.entries f.number l k h.entries })
