-- Numbers stay in range, strings short: what an argument within its limits is worth in a machine in range, where answers lie
-- within theirs. So a variable that is read is one of the machine's, and |ABS is the magnitude.
use mathlib.Core.Path.{◌≡◌, refl}
use mathlib.Core.List.{List, [], ◌∷◌}
use Prim.Native.Nat.{ℕ, zero, suc, ◌-◌, ◌≤◌, ◌<◌}
use native.Mathlib.Omega.{arith}
use lib.IntN.{ℤ, pos, negsuc, nat_abs}
use lib.ListN.{length, get_or, drop, length-take, length-map}
use Rattle.meaning.specs.Each.{Each}
use Rattle.meaning.specs.Answer as A
use Rattle.meaning.specs.Answer.{Answer, cell, highest}
use Rattle.meaning.specs.Tree.{done}
use Rattle.meaning.specs.declared.question.Question.{Question}
use Rattle.meaning.proofs.Yielding.{Yields, yields_bind, yields_more}
use Rattle.numbers.specs.declared.Quantity.{Quantity}
use Rattle.numbers.specs.declared.Quantity.TheVariants.{Integer, Decimal}
use Rattle.numbers.specs.Range.{integer_limit, decimal_limit, millionths}
use Rattle.numbers.proofs.Laws.{within_in, whole_bound, integer_inside}
use Rattle.cells.proofs.Limits.{AnswerWithin, ask_within}
use Rattle.arguments.specs.declared.argument.Argument.{Argument}
use Rattle.arguments.specs.declared.argument.Filter.{Filter}
use Rattle.arguments.specs.declared.argument.Filter.TheVariants.{Unfiltered, Absolute, Truncated, UpperCase, Length, RecordCount, EntryCount}
use Rattle.arguments.specs.declared.index.Index.{Index}
use Rattle.arguments.specs.declared.index.Index.TheVariants.{Fixed, Variable, Loop}
use Rattle.arguments.specs.declared.operand.Operand.{Operand}
use Rattle.arguments.specs.declared.operand.Operand.TheVariants.{NumberLiteral, StringLiteral, IntegerVariable, DecimalVariable, StringVariable, PageNumber, LineNumber, LoopCounter, RecordElement, EntryElement, Parameter, Record, Entry}
use Rattle.arguments.proofs.Parsed.{Between, QuantityWithin, IndexWithin, OperandWithin, ArgumentWithin}
use Rattle.values.specs.Letters.{upper}
use Rattle.values.specs.declared.fetch.Along.{Along}
use Rattle.values.specs.Machine.{Variables, Machine, numbered}
use Rattle.values.specs.Asking.{cell_meaning}
use Rattle.values.specs.Fetching.{element, fetch_meaning}
use Rattle.values.specs.Source.{answers}
use Rattle.values.specs.Worth.{Worth, missing, wrong, number, string, answered, absolute, filtered_number, filtered_string, filtered, question_kind}
use Rattle.values.specs.Meanings.{worth_of, operand_meaning, argument_meaning}
use Rattle.values.proofs.Keeping.{absolute_integer, absolute_decimal}
use Rattle.values.proofs.Answering.{cell_has, fetch_has}

-- "SV1–SV99 hold up to 16 bytes each, IV integers, FV decimals"; strings of cells and of the template have "0–16 bytes"
abbrev pub IntegerWithin : ℤ → Type 0
IntegerWithin z = nat_abs z ≤ integer_limit

abbrev pub DecimalWithin : ℤ → Type 0
DecimalWithin z = nat_abs z ≤ decimal_limit

abbrev pub Short : List ℕ → Type 0
Short s = length s ≤ 16

abbrev pub WorthWithin : Worth → Type 0
WorthWithin missing = Unit {0}
WorthWithin wrong = Unit {0}
WorthWithin (number q) = QuantityWithin q
WorthWithin (string s) = Short s

-- c of them, each with P
pub record All {A : Type 0} (P : A → Type 0) (c : ℕ) (l : List A) : Type 0 where
  pub each : Each P l
  pub count : length l ≡ c

-- variables in range, as many as there are
pub record VariablesWithin (v : Variables) : Type 0 where
  pub integers : All IntegerWithin 99 v.integers
  pub decimals : All DecimalWithin 99 v.decimals
  pub strings : All Short 99 v.strings
  pub records : All (Each AnswerWithin) 10 v.records
  pub entries : All (Each AnswerWithin) 10 v.entries

pub record MachineWithin (m : Machine) : Type 0 where
  pub variables : VariablesWithin m.variables
  pub counter : IntegerWithin m.counter
  pub page : m.page ≤ integer_limit
  pub row : m.row ≤ integer_limit

-- ---- the n-th of a list

get_or_each : {A : Type 0} (P : A → Type 0) (d : A) (l : List A) (k : ℕ) → P d → Each P l → P (get_or l k d)
get_or_each P d [] zero p h = p
get_or_each P d [] (suc k) p h = p
get_or_each P d (x ∷ l) zero p h = h.0
get_or_each P d (x ∷ l) (suc k) p h = get_or_each P d l k p h.1

pub numbered_each : {A : Type 0} (P : A → Type 0) (d : A) (l : List A) (n : ℕ) → P d → Each P l → P (numbered d l n)
unfolding numbered
numbered_each P d l zero p h = p
numbered_each P d l (suc k) p h = get_or_each P d l k p h

get_or_there : {A : Type 0} (d e : A) (l : List A) (k : ℕ) → k < length l → get_or l k d ≡ get_or l k e
get_or_there d e [] k h = absurd (omega arith)
get_or_there d e (x ∷ l) zero h = refl
get_or_there d e (x ∷ l) (suc k) h = get_or_there d e l k (omega arith)

-- A number from 1 to the length names one of the list: what `numbered` gives for any other doesn't matter.
pub numbered_there : {A : Type 0} (d e : A) (l : List A) (n : ℕ) → Between 1 (length l) n → numbered d l n ≡ numbered e l n
unfolding numbered
numbered_there d e l zero h = absurd (omega (arith, h.least))
numbered_there d e l (suc k) h = get_or_there d e l k (omega (arith, h.most))

-- ---- answers and filters

pub answered_within : (a : Answer) → AnswerWithin a → WorthWithin (answered a)
unfolding answered
answered_within A.missing h = tt
answered_within (cell (A.number (Integer z))) h = h
answered_within (cell (A.number (Decimal z))) h = h
answered_within (cell (A.string s)) h = h
answered_within (highest n) h = omega arith

pub millionths_within : (q : Quantity) → QuantityWithin q → nat_abs (millionths q) ≤ decimal_limit
millionths_within (Integer z) h = integer_inside z h
millionths_within (Decimal z) h = h

-- the magnitude of a number, which is what |ABS gives
abbrev pub magnitude : Quantity → Quantity
magnitude (Integer z) = Integer (pos (nat_abs z))
magnitude (Decimal z) = Decimal (pos (nat_abs z))

-- |ABS of a number in range is its magnitude: `ranged` refuses none.
pub absolute_is : (q : Quantity) → QuantityWithin q → absolute q ≡ number (magnitude q)
absolute_is (Integer z) h = absolute_integer z (within_in integer_limit z h)
absolute_is (Decimal z) h = absolute_decimal z (within_in decimal_limit z h)

magnitude_within : (q : Quantity) → QuantityWithin q → QuantityWithin (magnitude q)
magnitude_within (Integer z) h = h
magnitude_within (Decimal z) h = h

number_within : (f : Filter) (q : Quantity) → QuantityWithin q → WorthWithin (filtered_number f q)
unfolding filtered_number
number_within Unfiltered q h = h
number_within Absolute q h = rw (absolute_is q h) (magnitude_within q h)
number_within Truncated q h = whole_bound q (millionths_within q h)
number_within UpperCase q h = tt
number_within Length q h = tt
number_within RecordCount q h = h
number_within EntryCount q h = h

string_within : (f : Filter) (s : List ℕ) → Short s → WorthWithin (filtered_string f s)
unfolding filtered_string
string_within Unfiltered s h = h
string_within Absolute s h = tt
string_within Truncated s h = tt
string_within UpperCase s h = omega (arith, length-map s upper)
string_within Length s h = omega arith
string_within RecordCount s h = h
string_within EntryCount s h = h

pub filtered_within : (f : Filter) (w : Worth) → WorthWithin w → WorthWithin (filtered f w)
unfolding filtered
filtered_within f missing h = tt
filtered_within f wrong h = tt
filtered_within f (number q) h = number_within f q h
filtered_within f (string s) h = string_within f s h

-- "|ABS .. on numbers"
abbrev pub absolute_worth : Worth → Worth
absolute_worth missing = missing
absolute_worth wrong = wrong
absolute_worth (number q) = number (magnitude q)
absolute_worth (string s) = wrong

absolute_worth_law : (w : Worth) → WorthWithin w → filtered Absolute w ≡ absolute_worth w
unfolding filtered filtered_number filtered_string
absolute_worth_law missing h = refl
absolute_worth_law wrong h = refl
absolute_worth_law (number q) h = absolute_is q h
absolute_worth_law (string s) h = refl

-- ---- arguments

element_within : (l : List Answer) (z : ℤ) → Each AnswerWithin l → AnswerWithin (element l z)
unfolding element
element_within l (pos n) h = numbered_each AnswerWithin A.missing l n tt h
element_within l (negsuc n) h = tt

module _ (m : Machine) (line : ℕ) where
  cell_within : (kind p : ℕ) (i j : Index) → Yields AnswerWithin (worth_of (cell_meaning m line kind p i j)) WorthWithin
  cell_within = cell_has AnswerWithin WorthWithin answered_within m line

  module _ (h : MachineWithin m) (s : List ℕ) where
    operand_within : (kind : ℕ) (o : Operand) → OperandWithin s o → Yields AnswerWithin (operand_meaning m s line kind o) WorthWithin
    unfolding operand_meaning
    operand_within kind (NumberLiteral q) b = b
    operand_within kind (StringLiteral a e) b = omega (arith, length-take (e - a) (drop a s), b.short)
    operand_within kind (IntegerVariable n) b = numbered_each IntegerWithin (pos 0) m.variables.integers n (omega arith) h.variables.integers.each
    operand_within kind (DecimalVariable n) b = numbered_each DecimalWithin (pos 0) m.variables.decimals n (omega arith) h.variables.decimals.each
    operand_within kind (StringVariable n) b = numbered_each Short [] m.variables.strings n (omega arith) h.variables.strings.each
    operand_within kind PageNumber b = h.page
    operand_within kind LineNumber b = h.row
    operand_within kind LoopCounter b = h.counter
    operand_within kind (RecordElement n) b =
        answered_within (element (numbered [] m.variables.records n) m.counter) (element_within (numbered [] m.variables.records n) m.counter (numbered_each (Each AnswerWithin) [] m.variables.records n tt h.variables.records.each))
    operand_within kind (EntryElement n) b =
        answered_within (element (numbered [] m.variables.entries n) m.counter) (element_within (numbered [] m.variables.entries n) m.counter (numbered_each (Each AnswerWithin) [] m.variables.entries n tt h.variables.entries.each))
    operand_within kind (Parameter p) b = cell_within kind p (Fixed 0) (Fixed 0)
    operand_within kind (Record p r) b = cell_within kind p r (Fixed 0)
    operand_within kind (Entry p r e) b = cell_within kind p r e

    -- |ABS of a parsed line's argument is the magnitude of a number, and a wrong kind of a string alone.
    pub absolute_given : (kind : ℕ) (o : Operand) → OperandWithin s o → Yields AnswerWithin (operand_meaning m s line kind o) (λ w. filtered Absolute w ≡ absolute_worth w)
    absolute_given kind o b = yields_more AnswerWithin (operand_meaning m s line kind o) WorthWithin (λ w. filtered Absolute w ≡ absolute_worth w) (operand_within kind o b) absolute_worth_law

    -- An argument within its limits is worth a number in range or a short string, where it is worth one.
    pub argument_within : (a : Argument) → ArgumentWithin s a → Yields AnswerWithin (argument_meaning m s line a) WorthWithin
    unfolding argument_meaning
    argument_within a b =
        yields_bind AnswerWithin (operand_meaning m s line (question_kind a.filter) a.operand) (λ w. done (filtered a.filter w)) WorthWithin WorthWithin (operand_within (question_kind a.filter) a.operand b.operand) (λ w k. filtered_within a.filter w k)

-- ---- variables that are named

-- what is read by a number doesn't depend on what would stand for a number that there is none of
abbrev pub IndexThere : Machine → Index → Type 0
IndexThere m (Fixed n) = Unit {0}
IndexThere m (Variable n) = (d : ℤ) → numbered (pos 0) m.variables.integers n ≡ numbered d m.variables.integers n
IndexThere m Loop = Unit {0}

abbrev pub There : Machine → Operand → Type 0
There m (NumberLiteral q) = Unit {0}
There m (StringLiteral a e) = Unit {0}
There m (IntegerVariable n) = (d : ℤ) → numbered (pos 0) m.variables.integers n ≡ numbered d m.variables.integers n
There m (DecimalVariable n) = (d : ℤ) → numbered (pos 0) m.variables.decimals n ≡ numbered d m.variables.decimals n
There m (StringVariable n) = (d : List ℕ) → numbered [] m.variables.strings n ≡ numbered d m.variables.strings n
There m PageNumber = Unit {0}
There m LineNumber = Unit {0}
There m LoopCounter = Unit {0}
There m (RecordElement n) = (d : List Answer) → numbered [] m.variables.records n ≡ numbered d m.variables.records n
There m (EntryElement n) = (d : List Answer) → numbered [] m.variables.entries n ≡ numbered d m.variables.entries n
There m (Parameter p) = Unit {0}
There m (Record p r) = IndexThere m r
There m (Entry p r e) = IndexThere m r × IndexThere m e

counted : {A : Type 0} (l : List A) (c n : ℕ) → length l ≡ c → Between 1 c n → Between 1 (length l) n
counted l c n e h = record { least = h.least; most = omega (arith, h.most) }

module _ (m : Machine) (h : MachineWithin m) where
  pub index_there : (i : Index) → IndexWithin i → IndexThere m i
  index_there (Fixed n) b = tt
  index_there (Variable n) b = λ d. numbered_there (pos 0) d m.variables.integers n (counted m.variables.integers 99 n h.variables.integers.count b)
  index_there Loop b = tt

  -- A variable that a parsed line names is one of the machine's.
  pub operand_there : (s : List ℕ) (o : Operand) → OperandWithin s o → There m o
  operand_there s (NumberLiteral q) b = tt
  operand_there s (StringLiteral a e) b = tt
  operand_there s (IntegerVariable n) b = λ d. numbered_there (pos 0) d m.variables.integers n (counted m.variables.integers 99 n h.variables.integers.count b)
  operand_there s (DecimalVariable n) b = λ d. numbered_there (pos 0) d m.variables.decimals n (counted m.variables.decimals 99 n h.variables.decimals.count b)
  operand_there s (StringVariable n) b = λ d. numbered_there [] d m.variables.strings n (counted m.variables.strings 99 n h.variables.strings.count b)
  operand_there s PageNumber b = tt
  operand_there s LineNumber b = tt
  operand_there s LoopCounter b = tt
  operand_there s (RecordElement n) b = λ d. numbered_there [] d m.variables.records n (counted m.variables.records 10 n h.variables.records.count b)
  operand_there s (EntryElement n) b = λ d. numbered_there [] d m.variables.entries n (counted m.variables.entries 10 n h.variables.entries.count b)
  operand_there s (Parameter p) b = tt
  operand_there s (Record p r) b = index_there r b.1
  operand_there s (Entry p r e) b = (index_there r b.1, index_there e b.2)

-- ---- $REC and $TBL

-- What is fetched lies within its limits.
pub fetch_within : (m : Machine) (line : ℕ) (along : Along) (p : ℕ) (i j c : Index) → Yields AnswerWithin (fetch_meaning m line along p i j c) (Each AnswerWithin)
fetch_within = fetch_has AnswerWithin

-- What a store answers lies within its limits.
pub answers_within : (b : List ℕ) (n : ℕ) (q : Question) → AnswerWithin (answers b n q)
answers_within b n q = ask_within b n q
