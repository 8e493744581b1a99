-- Behind the checks a run ends with 0, or with a number from 7 on: "A report ending in 1–6" was refused by them, and ran nothing.
use Rattle.std.specs.Prelude.{Option, Some, None, Result, Ok, Err}
use mathlib.Core.Bool.{Bool, true, false, cond, ◌||◌, ◌&&◌}
use mathlib.Core.List.{List, [], ◌∷◌}
use Prim.Native.Nat.{ℕ, zero, suc, ◌+◌, ◌-◌, ◌≤◌}
use native.Mathlib.Omega.{arith}
use lib.Dec.{eqb, leb, ltb}
use lib.IntN.{ℤ, pos, negsuc, nat_abs}
use lib.Signed.{lt_z}
use lib.ListN.{length, take}
use Rattle.scan.specs.Line.{line_at}
use Rattle.numbers.specs.declared.Quantity.{Quantity}
use Rattle.numbers.specs.declared.Quantity.TheVariants.{Integer, Decimal}
use Rattle.numbers.specs.declared.ArithmeticError.{ArithmeticError}
use Rattle.numbers.specs.declared.ArithmeticError.TheVariants as arithmetic
use Rattle.numbers.specs.Arithmetic.{in_millionths}
use Rattle.arguments.specs.declared.argument.Argument.{Argument}
use Rattle.arguments.specs.declared.index.Index.{Index}
use Rattle.arguments.specs.declared.index.Index.TheVariants.{Fixed}
use Rattle.arguments.specs.declared.operand.Operand.{Operand}
use Rattle.arguments.specs.declared.operand.Operand.TheVariants.{NumberLiteral, StringLiteral, IntegerVariable, DecimalVariable, StringVariable, PageNumber, LineNumber, LoopCounter, RecordElement, EntryElement, Parameter, Record, Entry}
use Rattle.texts.specs.declared.text.Piece.{Piece}
use Rattle.texts.specs.declared.text.Piece.TheVariants.{Byte, Placed}
use Rattle.texts.specs.Pieces.{pieces_of}
use Rattle.lines.specs.declared.command.Operation.{Operation}
use Rattle.lines.specs.declared.command.Target.{Target}
use Rattle.lines.specs.declared.command.Target.TheVariants.{IntegerTarget, DecimalTarget, StringTarget}
use Rattle.lines.specs.declared.command.Comparison.{Comparison}
use Rattle.lines.specs.declared.command.Comparison.TheVariants.{SameString, SameLetters, Equal, NotEqual, Less, AtMost, Greater, AtLeast}
use Rattle.lines.specs.declared.command.Line.{Line}
use Rattle.lines.specs.declared.command.Line.TheVariants as form
use Rattle.lines.specs.Readers.Command.{parse_line}
use Rattle.meaning.specs.Answer.{Answer}
use Rattle.meaning.specs.Tree.{done, stop, ask, print, bind, Run as Did, run}
use Rattle.meaning.specs.Meaning.{Meaning, asks_each}
use Rattle.meaning.specs.Number.{refusal_number, number_of}
use Rattle.meaning.specs.declared.question.Question.{Question}
use Rattle.meaning.specs.declared.refusal.Refusal.{Refusal}
use Rattle.meaning.specs.declared.refusal.Refusal.TheVariants.{TooManyLines, BadIndex, MissingArgument, WrongKind, ZeroDivisor, OutOfRange}
use Rattle.meaning.proofs.Runs.{Runs, finishes, stops, asks, asks_full, prints, prints_full, runs}
use Rattle.values.specs.declared.fetch.Along.{Along}
use Rattle.values.specs.declared.fetch.Along.TheVariants.{Records, Entries}
use Rattle.values.specs.Machine.{Machine, Variables, numbered}
use Rattle.values.specs.Indexes.{index_number, limited, index_value}
use Rattle.values.specs.Asking as values
use Rattle.values.specs.Asking.{cell_meaning}
use Rattle.values.specs.Fetching.{first_along, count_value, asks_elements, element_question, element_questions, fetch_meaning}
use Rattle.values.specs.Worth.{Worth, missing, wrong, number, string, answered, question_kind}
use Rattle.values.specs.Meanings.{worth_of, operand_meaning, argument_meaning}
use Rattle.commands.specs.declared.table.Table.{Table}
use Rattle.commands.specs.Settling.{Settled, and_then, concluded, integer_from, quantity_from, string_from, result_of, millionths_of, decimal_from, integer_meaning}
use Rattle.commands.specs.Setting.{integer_result, decimal_result, as_variable, new_from, integer_new, decimal_new, string_new, with_integers, with_decimals, with_strings, set_of, set_meaning}
use Rattle.commands.specs.Testing.{zero_judged, zero_meaning, of_numbers, of_strings, judged, is_missing, compared, test_meaning}
use Rattle.commands.specs.Looping.{counting, innermost, counted, begin_meaning, end_meaning}
use Rattle.control.specs.Fetching.{records_meaning, entries_meaning}
use Rattle.control.specs.Selecting.{datasource_from, datasource_meaning}
use Rattle.pages.specs.Text.{field_values, any_wrong, text_meaning}
use Rattle.pages.specs.declared.page.Page.{Page}
use Rattle.pages.specs.declared.heading.Heading.{Heading}
use Rattle.pages.specs.Page.{on, say_meaning, head_meaning, heads_meaning, break_meaning, turn_meaning, top_meaning, highest_defined, line_step}
use Rattle.control.specs.State.{State, seen}
use Rattle.control.specs.Line.{past_line, breaking, breaking_for, new_page_meaning, form_meaning, parsed_meaning, line_meaning}
use Rattle.report.specs.Report.{run_from}

abbrev Late : Refusal → Type 0
Late e = 7 ≤ refusal_number e

-- every refusal of the tree has such a number
abbrev pub LateEnds : {A : Type 0} → Meaning A → Type 0
LateEnds (done a) = Unit {0}
LateEnds (stop e l) = Late e
LateEnds (ask q l k) = (r : Answer) → LateEnds (k r)
LateEnds (print v l t) = LateEnds t

module _ {A : Type 0} where
  late_bind : {B : Type 0} (t : Meaning A) (f : A → Meaning B) → LateEnds t → ((a : A) → LateEnds (f a)) → LateEnds (bind t f)
  late_bind (done a) f h g = g a
  late_bind (stop e l) f h g = h
  late_bind (ask q l k) f h g = λ r. late_bind (k r) f (h r) g
  late_bind (print v l t) f h g = late_bind t f h g

  late_if : (b : Bool) (t u : Meaning A) → LateEnds t → LateEnds u → LateEnds (cond b t u)
  late_if true t u h k = h
  late_if false t u h k = k

  late_runs : {source : Question → Answer} {p r : ℕ} {t : Meaning A} {x : Did Question Refusal ℕ A} → Runs source p r t x → LateEnds t → 1 ≤ number_of x.end → 7 ≤ number_of x.end
  late_runs finishes h k = absurd (omega (arith, k))
  late_runs stops h k = h
  late_runs {source = source} (asks {q = q} d) h k = late_runs d (h (source q)) k
  late_runs asks_full h k = omega arith
  late_runs (prints fits d) h k = late_runs d h k
  late_runs (prints_full full) h k = omega arith

-- ---- what follows from values: 10 to 13

abbrev Fair : {A : Type 0} → Settled A → Type 0
Fair (Ok a) = Unit {0}
Fair (Err e) = Late e

module _ {A : Type 0} where
  fair_then : {B : Type 0} (x : Settled A) (f : A → Settled B) → Fair x → ((a : A) → Fair (f a)) → Fair (and_then x f)
  fair_then (Ok a) f h g = g a
  fair_then (Err e) f h g = h

  late_concluded : (line : ℕ) (x : Settled A) → Fair x → LateEnds (concluded line x)
  late_concluded line (Ok a) h = tt
  late_concluded line (Err e) h = h

integer_fair : (w : Worth) → Fair (integer_from w)
unfolding integer_from
integer_fair missing = omega arith
integer_fair wrong = omega arith
integer_fair (number (Integer z)) = tt
integer_fair (number (Decimal z)) = omega arith
integer_fair (string s) = omega arith

quantity_fair : (w : Worth) → Fair (quantity_from w)
unfolding quantity_from
quantity_fair missing = omega arith
quantity_fair wrong = omega arith
quantity_fair (number q) = tt
quantity_fair (string s) = omega arith

string_fair : (w : Worth) → Fair (string_from w)
unfolding string_from
string_fair missing = omega arith
string_fair wrong = omega arith
string_fair (number q) = omega arith
string_fair (string s) = tt

result_fair : (x : Result ℤ ArithmeticError) → Fair (result_of x)
unfolding result_of
result_fair (Ok z) = tt
result_fair (Err arithmetic.ZeroDivisor) = omega arith
result_fair (Err arithmetic.OutOfRange) = omega arith

millionths_fair : (q : Quantity) → Fair (millionths_of q)
unfolding millionths_of
millionths_fair (Integer n) = result_fair (in_millionths n)
millionths_fair (Decimal m) = tt

decimal_fair : (w : Worth) → Fair (decimal_from w)
unfolding decimal_from
decimal_fair w = fair_then (quantity_from w) millionths_of (quantity_fair w) millionths_fair

new_fair : (from : Worth → Settled ℤ) (operation : ℤ → Result ℤ ArithmeticError) (w : Worth) → Fair (from w) → Fair (new_from from operation w)
unfolding new_from
new_fair from operation w h = fair_then (from w) (λ b. result_of (operation b)) h (λ b. result_fair (operation b))

stored_fair : {A : Type 0} (vs : List A) (n : ℕ) (x : Settled A) → Fair x → Fair (as_variable vs n x)
unfolding as_variable
stored_fair vs n x h = fair_then x _ h (λ z. tt)

kept_fair : {A : Type 0} (vs : List A) (n : ℕ) (x : Settled A) (f : List A → Variables) → Fair x → Fair (and_then (as_variable vs n x) (λ l. Ok (f l)))
kept_fair vs n x f h = fair_then (as_variable vs n x) (λ l. Ok (f l)) (stored_fair vs n x h) (λ l. tt)

text_fair : (w : Worth) → Fair (string_new w)
unfolding string_new
text_fair w = fair_then (string_from w) (λ s. Ok (take 16 s)) (string_fair w) (λ s. tt)

set_fair : (v : Variables) (o : Operation) (t : Target) (w : Worth) → Fair (set_of v o t w)
unfolding set_of
set_fair v o (IntegerTarget n) w =
    kept_fair v.integers n (integer_new o (numbered (pos 0) v.integers n) w) (with_integers v) (new_fair integer_from (integer_result o (numbered (pos 0) v.integers n)) w (integer_fair w))
set_fair v o (DecimalTarget n) w =
    kept_fair v.decimals n (decimal_new o (numbered (pos 0) v.decimals n) w) (with_decimals v) (new_fair decimal_from (decimal_result o (numbered (pos 0) v.decimals n)) w (decimal_fair w))
set_fair v o (StringTarget n) w = kept_fair v.strings n (string_new w) (with_strings v) (text_fair w)

zero_fair : (wanted : Bool) (w : Worth) → Fair (zero_judged wanted w)
unfolding zero_judged
zero_fair wanted w = fair_then (quantity_from w) _ (quantity_fair w) (λ q. tt)

numbers_fair : (holds : Quantity → Quantity → Bool) (v w : Worth) → Fair (of_numbers holds v w)
unfolding of_numbers
numbers_fair holds v w = fair_then (quantity_from v) _ (quantity_fair v) (λ p. fair_then (quantity_from w) _ (quantity_fair w) (λ q. tt))

strings_fair : (ignoring : Bool) (v w : Worth) → Fair (of_strings ignoring v w)
unfolding of_strings
strings_fair ignoring v w = fair_then (string_from v) _ (string_fair v) (λ s. fair_then (string_from w) _ (string_fair w) (λ t. tt))

judged_fair : (c : Comparison) (v w : Worth) → Fair (judged c v w)
unfolding judged
judged_fair Equal v w = numbers_fair _ v w
judged_fair NotEqual v w = numbers_fair _ v w
judged_fair Less v w = numbers_fair _ v w
judged_fair AtMost v w = numbers_fair _ v w
judged_fair Greater v w = numbers_fair _ v w
judged_fair AtLeast v w = numbers_fair _ v w
judged_fair SameString v w = strings_fair false v w
judged_fair SameLetters v w = strings_fair true v w

compared_fair : (c : Comparison) (v w : Worth) → Fair (compared c v w)
unfolding compared
compared_fair c v w = by (is_missing v || is_missing w)
  where
    by : (b : Bool) → Fair (cond b (Err MissingArgument) (judged c v w))
    by true = omega arith
    by false = judged_fair c v w

counted_fair : (ts : List Table) (k : ℤ) → Fair (counted ts k)
unfolding counted
counted_fair ts k = by (lt_z k (pos 1))
  where
    by : (b : Bool) → Fair (cond b (Err OutOfRange) (Ok (counting ts ((innermost ts).counter + nat_abs k))))
    by true = omega arith
    by false = tt

datasource_fair : (z : ℤ) → Fair (datasource_from z)
unfolding datasource_from
datasource_fair (negsuc n) = omega arith
datasource_fair (pos n) = by (leb 1 n && leb n 35)
  where
    by : (b : Bool) → Fair (cond b (Ok n) (Err BadIndex))
    by true = tt
    by false = omega arith

-- ---- indexes, cells and arguments: 8 and 9

limited_late : (line : ℕ) (z : ℤ) → LateEnds (limited line z)
unfolding limited
limited_late line (negsuc k) = omega arith
limited_late line (pos k) = late_if (leb k 999) (done k) (stop BadIndex line) tt (omega arith)

module _ (m : Machine) (line : ℕ) where
  index_late : (i : Index) → LateEnds (index_value m line i)
  unfolding index_value
  index_late i = limited_late line (index_number m.variables.integers m.counter i)

  cell_late : (kind p : ℕ) (i j : Index) → LateEnds (worth_of (cell_meaning m line kind p i j))
  unfolding worth_of cell_meaning values.asks
  cell_late kind p i j =
      late_bind (cell_meaning m line kind p i j) (λ a. done (answered a))
      (late_bind (index_value m line i) _ (index_late i) (λ r. late_bind (index_value m line j) _ (index_late j) (λ e a. tt)))
      (λ a. tt)

  operand_late : (s : List ℕ) (kind : ℕ) (o : Operand) → LateEnds (operand_meaning m s line kind o)
  unfolding operand_meaning
  operand_late s kind (NumberLiteral q) = tt
  operand_late s kind (StringLiteral a e) = tt
  operand_late s kind (IntegerVariable n) = tt
  operand_late s kind (DecimalVariable n) = tt
  operand_late s kind (StringVariable n) = tt
  operand_late s kind PageNumber = tt
  operand_late s kind LineNumber = tt
  operand_late s kind LoopCounter = tt
  operand_late s kind (RecordElement n) = tt
  operand_late s kind (EntryElement n) = tt
  operand_late s kind (Parameter p) = cell_late kind p (Fixed 0) (Fixed 0)
  operand_late s kind (Record p r) = cell_late kind p r (Fixed 0)
  operand_late s kind (Entry p r e) = cell_late kind p r e

  argument_late : (s : List ℕ) (a : Argument) → LateEnds (argument_meaning m s line a)
  unfolding argument_meaning
  argument_late s a = late_bind (operand_meaning m s line (question_kind a.filter) a.operand) _ (operand_late s (question_kind a.filter) a.operand) (λ w. tt)

  each_late : (qs : List Question) → LateEnds (asks_each line qs)
  unfolding asks_each
  each_late [] = tt
  each_late (q ∷ qs) = λ r. late_bind (asks_each line qs) (λ rest. done (r ∷ rest)) (each_late qs) (λ l. tt)

  count_late : (z : ℤ) → LateEnds (count_value line z)
  unfolding count_value
  count_late (pos n) = late_if (leb n 64) (done n) (stop BadIndex line) tt (omega arith)
  count_late (negsuc n) = omega arith

  fetch_late : (along : Along) (p : ℕ) (i j c : Index) → LateEnds (fetch_meaning m line along p i j c)
  unfolding fetch_meaning asks_elements
  fetch_late along p i j c =
      late_bind (index_value m line i) _ (index_late i) (λ r.
      late_bind (index_value m line j) _ (index_late j) (λ e.
      late_bind (count_value line (index_number m.variables.integers m.counter c)) _ (count_late (index_number m.variables.integers m.counter c)) (λ n.
      late_if (leb (first_along along r e + n) 1000) (asks_each line (element_questions (element_question m.datasource along p r e) 0 n)) (stop BadIndex line) (each_late _) (omega arith))))

  -- ---- a command

  followed : {A : Type 0} (s : List ℕ) (a : Argument) (f : Worth → Settled A) → ((w : Worth) → Fair (f w)) → LateEnds (bind (argument_meaning m s line a) (λ w. concluded line (f w)))
  followed s a f g = late_bind (argument_meaning m s line a) _ (argument_late s a) (λ w. late_concluded line (f w) (g w))

  integer_late : (s : List ℕ) (a : Argument) → LateEnds (integer_meaning m s line a)
  unfolding integer_meaning
  integer_late s a = followed s a integer_from integer_fair

  end_late : (s : List ℕ) (ts : List Table) (k : Option Argument) → LateEnds (end_meaning m s line ts k)
  unfolding end_meaning
  end_late s ts None = late_concluded line (counted ts (pos 1)) (counted_fair ts (pos 1))
  end_late s ts (Some a) = late_bind (integer_meaning m s line a) _ (integer_late s a) (λ k. late_concluded line (counted ts k) (counted_fair ts k))

  -- ---- a text line with what comes before it: 11, and what its fields ask

  values_late : (l : List ℕ) (ps : List Piece) → LateEnds (field_values m l line ps)
  values_late l [] = tt
  values_late l (Byte b ∷ ps) = values_late l ps
  values_late l (Placed f ∷ ps) =
      late_bind (argument_meaning m l line f.argument) _ (argument_late l f.argument) (λ w. late_bind (field_values m l line ps) (λ ws. done (w ∷ ws)) (values_late l ps) (λ ws. tt))

  text_late : (l : List ℕ) (from : ℕ) → LateEnds (text_meaning m l from line)
  unfolding text_meaning
  text_late l from =
      late_bind (field_values m l line (pieces_of l from)) _ (values_late l (pieces_of l from)) (λ ws. late_if (any_wrong ws) (stop WrongKind line) _ (omega arith) tt)

say_late : (m : Machine) (l : List ℕ) (from n : ℕ) (p : Page) → LateEnds (say_meaning m l from n p)
unfolding say_meaning
say_late m l from n p = late_bind (text_meaning (on m p) l from n) _ (text_late (on m p) n l from) (λ _. tt)

module _ (m : Machine) (t : List ℕ) (due : ℕ) where
  heads_late : (hs : List Heading) (p : Page) → LateEnds (heads_meaning m t due hs p)
  unfolding head_meaning
  heads_late [] p = say_late m [] 0 due p
  heads_late (h ∷ hs) p = late_bind (head_meaning m t due h p) (heads_meaning m t due hs) (say_late m _ _ _ p) (λ q. heads_late hs q)

  step_late : (feeds : Bool) (hs : List Heading) (l : List ℕ) (p : Page) → LateEnds (line_step m t due feeds hs l p)
  unfolding line_step turn_meaning top_meaning break_meaning
  step_late feeds hs l p =
      late_bind (turn_meaning due feeds p) _ (late_if (ltb 60 p.row) (break_meaning due feeds p) (done p) tt tt) (λ q.
      late_bind (top_meaning m t due hs q) (λ q'. say_meaning m l 0 due q')
      (late_if (eqb q.row 1) _ (done q) (late_if (eqb (highest_defined hs 9) 0) (done q) _ tt (heads_late (take (highest_defined hs 9) hs) q)) tt)
      (λ q'. say_late m l 0 due q'))

-- ---- a line, and a run

module _ (t : List ℕ) (start l : ℕ) (body : List ℕ) (s : State) where
  breaking_late : LateEnds (breaking l s)
  unfolding breaking break_meaning
  breaking_late = tt

  np_late : (n : Option Argument) → LateEnds (new_page_meaning l body s n)
  unfolding new_page_meaning breaking_for
  np_late None = breaking_late
  np_late (Some a) = late_bind (integer_meaning (seen s) body l a) (breaking_for l s) (integer_late (seen s) l body a) (λ z. late_if (lt_z (pos (61 - s.page.row)) z) (breaking l s) (done s) breaking_late tt)

  form_late : (f : Line) → LateEnds (form_meaning t start l body s f)
  unfolding form_meaning set_meaning zero_meaning test_meaning begin_meaning records_meaning entries_meaning datasource_meaning
  form_late form.Text = late_bind (line_step (seen s) t l s.layout.form_feeds s.layout.headings body s.page) _ (step_late (seen s) t l s.layout.form_feeds s.layout.headings body s.page) (λ p. tt)
  form_late (form.Section a b) = tt
  form_late (form.Set o v a) = late_bind (set_meaning (seen s) body l o v a) _ (followed (seen s) l body a (set_of s.variables o v) (set_fair s.variables o v)) (λ x. tt)
  form_late (form.IfNot a) = late_bind (zero_meaning (seen s) body l true a) _ (followed (seen s) l body a (zero_judged true) (zero_fair true)) (λ b. tt)
  form_late (form.If a) = late_bind (zero_meaning (seen s) body l false a) _ (followed (seen s) l body a (zero_judged false) (zero_fair false)) (λ b. tt)
  form_late (form.Compare k a b) =
      late_bind (test_meaning (seen s) body l k a b) _ (late_bind (argument_meaning (seen s) body l a) _ (argument_late (seen s) l body a) (λ v. followed (seen s) l body b (compared k v) (compared_fair k v))) (λ b. tt)
  form_late form.Else = tt
  form_late form.EndIf = tt
  form_late (form.BeginTable a) =
      late_bind (begin_meaning (seen s) body l s.tables s.position.at s.position.line a) _ (late_bind (integer_meaning (seen s) body l a) _ (integer_late (seen s) l body a) (λ n. tt)) (λ x. tt)
  form_late (form.EndTable k) = late_bind (end_meaning (seen s) body l s.tables k) _ (end_late (seen s) l body s.tables k) (λ x. tt)
  form_late (form.Records f) = late_bind (records_meaning (seen s) l f) _ (late_bind (fetch_meaning (seen s) l Records f.parameter f.«record» f.entry f.count) _ (fetch_late (seen s) l Records f.parameter f.«record» f.entry f.count) (λ x. tt)) (λ x. tt)
  form_late (form.Entries f) = late_bind (entries_meaning (seen s) l f) _ (late_bind (fetch_meaning (seen s) l Entries f.parameter f.«record» f.entry f.count) _ (fetch_late (seen s) l Entries f.parameter f.«record» f.entry f.count) (λ x. tt)) (λ x. tt)
  form_late (form.Datasource i) =
      late_bind (datasource_meaning (seen s) l i) _ (late_concluded l (datasource_from (index_number s.variables.integers (seen s).counter i)) (datasource_fair (index_number s.variables.integers (seen s).counter i))) (λ d. tt)
  form_late form.NoFormFeed = tt
  form_late (form.NewPage n) = np_late n
  form_late (form.Heading n from) = tt
  form_late (form.NoHeading n) = tt
  form_late form.Remark = tt

  parsed_late : (x : Option Line) → LateEnds (parsed_meaning t start l body s x)
  parsed_late (Some f) = form_late f
  parsed_late None = tt

line_late : (t : List ℕ) (s : State) → LateEnds (line_meaning t s)
unfolding line_meaning
line_late t s = parsed_late t s.position.at s.position.line (line_at t s.position.at) (past_line s (length (line_at t s.position.at))) (parse_line (line_at t s.position.at))

run_late : (n : ℕ) (t : List ℕ) (end : ℕ) (s : State) → LateEnds (run_from n t end s)
unfolding run_from
run_late zero t end s = late_if (ltb s.position.at end) (stop TooManyLines s.position.line) (done s) (omega arith) tt
run_late (suc n) t end s = late_if (ltb s.position.at end) (bind (line_meaning t s) (run_from n t end)) (done s) (late_bind (line_meaning t s) (run_from n t end) (line_late t s) (run_late n t end)) tt

-- Whatever answers it, a run that doesn't end with 0 ends with 7 or more.
pub late : (source : Question → Answer) (places room n : ℕ) (t : List ℕ) (end : ℕ) (s : State) → 1 ≤ number_of (run source places room (run_from n t end s)).end → 7 ≤ number_of (run source places room (run_from n t end s)).end
late source places room n t end s = late_runs (runs source places room (run_from n t end s)) (run_late n t end s)
