-- A run's numbers stay in range: what each line keeps, where the answers lie within their limits.
use Rattle.std.specs.Prelude.{Option, Some, None}
use mathlib.Core.Path.{◌≡◌, refl}
use mathlib.Core.Bool.{Bool, true, false, cond}
use mathlib.Core.List.{List, []}
use Prim.Native.Nat.{ℕ, ◌-◌, ◌≤◌}
use native.Mathlib.Omega.{arith}
use lib.IntN.{pos}
use lib.Signed.{lt_z}
use lib.ListN.{length}
use Rattle.scan.specs.Line.{line_at}
use Rattle.arguments.specs.declared.argument.Argument.{Argument}
use Rattle.lines.specs.declared.command.Line.{Line}
use Rattle.lines.specs.declared.command.Line.TheVariants as form
use Rattle.lines.specs.Readers.Command.{parse_line}
use Rattle.lines.proofs.Accepted.{Bounded, parsed_bounded}
use Rattle.meaning.specs.Each.{Each}
use Rattle.meaning.specs.Tree.{done, bind}
use Rattle.meaning.specs.Meaning.{Meaning}
use Rattle.meaning.proofs.Yielding.{Yields, yields_bind, yields_any}
use Rattle.numbers.specs.Range.{integer_limit}
use Rattle.cells.proofs.Limits.{AnswerWithin}
use Rattle.arguments.proofs.Parsed.{Between}
use Rattle.values.specs.Machine.{Variables}
use Rattle.values.proofs.Ranges.{IntegerWithin, DecimalWithin, Short, MachineWithin, VariablesWithin}
use Rattle.template.specs.declared.seek.Sought.TheVariants.{TableEnd}
use Rattle.commands.specs.declared.table.Table.{Table}
use Rattle.commands.specs.Settling.{integer_meaning}
use Rattle.commands.specs.Setting.{set_meaning}
use Rattle.commands.specs.Testing.{zero_meaning, test_meaning}
use Rattle.commands.specs.Looping.{Looping, innermost, begin_meaning, end_meaning}
use Rattle.control.specs.Fetching.{records_meaning, entries_meaning}
use Rattle.control.specs.Selecting.{datasource_meaning}
use Rattle.control.proofs.Giving as G
use Rattle.control.proofs.Giving.{loop_bounded, Selectable, datasource_gives}
use Rattle.control.proofs.Ranges.{Held, held, gives_yields, set_within, begin_within, end_within, records_within, entries_within}
use Rattle.pages.specs.declared.page.Page.{Page}
use Rattle.pages.specs.Page.{break_meaning, line_step}
use Rattle.control.specs.State.{State, seen, with_position, with_variables, with_datasource, with_tables, with_page, no_variables, cleared}
use Rattle.control.specs.Line.{past_line, jumped, setting, branched, testing, table_begun, table_counted, breaking, breaking_for, new_page_meaning, form_meaning, parsed_meaning, line_meaning}
use Rattle.control.specs.Inner.Sound.{Sound}
use Rattle.executed_line.proofs.Sounds.{each_same, full_none}

-- Every IV within ±2,000,000,000, every FV within ±2×10^15 millionths, every SV of at most 16 bytes, R and T's answers within
-- their limits, the tables' counters and limits integers in range, a datasource from 1 to 35.
pub record InRange (s : State) : Type 0 where
  pub variables : VariablesWithin s.variables
  pub tables : Each G.Bounded s.tables
  pub datasource : Between 1 35 s.datasource

-- The machine that an argument sees is in range: LOOP by the tables, PAGENUM and LINENUM by the lines that were executed.
pub seen_within : (t : List ℕ) (g : ℕ) (s : State) → g ≤ integer_limit → Sound t g s → InRange s → MachineWithin (seen s)
seen_within t g s h i r = record { variables = r.variables; counter = loop_bounded s.tables r.tables; page = omega (arith, i.number); row = omega (arith, i.last_row) }

-- A heading that a parsed line defines or undefines is one of the nine.
pub heading_there : (t : List ℕ) (g : ℕ) (s : State) → Sound t g s → (n : ℕ) → Between 1 9 n → Held s.layout.headings n
heading_there t g s i n b = held s.layout.headings 9 n i.headings b

-- ---- the state behind a line, with one part changed

module _ {s : State} (r : InRange s) where
  range_at : (at line : ℕ) → InRange (with_position s at line)
  range_at at line = record { variables = r.variables; tables = r.tables; datasource = r.datasource }

  range_tables : (ts : List Table) → Each G.Bounded ts → InRange (with_tables s ts)
  range_tables ts h = record { variables = r.variables; tables = h; datasource = r.datasource }

  range_variables : (v : Variables) → VariablesWithin v → InRange (with_variables s v)
  range_variables v h = record { variables = h; tables = r.tables; datasource = r.datasource }

  range_datasource : (d : ℕ) → Between 1 35 d → InRange (with_datasource s d)
  range_datasource d h = record { variables = r.variables; tables = r.tables; datasource = h }

  range_page : (p : Page) → InRange (with_page s p)
  range_page p = record { variables = r.variables; tables = r.tables; datasource = r.datasource }

-- "sets IV and FV to 0, SV to empty, clears R, T"
within_none : VariablesWithin no_variables
within_none = record {
  integers = record { each = each_same IntegerWithin 99 (pos 0) (omega arith); count = full_none.integers };
  decimals = record { each = each_same DecimalWithin 99 (pos 0) (omega arith); count = full_none.decimals };
  strings = record { each = each_same Short 99 [] (omega arith); count = full_none.strings };
  records = record { each = each_same (Each AnswerWithin) 10 [] tt; count = full_none.records };
  entries = record { each = each_same (Each AnswerWithin) 10 [] tt; count = full_none.entries };
}

pub range_cleared : (s : State) → Each G.Bounded s.tables → Between 1 35 s.datasource → InRange (cleared s)
range_cleared s h d = record { variables = within_none; tables = h; datasource = d }

-- ---- a line by its form: s is the state behind it, m the machine that it sees

module _ (t : List ℕ) (start l : ℕ) (body : List ℕ) (s : State) (h : MachineWithin (seen s)) (r : InRange s) where
  sets : (x : Meaning Variables) → Yields AnswerWithin x VariablesWithin → Yields AnswerWithin (setting s x) InRange
  sets x k = yields_bind AnswerWithin x (λ v. done (with_variables s v)) VariablesWithin InRange k (λ v e. range_variables r v e)

  tests : (x : Meaning Bool) → Yields AnswerWithin (testing t s x) InRange
  unfolding branched
  tests x = yields_bind AnswerWithin x (λ holds. done (branched t s holds)) (λ _. Unit {0}) InRange (yields_any AnswerWithin x) (λ b e. by b)
    where
      by : (b : Bool) → InRange (branched t s b)
      by true = r
      by false = range_at r _ _

  begins : (x : Looping) → Each G.Bounded x.tables → InRange (table_begun t s x)
  unfolding table_begun
  begins x k = by x.elsewhere
    where
      by : (b : Bool) → InRange (cond b (jumped t s TableEnd) (with_tables s x.tables))
      by true = range_at r _ _
      by false = range_tables r x.tables k

  ends : (x : Looping) → Each G.Bounded x.tables → InRange (table_counted s x)
  unfolding table_counted
  ends x k = by x.elsewhere
    where
      by : (b : Bool) → InRange (cond b (with_position (with_tables s x.tables) (innermost x.tables).start (innermost x.tables).line) (with_tables s x.tables))
      by true = range_at (range_tables r x.tables k) _ _
      by false = range_tables r x.tables k

  paged : (x : Meaning Page) → Yields AnswerWithin (bind x (λ p. done (with_page s p))) InRange
  paged x = yields_bind AnswerWithin x (λ p. done (with_page s p)) (λ _. Unit {0}) InRange (yields_any AnswerWithin x) (λ p e. range_page r p)

  breaks : Yields AnswerWithin (breaking l s) InRange
  unfolding breaking
  breaks = paged (break_meaning l s.layout.form_feeds s.page)

  pages : (n : Option Argument) → Yields AnswerWithin (new_page_meaning l body s n) InRange
  unfolding new_page_meaning breaking_for
  pages None = breaks
  pages (Some a) = yields_bind AnswerWithin (integer_meaning (seen s) body l a) (breaking_for l s) (λ _. Unit {0}) InRange (yields_any AnswerWithin (integer_meaning (seen s) body l a)) (λ z e. by (lt_z (pos (61 - s.page.row)) z))
    where
      by : (b : Bool) → Yields AnswerWithin (cond b (breaking l s) (done s)) InRange
      by true = breaks
      by false = r

  form_in_range : (f : Line) → Bounded body f → Yields AnswerWithin (form_meaning t start l body s f) InRange
  unfolding form_meaning
  form_in_range form.Text b = paged (line_step (seen s) t l s.layout.form_feeds s.layout.headings body s.page)
  form_in_range (form.Section a e) b = range_cleared s r.tables r.datasource
  form_in_range (form.Set o v a) b = sets (set_meaning (seen s) body l o v a) (set_within (seen s) h l body o v a b.1)
  form_in_range (form.IfNot a) b = tests (zero_meaning (seen s) body l true a)
  form_in_range (form.If a) b = tests (zero_meaning (seen s) body l false a)
  form_in_range (form.Compare c x y) b = tests (test_meaning (seen s) body l c x y)
  form_in_range form.Else b = range_at r _ _
  form_in_range form.EndIf b = r
  form_in_range (form.BeginTable a) b = yields_bind AnswerWithin (begin_meaning (seen s) body l s.tables s.position.at s.position.line a) (λ x. done (table_begun t s x)) (λ x. Each G.Bounded x.tables) InRange (begin_within (seen s) h l body s.tables s.position.at s.position.line a b r.tables) (λ x k. begins x k)
  form_in_range (form.EndTable k) b = yields_bind AnswerWithin (end_meaning (seen s) body l s.tables k) (λ x. done (table_counted s x)) (λ x. Each G.Bounded x.tables) InRange (end_within (seen s) body l s.tables k r.tables) (λ x e. ends x e)
  form_in_range (form.Records f) b = sets (records_meaning (seen s) l f) (records_within (seen s) h l f)
  form_in_range (form.Entries f) b = sets (entries_meaning (seen s) l f) (entries_within (seen s) h l f)
  form_in_range (form.Datasource i) b = yields_bind AnswerWithin (datasource_meaning (seen s) l i) (λ d. done (with_datasource s d)) Selectable InRange (gives_yields (datasource_meaning (seen s) l i) Selectable (datasource_gives (seen s) l i)) (λ d e. range_datasource r d (record { least = e.low; most = e.high }))
  form_in_range form.NoFormFeed b = record { variables = r.variables; tables = r.tables; datasource = r.datasource }
  form_in_range (form.NewPage n) b = pages n
  form_in_range (form.Heading n from) b = record { variables = r.variables; tables = r.tables; datasource = r.datasource }
  form_in_range (form.NoHeading n) b = record { variables = r.variables; tables = r.tables; datasource = r.datasource }
  form_in_range form.Remark b = r

  parsed_in_range : (x : Option Line) → ((f : Line) → x ≡ Some f → Bounded body f) → Yields AnswerWithin (parsed_meaning t start l body s x) InRange
  parsed_in_range (Some f) b = form_in_range f (b f refl)
  parsed_in_range None b = r

-- One line.
pub line_in_range : (t : List ℕ) (g : ℕ) (s : State) → g ≤ integer_limit → Sound t g s → InRange s → Yields AnswerWithin (line_meaning t s) InRange
unfolding line_meaning
line_in_range t g s h i r =
    let body = line_at t s.position.at in
    parsed_in_range t s.position.at s.position.line body (past_line s (length body)) (seen_within t g s h i r) (range_at r _ _) (parse_line body) (parsed_bounded body)
