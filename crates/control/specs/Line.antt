-- One line of a run, from the state before it to the state behind it.
use Rattle.std.specs.Prelude.{Bool, true, false, cond, List, ℕ, ◌+◌, ◌-◌, ℤ, pos, length, drop, Option, Some, None}
use Rattle.std.specs.Int.Signed.{lt_z}
use Rattle.scan.specs.Line.{line_at}
use Rattle.arguments.specs.declared.argument.Argument.{Argument}
use Rattle.lines.specs.declared.command.Line.{Line}
use Rattle.lines.specs.declared.command.Line.TheVariants as form
use Rattle.lines.specs.Readers.Command.{parse_line}
use Rattle.template.specs.declared.seek.Sought.{Sought}
use Rattle.template.specs.declared.seek.Sought.TheVariants.{Branch, TestEnd, TableEnd}
use Rattle.template.specs.Seek.{skipped}
use Rattle.meaning.specs.Tree.{done, bind}
use Rattle.meaning.specs.Meaning.{Meaning}
use Rattle.values.specs.Machine.{Variables, set_numbered}
use Rattle.commands.specs.Settling.{integer_meaning}
use Rattle.commands.specs.Setting.{set_meaning}
use Rattle.commands.specs.Testing.{zero_meaning, test_meaning}
use Rattle.commands.specs.Looping.{Looping, innermost, begin_meaning, end_meaning}
use Rattle.control.specs.Fetching.{records_meaning, entries_meaning}
use Rattle.control.specs.Selecting.{datasource_meaning}
use Rattle.pages.specs.declared.heading.Heading.{Heading}
use Rattle.pages.specs.Heading.{no_heading}
use Rattle.pages.specs.Page.{break_meaning, line_step}
use Rattle.control.specs.State.{State, seen, with_position, with_variables, with_datasource, with_tables, with_layout, with_page, cleared}

-- behind a line of n bytes
abbrev pub past_line : State → ℕ → State
past_line s n = with_position s (s.position.at + n + 1) (s.position.line + 1)

-- behind the line that matches
abbrev pub jumped : List ℕ → State → Sought → State
jumped t s q = with_position s (s.position.at + (skipped (drop s.position.at t) q).bytes) (s.position.line + (skipped (drop s.position.at t) q).lines)

-- ---- each is a line with its number l and its bytes, and s is the state behind it

-- IV, FV, SV, R and T as the command leaves them
abbrev pub setting : State → Meaning Variables → Meaning State
setting s t = bind t (λ v. done (with_variables s v))

-- "A failed one continues at the line after its matching `$ELSE`, or `$ENDIF` if there is none"
unfoldable pub branched : List ℕ → State → Bool → State
branched t s true = s
branched t s false = jumped t s Branch

abbrev pub testing : List ℕ → State → Meaning Bool → Meaning State
testing t s m = bind m (λ holds. done (branched t s holds))

-- "With n below 1 the run continues after the matching $ET"
unfoldable pub table_begun : List ℕ → State → Looping → State
table_begun t s x = cond x.elsewhere (jumped t s TableEnd) (with_tables s x.tables)

-- "else goes to the line after $BT"
unfoldable pub table_counted : State → Looping → State
table_counted s x =
    cond x.elsewhere (with_position (with_tables s x.tables) (innermost x.tables).start (innermost x.tables).line) (with_tables s x.tables)

-- "$NP breaks always"
unfoldable pub breaking : ℕ → State → Meaning State
breaking l s = bind (break_meaning l s.layout.form_feeds s.page) (λ p. done (with_page s p))

-- "`$NP n` if 61 − LINENUM is below n"
unfoldable pub breaking_for : ℕ → State → ℤ → Meaning State
breaking_for l s n = cond (lt_z (pos (61 - s.page.row)) n) (breaking l s) (done s)

unfoldable pub new_page_meaning : ℕ → List ℕ → State → Option Argument → Meaning State
new_page_meaning l body s None = breaking l s
new_page_meaning l body s (Some a) = bind (integer_meaning (seen s) body l a) (breaking_for l s)

-- "`$PHn text`": worked out when it is printed, so the line is kept
abbrev pub headed : State → ℕ → Heading → State
headed s n h = with_layout s (set_numbered s.layout.headings n h) s.layout.form_feeds

-- ---- the line that starts at a place of the template

unfoldable pub form_meaning : List ℕ → ℕ → ℕ → List ℕ → State → Line → Meaning State
form_meaning t start l body s form.Text =
    bind (line_step (seen s) t l s.layout.form_feeds s.layout.headings body s.page) (λ p. done (with_page s p))
form_meaning t start l body s (form.Section a e) = done (cleared s)
form_meaning t start l body s (form.Set o v a) = setting s (set_meaning (seen s) body l o v a)
form_meaning t start l body s (form.IfNot a) = testing t s (zero_meaning (seen s) body l true a)
form_meaning t start l body s (form.If a) = testing t s (zero_meaning (seen s) body l false a)
form_meaning t start l body s (form.Compare c a b) = testing t s (test_meaning (seen s) body l c a b)
-- "an executed `$ELSE` continues after `$ENDIF`"
form_meaning t start l body s form.Else = done (jumped t s TestEnd)
form_meaning t start l body s form.EndIf = done s
form_meaning t start l body s (form.BeginTable a) =
    bind (begin_meaning (seen s) body l s.tables s.position.at s.position.line a) (λ x. done (table_begun t s x))
form_meaning t start l body s (form.EndTable k) = bind (end_meaning (seen s) body l s.tables k) (λ x. done (table_counted s x))
form_meaning t start l body s (form.Records f) = setting s (records_meaning (seen s) l f)
form_meaning t start l body s (form.Entries f) = setting s (entries_meaning (seen s) l f)
form_meaning t start l body s (form.Datasource i) = bind (datasource_meaning (seen s) l i) (λ d. done (with_datasource s d))
-- "under $NOFF"
form_meaning t start l body s form.NoFormFeed = done (with_layout s s.layout.headings false)
form_meaning t start l body s (form.NewPage n) = new_page_meaning l body s n
form_meaning t start l body s (form.Heading n from) =
    done (headed s n (record { start = start; length = length body; from = from; number = l }))
-- "no space after the word undefines it"
form_meaning t start l body s (form.NoHeading n) = done (headed s n no_heading)
-- "unread"
form_meaning t start l body s form.Remark = done s

-- no line of an accepted template has no form: template/proofs/Opening:opens_line
abbrev pub parsed_meaning : List ℕ → ℕ → ℕ → List ℕ → State → Option Line → Meaning State
parsed_meaning t start l body s (Some f) = form_meaning t start l body s f
parsed_meaning t start l body s None = done s

-- the line that is due, by what it spells (grammar/proofs/Lines:reads_what_is_spelled); a jump goes behind the line that matches
-- (demands/proofs/Matching:run_goes_behind_match)
unfoldable pub line_meaning : List ℕ → State → Meaning State
line_meaning t s =
    parsed_meaning t s.position.at s.position.line (line_at t s.position.at) (past_line s (length (line_at t s.position.at))) (parse_line (line_at t s.position.at))
