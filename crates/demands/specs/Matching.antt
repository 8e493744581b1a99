-- Where a failed test, an executed $ELSE and a skipped table go on: behind the line that `structure` says is their match.
use Rattle.std.specs.Prelude.{◌≡◌, Bool, true, false, cond, List, ◌∷◌, ℕ, suc, ◌+◌, min, pos, length, drop, Some}
use Rattle.std.specs.Int.Signed.{lt_z}
use Rattle.scan.specs.Line.{next_line}
use Rattle.arguments.specs.declared.argument.Argument.{Argument}
use Rattle.lines.specs.declared.command.Comparison.{Comparison}
use Rattle.lines.specs.declared.command.Line.TheVariants.{IfNot, If, Compare, Else, BeginTable}
use Rattle.lines.specs.Readers.Command.{parse_line}
use Rattle.nesting.specs.Nest.{Mark, test}
use Rattle.template.specs.declared.seek.Sought.{Sought}
use Rattle.template.specs.declared.seek.Sought.TheVariants.{Branch, TestEnd, TableEnd}
use Rattle.template.specs.Lines.{lines_of}
use Rattle.template.specs.Opening.{OpenBefore}
use Rattle.meaning.specs.Tree.{done, bind}
use Rattle.meaning.specs.Meaning.{Meaning}
use Rattle.commands.specs.Settling.{integer_meaning}
use Rattle.commands.specs.Testing.{zero_meaning, test_meaning}
use Rattle.control.specs.State.{Position, State, seen}
use Rattle.control.specs.Line.{line_meaning}
use Rattle.structure.specs.Matching.{MatchedBy}
use Rattle.demands.specs.Due.{bytes_due, on_next, on_at, in_table}

-- what is open before a line, and what is open around its test or table: a $ELSE stands in its test
pub data OpenAround : Sought → List Mark → List Mark → Type 0 where
  of_test : (M : List Mark) → OpenAround Branch M M
  of_else : (M : List Mark) → OpenAround TestEnd (test ∷ M) M
  of_table : (M : List Mark) → OpenAround TableEnd M M

-- from the line at one position to another position, behind the match of its test or table
pub record BehindMatch (t : List ℕ) (q : Sought) (from to : Position) : Type 0 where
  -- what check 4 has open before the line, behind it, and around its test or table
  pub count : ℕ
  pub before : List Mark
  pub behind : List Mark
  pub around : List Mark
  pub from_line : from.line ≡ suc count
  pub opens : OpenBefore t from.at count before
  pub opened : OpenBefore t (next_line t from.at) (suc count) behind
  pub stands : OpenAround q before around
  -- of the lines behind it, so many bytes and lines reach behind the match
  pub bytes : ℕ
  pub lines : ℕ
  pub matched : MatchedBy q around behind (lines_of (drop (next_line t from.at) t)) bytes lines
  -- "the last may lack it", its line end: then the template's end
  pub place : to.at ≡ min (next_line t from.at + bytes) (length t)
  pub to_line : to.line ≡ from.line + 1 + lines

-- ---- the line that is due in a state

-- "A failed one continues at the line after its matching `$ELSE`, or `$ENDIF` if there is none"
pub record TestGoesOn (t : List ℕ) (s : State) (m : Meaning Bool) : Type 0 where
  pub to : Position
  pub match : BehindMatch t Branch s.position to
  pub means : line_meaning t s ≡ bind m (λ holds. done (cond holds (on_next t s) (on_at s to)))

-- "an executed `$ELSE` continues after `$ENDIF`"
pub record ElseGoesOn (t : List ℕ) (s : State) : Type 0 where
  pub to : Position
  pub match : BehindMatch t TestEnd s.position to
  pub means : line_meaning t s ≡ done (on_at s to)

-- "With n below 1 the run continues after the matching $ET"
pub record TableGoesOn (t : List ℕ) (s : State) (a : Argument) : Type 0 where
  pub to : Position
  pub match : BehindMatch t TableEnd s.position to
  pub means : line_meaning t s ≡ bind (integer_meaning (seen s) (bytes_due t s) s.position.line a) (λ n. done (cond (lt_z n (pos 1)) (on_at s to) (in_table t s n)))

-- each of these lines
pub record GoesOn (t : List ℕ) (s : State) : Type 0 where
  pub at_if_not : (a : Argument) → parse_line (bytes_due t s) ≡ Some (IfNot a) → TestGoesOn t s (zero_meaning (seen s) (bytes_due t s) s.position.line true a)
  pub at_if : (a : Argument) → parse_line (bytes_due t s) ≡ Some (If a) → TestGoesOn t s (zero_meaning (seen s) (bytes_due t s) s.position.line false a)
  pub at_compare : (c : Comparison) (a b : Argument) → parse_line (bytes_due t s) ≡ Some (Compare c a b) → TestGoesOn t s (test_meaning (seen s) (bytes_due t s) s.position.line c a b)
  pub at_an_else : parse_line (bytes_due t s) ≡ Some Else → ElseGoesOn t s
  pub at_begin_table : (a : Argument) → parse_line (bytes_due t s) ≡ Some (BeginTable a) → TableGoesOn t s a
