-- What the line that is due means, by its form.
use Rattle.std.specs.Prelude.{Some}
use mathlib.Core.Path.{◌≡◌, ap}
use mathlib.Core.List.{List}
use Prim.Native.Nat.{ℕ}
use Rattle.lines.specs.declared.command.Line.{Line}
use Rattle.lines.specs.Readers.Command.{parse_line}
use Rattle.meaning.specs.Meaning.{Meaning}
use Rattle.control.specs.State.{State}
use Rattle.control.specs.Line.{form_meaning, parsed_meaning, line_meaning}
use Rattle.demands.specs.Due.{bytes_due, on_next}

abbrev pub by_form : List ℕ → State → Line → Meaning State
by_form t s f = form_meaning t s.position.at s.position.line (bytes_due t s) (on_next t s) f

pub line_means : (t : List ℕ) (s : State) (f : Line) → parse_line (bytes_due t s) ≡ Some f → line_meaning t s ≡ by_form t s f
unfolding line_meaning
line_means t s f e = ap (parsed_meaning t s.position.at s.position.line (bytes_due t s) (on_next t s)) e
