-- "Numbers a run can end with", and the line that it names.
use Rattle.std.specs.Prelude.{ℕ, Result, Ok, Err}
use Rattle.meaning.specs.Tree.{Cause, refused, cut, End, finished, halted}
use Rattle.numbers.specs.declared.ArithmeticError.{ArithmeticError}
use Rattle.numbers.specs.declared.ArithmeticError.TheVariants as arithmetic
use Rattle.meaning.specs.declared.refusal.Refusal.{Refusal}
use Rattle.meaning.specs.declared.refusal.Refusal.TheVariants.{BadStore, BadTemplate, BadLine, BadNesting, RepeatedSection, NoSection, TooManyLines, BadIndex, MissingArgument, WrongKind, ZeroDivisor, OutOfRange, BadRequest, StoreFull, NoCell}
use Rattle.meaning.specs.declared.refusal.Overflow.{Overflow}
use Rattle.meaning.specs.declared.refusal.Overflow.TheVariants.{ReadList, Output}
use Rattle.meaning.specs.declared.end.Halt.{Halt}
use Rattle.meaning.specs.declared.end.Halt.TheVariants.{Refused, Cut}
use Rattle.meaning.specs.declared.end.Stop.{Stop}
use Rattle.meaning.specs.declared.end.Ended.{Ended}
use Rattle.meaning.specs.declared.end.Ended.TheVariants.{Finished, Halted}

-- 9 and 14 stand under overflows.
abbrev pub refusal_number : Refusal → ℕ
refusal_number BadStore = 1
refusal_number BadTemplate = 2
refusal_number BadLine = 3
refusal_number BadNesting = 4
refusal_number RepeatedSection = 5
refusal_number NoSection = 6
refusal_number TooManyLines = 7
refusal_number BadIndex = 8
refusal_number MissingArgument = 10
refusal_number WrongKind = 11
refusal_number ZeroDivisor = 12
refusal_number OutOfRange = 13
refusal_number BadRequest = 15
refusal_number StoreFull = 16
refusal_number NoCell = 17

-- "The divisor is zero", "A result is out of range": why a calculation has no result, as why a line is refused
abbrev pub refusal_of : ArithmeticError → Refusal
refusal_of arithmetic.ZeroDivisor = ZeroDivisor
refusal_of arithmetic.OutOfRange = OutOfRange

abbrev pub overflow_number : Overflow → ℕ
overflow_number ReadList = 9
overflow_number Output = 14

abbrev pub cause_number : Cause Refusal → ℕ
cause_number (refused e) = refusal_number e
cause_number (cut o) = overflow_number o

-- "0 is success."
abbrev pub number_of : {L A : Type 0} → End Refusal L A → ℕ
number_of (finished a) = 0
number_of (halted c l) = cause_number c

-- The line that an end names; "0 .. give line 0". That 1 and 6 do, and every end of ask, put and remove, is said where these are
-- made: report/specs/Report:report_of, template/specs/Order:accepted_run, cells/specs/Asking:refused_with.
abbrev pub line_named : {A : Type 0} → End Refusal ℕ A → ℕ
line_named (finished a) = 0
line_named (halted c l) = l

abbrev pub cause_of : Halt → Cause Refusal
cause_of (Refused e) = refused e
cause_of (Cut o) = cut o

-- How a call of the code ended, with what it yields where the run goes on.
abbrev pub end_of : {A : Type 0} → A → Ended → End Refusal ℕ A
end_of a Finished = finished a
end_of a (Halted h l) = halted (cause_of h) l

-- The same of a call that answers with what it yields, seen as f sees it, or with where the run stops.
abbrev pub ended_in : {A B : Type 0} → (A → B) → Result A Stop → End Refusal ℕ B
ended_in f (Ok a) = finished (f a)
ended_in f (Err s) = halted (cause_of s.halt) s.line

abbrev pub stopped : Halt → ℕ → Stop
stopped h l = record { halt = h; line = l }
