-- An index outside its limits, no place, or the question: one law for each.
use mathlib.Core.Path.{sym, ◌∙◌}
use native.Mathlib.Omega.{arith}
use Rattle.values.proofs.Asking.{record_outside, entry_outside, no_place, hears}
use Rattle.values.proofs.question.ask_cell.Goals as goal
use Rattle.values.proofs.question.ask_cell.Goals.{then-question-gt999-via-then-question-gt999, then-question-gt999-via-else-question-gt999+then-question-gt999-2}

pub returns-then-question-gt999 : goal.returns-then-question-gt999
returns-then-question-gt999 c = elim c.then-question-gt999.branch [
  | then-question-gt999-via-then-question-gt999 w ↦ record_outside _ _ _ _ _ _ c.refused.ensures w.if-question-gt999.true
  | then-question-gt999-via-else-question-gt999+then-question-gt999-2 w ↦ entry_outside _ _ _ _ _ _ c.refused.ensures w.if-question-gt999.false w.if-question-gt999-2.true
]

pub returns-then-left-eq0 : goal.returns-then-left-eq0
returns-then-left-eq0 c = no_place _ _ _ _ _ c.if-question-gt999.false c.if-question-gt999-2.false _ c.cut.ensures (sym c.left.ensures ∙ c.if-left-eq0.true)

pub returns : goal.returns
returns c = rw c.note.ensures (hears _ _ _ _ _ c.if-question-gt999.false c.if-question-gt999-2.false _ _ (omega (arith, c.left.ensures, c.if-left-eq0.false)) c.noted.ensures c.answer_near-sought.ensures)
