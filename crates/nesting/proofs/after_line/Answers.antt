-- Each shape has a function of its own; a $REM changes nothing.
use Rattle.nesting.specs.Nest.{behind}
use mathlib.Core.Path.{refl}
use mathlib.Core.Logic.{inl, inr}
use Rattle.nesting.specs.Inner.Open.{Follows, step_in}
use Rattle.nesting.proofs.after_line.Goals as goal

pub returns-in-Remark : goal.returns-in-Remark
unfolding Follows behind step_in
returns-in-Remark c = rw c.in-Remark.is (record { told = refl; follows = λ s h. h })

-- a line without form is passed over like any other
pub returns-in-Plain : goal.returns-in-Plain
unfolding behind step_in
returns-in-Plain c = elim c.in-Plain.is [ inl e ↦ rw e c.passed.ensures | inr e ↦ rw e (record { told = c.passed.ensures.told; follows = λ s h. c.passed.ensures.follows s h }) ]
