use native.Mathlib.Omega.{arith}
use mathlib.Core.Logic.{inl, inr}
use Rattle.nesting.proofs.OpenLaws.{test_step, no_test_step}
use Rattle.nesting.proofs.test_begun.Goals as goal

pub returns-then-state-eq0 : goal.returns-then-state-eq0
returns-then-state-eq0 c =
    elim c.then-state-eq0.either [
      | inl e ↦ no_test_step _ (inl e)
      | inr x ↦ elim x [ inl k ↦ no_test_step _ (inr (inl (omega (arith, k.1)))) | inr k ↦ no_test_step _ (inr (inr k.2)) ]
    ]

pub returns : goal.returns
returns c = test_step _ c.if-state-eq0.false (omega (arith, c.if-state-ge-MOST_TESTS.false)) c.if-state-ge-TOO_MANY.false
