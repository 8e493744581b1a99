-- The index decides 1, the question 15; else the answer is the one over the index.
use Rattle.std.proofs.Common.{◌≡◌, ℕ, Some, None, arith}
use lib.ListN.{length-replicate}
use Rattle.std.proofs.lemmas.Result.{err_from_is_err_and}
use Rattle.meaning.specs.declared.refusal.Refusal.TheVariants.{BadStore}
use Rattle.cells.specs.Asking.{asked_as}
use Rattle.cells.proofs.Replies.{ask_bad_store, ask_bad_request, ask_answered}
use Rattle.cells.proofs.answer_of.Goals as goal

pub returns-in_err-count : goal.returns-in_err-count
unfolding asked_as
returns-in_err-count c =
    let p = err_from_is_err_and c.from_residual.result c.from_residual.ensures.1 in
    let e : c.build.result ≡ None = grind arith in
    let k : c.in_err-count.field-0.0 ≡ BadStore = grind arith in
    rw (p.1, p.2, k) (ask_bad_store _ _ _ _ _ c.build.ensures _ e)

pub returns-then-not-allowed : goal.returns-then-not-allowed
unfolding asked_as
returns-then-not-allowed c =
    let e : c.build.result ≡ Some c.in_ok-count.count = grind arith in
    ask_bad_request _ _ _ _ _ c.build.ensures _ _ e _ c.allowed.ensures c.if-not-allowed.true

pub returns : goal.returns
unfolding asked_as
returns c =
    let e : c.build.result ≡ Some c.in_ok-count.count = grind arith in
    ask_answered _ _ _ _ _ c.build.ensures _ _ e _ c.allowed.ensures c.if-not-allowed.false (omega (arith, length-replicate {A = ℕ} 5461 0)) _ c.answer.ensures
