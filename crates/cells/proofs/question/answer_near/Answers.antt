-- The kind picks the answer, as in the definition.
use Rattle.std.proofs.Common.{arith}
use Rattle.cells.proofs.Questions.{answers_refused, key_inside, answers_cell, answers_highest, reach_most, offset_most}
use Rattle.cells.proofs.question.answer_near.Goals as goal

pub returns-then-not-allowed : goal.returns-then-not-allowed
returns-then-not-allowed c = answers_refused _ _ _ _ _ c.allowed.ensures c.if-not-allowed.true

pub number_of-key-requires : goal.number_of-key-requires
number_of-key-requires c = key_inside c.args.store.now c.args.starts.now c.args.count _ _ c.allowed.ensures c.if-not-allowed.false

pub returns-then-kind-eq1 : goal.returns-then-kind-eq1
returns-then-kind-eq1 c =
    answers_cell _ _ _ _ _ c.allowed.ensures c.if-not-allowed.false _ c.number_of-key.ensures.0 c.if-kind-eq1.true _ c.cell_answer.ensures

pub overflow_add-end : goal.overflow_add-end
overflow_add-end c = omega (arith, c.reach_of.ensures, reach_most c.args.question.kind)

pub highest-n-requires : goal.highest-n-requires
highest-n-requires c = (omega (arith, c.offset_of-offset.ensures, offset_most c.args.question.kind), c.number_of-key.ensures.1)

pub returns : goal.returns
returns c =
    answers_highest _ _ _ _ _ c.allowed.ensures c.if-not-allowed.false _ c.number_of-key.ensures.0 c.if-kind-eq1.false _ _ _ c.reach_of.ensures c.offset_of-offset.ensures c.highest-n.ensures
