-- The four numbers are within the limits, and those that the kind doesn't use are 0.
use Rattle.std.proofs.Common.{◌≡◌, ◌∙◌}
use Rattle.cells.specs.Cell.{key_of, key_allowed}
use Rattle.cells.specs.Asking.{key_asked}
use Rattle.cells.proofs.Questions.{refused_limits, allowed_rest}
use Rattle.cells.proofs.question.allowed.Goals as goal

pub returns-else-within_limits : goal.returns-else-within_limits
returns-else-within_limits c =
    let tested : c.within_limits.result ≡ key_allowed (key_asked c.args.question) = c.within_limits.ensures
    ∙ (λ i. key_allowed (key_of (c.from.ensures i) (c.from-2.ensures i) (c.from-3.ensures i) (c.from-4.ensures i))) in
    c.if-within_limits.false ∙ refused_limits _ _ (tested) c.if-within_limits.false

pub returns-then-within_limits : goal.returns-then-within_limits
returns-then-within_limits c =
    let tested : c.within_limits.result ≡ key_allowed (key_asked c.args.question) = c.within_limits.ensures
    ∙ (λ i. key_allowed (key_of (c.from.ensures i) (c.from-2.ensures i) (c.from-3.ensures i) (c.from-4.ensures i))) in
    allowed_rest _ _ (tested) c.if-within_limits.true _ c.unused_zero.ensures
