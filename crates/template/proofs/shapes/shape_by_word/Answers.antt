-- The definition makes the code's test.
use borrow.Author.Tests.{eq-eqb, ne_eqb}
use Rattle.template.specs.Shape.{word_shape}
use Rattle.template.proofs.shapes.shape_by_word.Goals as goal

pub returns-then-byte-eq36 : goal.returns-then-byte-eq36
unfolding word_shape
returns-then-byte-eq36 c = rw (← c.byte.ensures.value, eq-eqb _ _ c.if-byte-eq36.true) c.command_shape.ensures

pub returns : goal.returns
unfolding word_shape
returns c = rw (← c.byte.ensures.value, ne_eqb _ _ c.if-byte-eq36.false)
