-- The counter of the innermost table.
use Rattle.commands.proofs.Tabling.{loop_is}
use lib.IntN.{pos}
use mir.ValLaws.{to_z-of_z}
use mir.Val.{SFits}
use mir.Syntax.{w64}
use mathlib.Core.Path.{ap, ◌∙◌}
use borrow.Author.Rules.{rules}
use Rattle.commands.proofs.table.turn_of.Goals as goal

pub returns : goal.returns
returns c = let f : SFits w64 c.signed.result = search rules in to_z-of_z w64 _ f ∙ c.signed.ensures ∙ ap (λ t. pos t.counter) c.innermost-table.ensures ∙ ap pos (loop_is _)
