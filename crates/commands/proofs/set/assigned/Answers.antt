-- By the kind of variable.
use Rattle.commands.proofs.Sets.{assigned_integer, assigned_decimal, assigned_string}
use mir.ValLaws.{to_z-of_z}
use mir.Val.{SFits}
use mir.Syntax.{w64}
use borrow.Author.Rules.{rules}
use Rattle.commands.proofs.set.assigned.Goals as goal

pub returns-in-IntegerTarget : goal.returns-in-IntegerTarget
returns-in-IntegerTarget c = let z = c.integer-a in let f : SFits w64 z.result = search rules in assigned_integer _ _ _ _ _ _ _ _ _ _ c.requires c.in-IntegerTarget.is _ z.ensures _ (rw (to_z-of_z w64 z.result f) at c.integer_new-taken.ensures) _ c.stored.ensures

pub returns-in-DecimalTarget : goal.returns-in-DecimalTarget
returns-in-DecimalTarget c = let z = c.decimal-a in let f : SFits w64 z.result = search rules in assigned_decimal _ _ _ _ _ _ _ _ _ _ c.requires c.in-DecimalTarget.is _ z.ensures _ (rw (to_z-of_z w64 z.result f) at c.decimal_new-taken.ensures) _ c.stored-in-DecimalTarget.ensures

pub returns-in-StringTarget : goal.returns-in-StringTarget
returns-in-StringTarget c = assigned_string _ _ _ _ _ _ _ _ _ _ c.requires c.in-StringTarget.is _ _ c.stored-in-StringTarget.ensures
