-- By the kinds of an answer.
use mir.Syntax.{w64}
use mir.Val.{SFits}
use mir.ValLaws.{to_z-of_z}
use Rattle.station.proofs.Laws.{hands_missing, hands_integer, hands_decimal, hands_text, hands_highest}
use borrow.Author.Rules.{rules}
use Rattle.station.proofs.question.hand_answer.Goals as goal

pub returns-in-Missing : goal.returns-in-Missing
returns-in-Missing c = hands_missing c.in-Missing.is

pub returns-in-Integer : goal.returns-in-Integer
returns-in-Integer c =
    let f : SFits w64 c.in-Integer.z = search rules in
    hands_integer c.in-Integer.is (to_z-of_z w64 _ f)

pub returns-in-Decimal : goal.returns-in-Decimal
returns-in-Decimal c =
    let f : SFits w64 c.in-Decimal.z = search rules in
    hands_decimal c.in-Decimal.is (to_z-of_z w64 _ f)

pub returns-in-StringAt : goal.returns-in-StringAt
returns-in-StringAt c = hands_text c.in-StringAt.is

pub returns-in-Highest : goal.returns-in-Highest
returns-in-Highest c = hands_highest c.in-Highest.is
