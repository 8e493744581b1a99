-- The word behind the first by LOOP less 1 is that of element LOOP, and its answer over the index is the one fetched.
use Rattle.values.proofs.Recalling.{recalls_none, recalls_past, recalls_at}
use mir.ValLaws.{to_z-of_z}
use mir.Val.{SFits}
use mir.Syntax.{w64}
use borrow.Author.Rules.{rules}
use Rattle.values.proofs.fetch.element.Goals as goal
use Rattle.values.proofs.fetch.element.Goals.{then-k-lt1-via-then-k-lt1, then-k-lt1-via-else-k-lt1+then-fetched-k}

pub returns-then-k-lt1 : goal.returns-then-k-lt1
returns-then-k-lt1 c =
    let f : SFits w64 c.args.turn = search rules in
    elim c.then-k-lt1.branch [
      | then-k-lt1-via-then-k-lt1 w ↦ recalls_none _ _ _ _ _ _ _ c.turn_of-k.ensures (to_z-of_z w64 _ f) w.if-k-lt1.true
      | then-k-lt1-via-else-k-lt1+then-fetched-k w ↦
          recalls_past _ _ _ _ _ _ _ c.turn_of-k.ensures (to_z-of_z w64 _ f) w.if-k-lt1.false w.if-fetched-k.true
    ]

pub returns : goal.returns
returns c = let f : SFits w64 c.args.turn = search rules in recalls_at _ _ _ _ _ _ _ c.turn_of-k.ensures (to_z-of_z w64 _ f) c.if-k-lt1.false _ _ _ c.if-fetched-k.false c.behind-word.ensures c.unpacked-question.ensures c.answer.ensures
