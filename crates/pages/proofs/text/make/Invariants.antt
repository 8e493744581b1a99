use Rattle.pages.proofs.Making.{InText}
use Rattle.pages.specs.Inner.Pass.{lent}
use lib.ListN.{length}
use Prim.Native.Nat.{◌-◌}
use Rattle.pages.proofs.text.make.Given as goal

abbrev pub invariant-loop-at : goal.invariant-loop-at
invariant-loop-at l =
    InText (lent l.store l.index l.numbers l.strings l.words) l.scene l.line l.from l.initial.log l.at l.filled l.wrong l.log l.buffer

abbrev pub decreases-loop-at : goal.decreases-loop-at
decreases-loop-at l =
    length l.line - l.at
