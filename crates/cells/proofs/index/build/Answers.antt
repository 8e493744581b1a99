-- The store is longer than its buffer or than 65,536 bytes, or the walk decides.
use Rattle.cells.proofs.Walking.{build_past, build_over, build_walk}
use Rattle.cells.proofs.index.build.Goals.{then-store-len-via-then-store-len, then-store-len-via-else-store-len+then-len-gt65536}
use Rattle.cells.proofs.index.build.Goals as goal

pub returns-then-store-len : goal.returns-then-store-len
returns-then-store-len c =
    elim c.then-store-len.branch [
      | then-store-len-via-then-store-len w ↦ build_past _ _ _ w.if-store-len.true
      | then-store-len-via-else-store-len+then-len-gt65536 w ↦ build_over _ _ _ w.if-len-gt65536.true
    ]

pub returns : goal.returns
returns c =
    build_walk _ _ _ _ _ c.if-store-len.false c.if-len-gt65536.false c.walk.ensures
