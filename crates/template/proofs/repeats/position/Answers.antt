-- The names of the row are parted by the name.
use borrow.Author.Rules.{rules}
use Rattle.std.proofs.lemmas.List.Sorted.{IsPartitionPoint-from_clause}
use Rattle.template.proofs.SortedLaws.{below_at, past_last, parted, point_found}
use Rattle.template.proofs.repeats.position.Goals as goal

pub returns-then-is_below : goal.returns-then-is_below
returns-then-is_below c =
    past_last _ _ _ _ c.requires _ c.eight_at.ensures _ c.is_below.ensures c.if-is_below.true c.if-count-gt0.true

pub returns : goal.returns
returns c =
    let t = c.args.template.now in
    let name = c.args.name.now in
    point_found t c.args.places.now c.args.count name c.requires _ c.partition_point.ensures.bound
    (IsPartitionPoint-from_clause (below_at t name) _ _ c.partition_point.ensures.partitioned (parted t _ _ name c.requires) (λ a r q k. search rules))
