-- The index is built apart and copied where there is room for it.
use Rattle.std.proofs.Common.{◌≡◌, ◌+◌, take, sym, ◌∙◌, arith}
use Rattle.std.proofs.lemmas.List.{length-take-le}
use Rattle.std.proofs.lemmas.List.Edits.{sets-eq}
use lib.ListN.{length-replicate}
use Prim.Native.Nat.{ℕ}
use Rattle.station_testing.proofs.Laws.{index_refused, index_short, index_few, index_listed}
use Rattle.station_testing.proofs.index.station_index.Goals as goal

pub returns-in_default : goal.returns-in_default
returns-in_default c = index_refused _ _ _ _ _ c.build.ensures _ _ c.in_default.is

pub returns-then-starts-n : goal.returns-then-starts-n
returns-then-starts-n c = index_short _ _ _ _ _ c.build.ensures _ _ _ c.in-Some.is c.if-starts-n.true

pub slice_bounds-found-end : goal.slice_bounds-found-end
slice_bounds-found-end c = index_few _ _ _ _ _ c.build.ensures _ c.in-Some.is (omega (arith, length-replicate {A = ℕ} 5461 0))

pub slice_bounds-copy_from_slice-end-3 : goal.slice_bounds-copy_from_slice-end-3
slice_bounds-copy_from_slice-end-3 c = sym (length-take-le _ _ (index_few _ _ _ _ _ c.build.ensures _ c.in-Some.is (omega (arith, length-replicate {A = ℕ} 5461 0))))

pub copy_from_slice-requires : goal.copy_from_slice-requires
copy_from_slice-requires c =
    length-take-le _ _ c.if-starts-n.false
    ∙ sym (length-take-le _ _ (index_few _ _ _ _ _ c.build.ensures _ c.in-Some.is (omega (arith, length-replicate {A = ℕ} 5461 0))))

pub returns : goal.returns
returns c =
    let few = index_few _ _ _ _ _ c.build.ensures _ c.in-Some.is (omega (arith, length-replicate {A = ℕ} 5461 0)) in
    let m = length-take-le _ _ few in
    let s = sets-eq (take c.in-Some.n c.build.new.starts) c.args.starts.now 0 (omega (arith, m, c.if-starts-n.false)) in
    let z : 0 + c.in-Some.n ≡ c.in-Some.n = omega arith in
    rw c.copy_from_slice.ensures.after (index_listed _ _ _ _ _ c.build.ensures _ _ _ c.in-Some.is (omega (arith, length-replicate {A = ℕ} 5461 0)) c.if-starts-n.false _ (sym (rw z at (rw m at s))))
