-- The index decides 1, the request 15, the new length 16; else the slot gives way to the cell.
use mathlib.Core.Path.{◌≡◌}
use native.Mathlib.Omega.{arith}
use Prim.Native.Nat.{ℕ}
use lib.ListN.{length-replicate}
use Rattle.std.proofs.Common.{Some, None}
use Rattle.std.proofs.lemmas.Result.{err_from_is_err_and}
use Rattle.meaning.specs.declared.refusal.Refusal.TheVariants.{BadStore, BadRequest}
use Rattle.store.specs.Edit.{edited_as}
use Rattle.store.proofs.Edits.{Putting, putting, put_bad_store, put_bad_request, put_full, put_done}
use Rattle.store.proofs.put_cell.Goals as goal

pub returns-in_err-count : goal.returns-in_err-count
unfolding edited_as
returns-in_err-count c =
    let p = err_from_is_err_and c.from_residual.result c.from_residual.ensures.1 in
    let e : c.build.result ≡ None = grind arith in
    let k : c.in_err-count.field-0.0 ≡ BadStore = grind arith in
    rw (p.1, p.2, k) (put_bad_store _ _ _ _ _ c.build.ensures _ e)

pub returns-in_err-key : goal.returns-in_err-key
unfolding edited_as
returns-in_err-key c =
    let p = err_from_is_err_and c.from_residual-in_err-key.result c.from_residual-in_err-key.ensures.1 in
    let e : c.build.result ≡ Some c.in_ok-count.count = grind arith in
    let n : c.cell_request.result ≡ None = grind arith in
    let k : c.in_err-key.field-0.0 ≡ BadRequest = grind arith in
    rw (p.1, p.2, k) (put_bad_request _ _ _ _ _ c.build.ensures _ _ e _ c.cell_request.ensures n)

pub overflow_sub-end : goal.overflow_sub-end
overflow_sub-end c =
    let e : c.build.result ≡ Some c.in_ok-count.count = grind arith in
    let k : c.cell_request.result ≡ Some c.in_ok-key.key = grind arith in
    let f : let s = c.args in Putting s.store.now s.len s.cell.now c.locate-found.result.at c.unwrap_or-size.result = rw c.unwrap_or-size.ensures (putting _ _ _ _ _ c.build.ensures _ _ e _ (omega (arith, length-replicate {A = ℕ} 5461 0)) _ k _ c.locate-found.ensures c.cell_request.ensures) in
    omega arith

pub overflow_add-end : goal.overflow_add-end
overflow_add-end c =
    let e : c.build.result ≡ Some c.in_ok-count.count = grind arith in
    let k : c.cell_request.result ≡ Some c.in_ok-key.key = grind arith in
    let f : let s = c.args in Putting s.store.now s.len s.cell.now c.locate-found.result.at c.unwrap_or-size.result = rw c.unwrap_or-size.ensures (putting _ _ _ _ _ c.build.ensures _ _ e _ (omega (arith, length-replicate {A = ℕ} 5461 0)) _ k _ c.locate-found.ensures c.cell_request.ensures) in
    omega arith

pub returns-then-room-end : goal.returns-then-room-end
unfolding edited_as
returns-then-room-end c =
    let e : c.build.result ≡ Some c.in_ok-count.count = grind arith in
    let k : c.cell_request.result ≡ Some c.in_ok-key.key = grind arith in
    let f : let s = c.args in Putting s.store.now s.len s.cell.now c.locate-found.result.at c.unwrap_or-size.result = rw c.unwrap_or-size.ensures (putting _ _ _ _ _ c.build.ensures _ _ e _ (omega (arith, length-replicate {A = ℕ} 5461 0)) _ k _ c.locate-found.ensures c.cell_request.ensures) in
    put_full _ _ _ _ _ f _ c.min-room.ensures c.if-room-end.true

pub replace-requires : goal.replace-requires
replace-requires c =
    let e : c.build.result ≡ Some c.in_ok-count.count = grind arith in
    let k : c.cell_request.result ≡ Some c.in_ok-key.key = grind arith in
    let f : let s = c.args in Putting s.store.now s.len s.cell.now c.locate-found.result.at c.unwrap_or-size.result = rw c.unwrap_or-size.ensures (putting _ _ _ _ _ c.build.ensures _ _ e _ (omega (arith, length-replicate {A = ℕ} 5461 0)) _ k _ c.locate-found.ensures c.cell_request.ensures) in
    (f.inside, f.room, omega arith)

pub returns : goal.returns
unfolding edited_as
returns c =
    let e : c.build.result ≡ Some c.in_ok-count.count = grind arith in
    let k : c.cell_request.result ≡ Some c.in_ok-key.key = grind arith in
    let f : let s = c.args in Putting s.store.now s.len s.cell.now c.locate-found.result.at c.unwrap_or-size.result = rw c.unwrap_or-size.ensures (putting _ _ _ _ _ c.build.ensures _ _ e _ (omega (arith, length-replicate {A = ℕ} 5461 0)) _ k _ c.locate-found.ensures c.cell_request.ensures) in
    put_done _ _ _ _ _ f (omega (arith, c.min-room.ensures, c.if-room-end.false)) (omega (arith, c.min-room.ensures, c.if-room-end.false)) _ c.replace.ensures
