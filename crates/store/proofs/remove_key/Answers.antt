-- The index decides 1, the request 15, the slot 17; else the cells behind it move up to its place.
use mathlib.Core.Path.{◌≡◌}
use native.Mathlib.Omega.{arith}
use Prim.Native.Nat.{ℕ, ◌≤◌}
use lib.ListN.{length, replicate, length-replicate}
use Rattle.std.proofs.Common.{Some, None}
use Rattle.std.proofs.lemmas.Result.{err_from_is_err_and}
use Rattle.meaning.specs.declared.refusal.Refusal.TheVariants.{BadStore, BadRequest, NoCell}
use Rattle.store.specs.Edit.{edited_as}
use Rattle.store.proofs.Edits.{remove_bad_store, remove_bad_request, remove_none, slot_inside, remove_done}
use Rattle.store.proofs.remove_key.Goals as goal

long : 5461 ≤ length (replicate {A = ℕ} 5461 0)
long = omega (arith, length-replicate {A = ℕ} 5461 0)

pub returns-in_err-count : goal.returns-in_err-count
unfolding edited_as
returns-in_err-count c =
    let p = err_from_is_err_and c.from_residual.result c.from_residual.ensures.1 in
    let e : c.build.result ≡ None = grind arith in
    let k : c.in_err-count.field-0.0 ≡ BadStore = grind arith in
    rw (p.1, p.2, k) (remove_bad_store _ _ _ _ _ c.build.ensures _ e)

pub returns-in_err-number : goal.returns-in_err-number
unfolding edited_as
returns-in_err-number c =
    let p = err_from_is_err_and c.from_residual-in_err-number.result c.from_residual-in_err-number.ensures.1 in
    let e : c.build.result ≡ Some c.in_ok-count.count = grind arith in
    let n : c.key_request.result ≡ None = grind arith in
    let k : c.in_err-number.field-0.0 ≡ BadRequest = grind arith in
    rw (p.1, p.2, k) (remove_bad_request _ _ _ _ _ c.build.ensures _ _ e _ c.key_request.ensures n)

pub returns-in_err-size : goal.returns-in_err-size
unfolding edited_as
returns-in_err-size c =
    let p = err_from_is_err_and c.from_residual-in_err-size.result c.from_residual-in_err-size.ensures.1 in
    let e : c.build.result ≡ Some c.in_ok-count.count = grind arith in
    let k : c.key_request.result ≡ Some c.in_ok-number.number = grind arith in
    let z : c.locate-found.result.size ≡ None = grind arith in
    let m : c.in_err-size.field-0.0 ≡ NoCell = grind arith in
    rw (p.1, p.2, m) (remove_none _ _ _ _ _ c.build.ensures _ _ e _ long _ k _ c.locate-found.ensures c.key_request.ensures z)

pub replace-requires : goal.replace-requires
replace-requires c =
    let e : c.build.result ≡ Some c.in_ok-count.count = grind arith in
    let k : c.key_request.result ≡ Some c.in_ok-number.number = grind arith in
    let z : c.locate-found.result.size ≡ Some c.in_ok-size.size = grind arith in
    let f = slot_inside _ _ _ _ _ c.build.ensures c.args.key.now _ e _ long _ k _ c.locate-found.ensures _ z in
    (f.0, f.1, omega (arith, f.0, f.1))

pub overflow_sub-result : goal.overflow_sub-result
overflow_sub-result c =
    let e : c.build.result ≡ Some c.in_ok-count.count = grind arith in
    let k : c.key_request.result ≡ Some c.in_ok-number.number = grind arith in
    let z : c.locate-found.result.size ≡ Some c.in_ok-size.size = grind arith in
    let f = slot_inside _ _ _ _ _ c.build.ensures c.args.key.now _ e _ long _ k _ c.locate-found.ensures _ z in
    omega (arith, f.0)

pub returns : goal.returns
unfolding edited_as
returns c =
    let e : c.build.result ≡ Some c.in_ok-count.count = grind arith in
    let k : c.key_request.result ≡ Some c.in_ok-number.number = grind arith in
    let z : c.locate-found.result.size ≡ Some c.in_ok-size.size = grind arith in
    remove_done _ _ _ _ _ c.build.ensures _ _ e _ long _ k _ c.locate-found.ensures _ z c.key_request.ensures _ c.replace.ensures
