-- The row has 198 numbers, and all are filled.
use mathlib.Core.Path.{◌≡◌, ap, ◌∙◌}
use mathlib.Core.List.{[], append-nil}
use Prim.Native.Nat.{ℕ}
use native.Mathlib.Omega.{arith}
use lib.IntN.{pos}
use lib.ListN.{drop, replicate, drop_of_length-le}
use Rattle.values.proofs.registers.clear_numbers.Goals as goal

pub returns : goal.returns
returns c =
    let e : drop 198 c.args.row.now ≡ [] = drop_of_length-le c.args.row.now {i = 198} (omega arith) in
    rw (e, append-nil (replicate 198 (pos 0))) (c.fill.ensures.after (λ y e. e) ∙ ap (λ (n : ℕ). replicate n (pos 0)) c.told-row)
