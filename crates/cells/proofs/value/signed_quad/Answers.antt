-- The bits of a number of 32 bits are read in two's complement.
use Rattle.std.proofs.Common.{ℤ, ap, ◌∙◌, arith, w32, to_z, of_z}
use Rattle.std.proofs.lemmas.Int.{of_z-to_z}
use Rattle.cells.proofs.Values.{complement_quad, bits_back}
use Rattle.cells.proofs.value.signed_quad.Goals as goal

pub returns : goal.returns
returns c =
    let n = c.args.n in
    let back = ap (λ (z : ℤ). to_z w32 (of_z w32 z)) c.cast_signed.ensures ∙ ap (to_z w32) (of_z-to_z w32 n (omega arith)) in
    bits_back 4294967295 n _ (c.from.ensures ∙ back ∙ complement_quad n (omega arith)) (omega arith) (omega arith)
