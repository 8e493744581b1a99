-- A key stands behind its cell's kind.
use Rattle.std.proofs.Common.{ℕ, ◌/◌, ap, ◌∙◌}
use Rattle.cells.proofs.BigEndian.{key_of_octet}
use Rattle.cells.proofs.find.key_and_byte.Goals as goal

pub returns : goal.returns
returns c = λ h. ap (λ (n : ℕ). n / 256) c.octet.ensures.0 ∙ key_of_octet c.args.store.now (λ i. (c.type_inv.store i).fits) _
