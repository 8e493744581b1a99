-- The bits of a number of 64 bits are read in two's complement.
use Rattle.std.proofs.Common.{◌∙◌, arith}
use Rattle.cells.proofs.Values.{complement_octet, bits_back}
use Rattle.cells.proofs.value.signed_octet.Goals as goal

pub returns : goal.returns
returns c = bits_back 18446744073709551615 c.args.n _ (c.cast_signed.ensures ∙ complement_octet c.args.n (omega arith)) (omega arith) (omega arith)
