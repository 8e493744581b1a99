-- A whole part past the limit is past it after rounding too.
use native.Mathlib.Omega.{arith}
use mathlib.Core.Path.{sym}
use Prim.Native.Nat.{◌*◌, ◌<◌}
use Rattle.numbers.specs.Range.{decimal_limit}
use Rattle.numbers.specs.Rounding.{rounded}
use Rattle.numbers.proofs.Machine.{abs_signed}
use Rattle.numbers.proofs.Millionths.{Quotient, quotient_is}
use Rattle.numbers.proofs.Laws.{checked_out}
use Rattle.numbers.proofs.decimal.quotient.Goals as goal

pub returns-then-whole-gt2000000000 : goal.returns-then-whole-gt2000000000
returns-then-whole-gt2000000000 c =
    let h : decimal_limit < Quotient c.args.a c.args.b = omega arith in
    sym
    (checked_out _ _
    (rw (abs_signed c.args.negative (rounded (c.args.a * 1000000) c.args.b), quotient_is c.args.a c.args.b c.requires.1.1) h))
