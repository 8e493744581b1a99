-- What is read is what the definition reads; its laws say the rest.
use mathlib.Core.Path.{◌≡◌}
use native.Mathlib.Omega.{arith}
use Rattle.std.proofs.lemmas.Grind.{common_steps}
use Rattle.scan.specs.Readers.Digits.{digits_at}
use Rattle.scan.proofs.DigitLaws.{digits_within, digits_count, digits_below}
use Rattle.scan.proofs.digits.digits_at.Goals as goal

pub returns : goal.returns
unfolding digits_at
returns c =
    let e : c.digits_of.result ≡ digits_at c.args.line.now c.args.at c.args.most = grind (arith, common_steps) in
    record {
      value = e;
      inside = λ h. digits_within c.args.line.now c.args.at c.args.most _ e (λ z. omega arith);
      few = digits_count c.args.line.now c.args.at c.args.most _ e;
      small = digits_below c.args.line.now c.args.at c.args.most _ e;
    }
