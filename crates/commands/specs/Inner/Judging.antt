-- What the contracts of tests say.
use Rattle.std.specs.Prelude.{◌≡◌, Bool, Result}
use Rattle.meaning.specs.declared.refusal.Refusal.{Refusal}
use Rattle.lines.specs.declared.command.Comparison.{Comparison}
use Rattle.values.specs.Inner.Texts.{Strings}
use Rattle.values.specs.declared.worth.Worth as W
use Rattle.values.specs.Inner.Yielding.{meant}
use Rattle.commands.specs.Testing.{is_missing, of_numbers, zero_judged}
use Rattle.commands.specs.Inner.Kinds.{numbers_hold}

pub record Lacks (w : W.Worth) (r : Bool) : Type 0 where
  pub same : (s : Strings) → r ≡ is_missing (meant s w)

pub record JudgesNumbers (c : Comparison) (v w : W.Worth) (r : Result Bool Refusal) : Type 0 where
  pub same : (s : Strings) → r ≡ of_numbers (numbers_hold c) (meant s v) (meant s w)

pub record JudgesZero (zero : Bool) (w : W.Worth) (r : Result Bool Refusal) : Type 0 where
  pub same : (s : Strings) → r ≡ zero_judged zero (meant s w)
