use mathlib.Core.Path.{◌≡◌}
use Rattle.values.specs.Inner.State.{headings_in}
use Rattle.pages.specs.Inner.Packed.{headings_of}
use Rattle.pages.specs.Page.{highest_defined}
use Rattle.pages.proofs.step.leading.Given as goal

abbrev pub invariant-loop-k : goal.invariant-loop-k
invariant-loop-k l = l.highest ≡ highest_defined (headings_of (headings_in l.words)) l.k
