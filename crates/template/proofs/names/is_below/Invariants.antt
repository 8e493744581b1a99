use mathlib.Core.Path.{◌≡◌}
use lib.ListN.{drop}
use Rattle.scan.specs.Line.{line_of}
use Rattle.template.specs.Inner.Sorted.{is_below}
use Rattle.template.proofs.names.is_below.Given as goal

abbrev pub invariant-loop-i : goal.invariant-loop-i
invariant-loop-i l = is_below (line_of (drop l.i l.rest)) (drop l.i l.name) ≡ is_below (line_of l.rest) l.name
