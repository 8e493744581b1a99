use mathlib.Core.Path.{◌≡◌}
use Prim.Native.Nat.{◌≤◌, ◌-◌}
use lib.ListN.{length}
use Rattle.texts.specs.Readers.Text.{text_pieces, fits_behind, text_fits}
use Rattle.texts.proofs.text.text_fits.Given as goal

abbrev pub invariant-loop-at : goal.invariant-loop-at
invariant-loop-at l = (fits_behind l.width (text_pieces l.line l.at) ≡ text_fits l.line l.from) × (l.width ≤ 132)

abbrev pub decreases-loop-at : goal.decreases-loop-at
decreases-loop-at l = length l.line - l.at
