-- Each part is in its place, and the parts are small enough that no sum wraps.
use mathlib.Core.Path.{refl}
use Rattle.pages.proofs.Heads.{read_back}
use Rattle.pages.proofs.heading.packed.Goals as goal

pub returns : goal.returns
returns c = read_back _ _ c.requires refl
