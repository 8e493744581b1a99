-- The three indexes by their places.
use Rattle.values.proofs.Fetches.{fetch_value}
use mir.ValLaws.{to_z-of_z}
use mir.Val.{SFits}
use mir.Syntax.{w64}
use borrow.Author.Rules.{rules}
use Rattle.values.proofs.fetch.fetch.Goals as goal

pub returns : goal.returns
returns c = let f : SFits w64 c.args.scene.turn = search rules in fetch_value _ _ _ _ _ _ _ _ _ _ _ (to_z-of_z w64 _ f) c.index_place-at.ensures c.index_place-entry.ensures c.index_place-count.ensures c.fetch_at.ensures
