-- The words from its place on are left to find.
use Rattle.std.proofs.Common.{◌≡◌, map, drop}
use Rattle.scan.specs.Inner.Tables.{word_at}
use Rattle.scan.proofs.words.word_at.Given as goal

abbrev pub invariant-loop-entry : goal.invariant-loop-entry
invariant-loop-entry g l = word_at (map (λ e. (e.0.now, e.1)) (drop l.entry-index l.words)) l.line l.at ≡ word_at (map (λ e. (e.0.now, e.1)) l.words) l.line l.at
