-- What `begin` hands on: the state that a run starts from, whatever the rows of SV hold, and no jump.
use mathlib.Core.Path.{◌≡◌, refl}
use mathlib.Core.List.{List}
use Prim.Native.Nat.{ℕ}
use lib.ListN.{replicate}
use Rattle.template.specs.declared.Extent.{Extent}
use Rattle.meaning.specs.Answer.{Answer}
use Rattle.meaning.specs.declared.question.Question.{Question}
use Rattle.values.specs.Inner.State.{texts, words_from, fetched, bank}
use Rattle.commands.specs.Inner.Open.{opened}
use Rattle.pages.specs.Inner.Packed.{heading_in}
use Rattle.control.specs.Inner.Held.{state_of}
use Rattle.control.specs.Inner.Remembering.{RightJump, Remembered}
use Rattle.control.proofs.Remembering.{no_jump}
use Rattle.executed_line.proofs.Sounds.{each_same}
use Rattle.report.specs.Report.{start_of}
use Rattle.report.specs.Inner.Start.{start_flow, start_saved}
use Rattle.report.specs.Inner.Begun.{held_in}

pub starts_at : (run : Extent) (len count places : ℕ) (rows : List (List ℕ)) (source : Question → Answer) → state_of source (held_in (start_saved run len count places) rows) (start_flow run) ≡ start_of run
unfolding start_saved start_flow bank texts words_from fetched opened heading_in
starts_at run len count places rows source = refl

-- No jump is remembered yet.
pub none_remembered : (t : List ℕ) → Remembered t (replicate 212 0)
unfolding bank
none_remembered t = record { jumps = each_same (RightJump t) 64 0 (no_jump t) }
