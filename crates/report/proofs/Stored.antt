-- The store is the first n bytes of its buffer: the cells, the answers and the index are those of that part by itself.
use Rattle.std.specs.Prelude.{Some, Option}
use mathlib.Core.Path.{◌≡◌, ap, ◌∙◌}
use mathlib.Core.List.{List}
use Prim.Native.Nat.{ℕ, ◌≤◌, ◌<◌}
use native.Mathlib.Omega.{arith}
use borrow.Author.Tests.{le-leb}
use lib.ListN.{length, take}
use lib.Seq.{take_all, length-take-le, get_or-take}
use Rattle.cells.specs.Cell.{Cell}
use Rattle.cells.specs.Store.{cells_held}
use Rattle.cells.specs.Asking.{replied, ask_of}
use Rattle.cells.specs.Inner.Index as I
use Rattle.cells.proofs.Locating.{held_some}
use Rattle.cells.proofs.Replies.{index_ready}
use Rattle.meaning.specs.Answer.{Answer}
use Rattle.meaning.specs.declared.question.Question.{Question}
use Rattle.values.specs.Source.{answers}
use Rattle.control.specs.Inner.Executing.{source_of, Kept}

module _ (b : List ℕ) (n : ℕ) (h : n ≤ length b) where
  part_long : length (take n b) ≡ n
  part_long = length-take-le n b h

  pub part_held : cells_held (take n b) (length (take n b)) ≡ cells_held b n
  unfolding cells_held
  part_held = rw (part_long, take_all n (take n b) (omega (arith, part_long)), le-leb n n (omega arith), le-leb n (length b) h)

  pub part_answers : ◌≡◌ {A = Question → Answer} (source_of (take n b)) (answers b n)
  unfolding ask_of
  part_answers = ap {B = Question → Answer} (λ (o : Option (List Cell)). λ (q : Question). (replied q o).answer) part_held

-- the index that was built serves the part
pub record Serving (b : List ℕ) (n : ℕ) (index : List ℕ) (count : ℕ) : Type 0 where
  pub kept : Kept (take n b) (take count index)
  pub counted : count ≤ length index
  pub stored : n ≤ length b
  pub short : n ≤ 65536
  pub cells : List Cell
  pub holds : cells_held b n ≡ Some cells

pub part_kept : (b : List ℕ) (n : ℕ) (p p' : List ℕ) (r : Option ℕ) → I.Indexes p (cells_held b n) p' r → (count : ℕ) → r ≡ Some count → 5461 ≤ length p → Serving b n p' count
part_kept b n p p' r i count e l =
    let g = index_ready b n p p' r i count e l in
    let x = held_some b n g.0 g.1.holds in
    let m : length (take count p') ≡ count = length-take-le count p' g.1.room in
    record {
      kept = record { cells = g.0; ready = record { holds = part_held b n x.inside ∙ g.1.holds; tally = m ∙ g.1.tally; room = omega arith; starts = λ j q. let w : j < count = omega (arith, m) in get_or-take count p' j 0 w ∙ g.1.starts j w } };
      counted = g.1.room;
      stored = x.inside;
      short = x.most;
      cells = g.0;
      holds = g.1.holds;
    }
