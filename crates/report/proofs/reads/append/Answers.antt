use mathlib.Core.Path.{◌≡◌, sym, subst}
use native.Mathlib.Omega.{arith}
use borrow.Author.Rules.{rules}
use Rattle.meaning.specs.declared.question.Question.{Question}
use Prim.Native.Nat.{◌+◌}
use lib.ListN.{length, set}
use Rattle.report.proofs.Appending.{Added, none, more, all}
use Rattle.report.proofs.reads.append.Goals as goal

pub loop-i-init : goal.loop-i-init
loop-i-init c = none c.args.reads.now c.args.log

pub loop-i-preserved : goal.loop-i-preserved
loop-i-preserved c =
    let l = c.loop-i in
    let h : length c.args.log.words ≡ 512 = search rules in
    subst (λ (q : Question). Added c.args.reads.now c.args.log (l.i + 1) (set l.reads (c.args.log.at + l.i) q)) (sym c.unpacked.ensures)
    (more c.args.reads.now c.args.log l.i l.reads c.loop-i-test.true (omega arith) l.invariant)

pub returns : goal.returns
returns c = all c.args.reads.now c.args.log c.loop-i.i c.loop-i.reads c.loop-i-test.false c.loop-i.invariant
