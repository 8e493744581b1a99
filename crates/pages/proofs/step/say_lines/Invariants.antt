use Rattle.pages.proofs.Stepping.{InLines}
use Rattle.pages.specs.Inner.Packed.{headings_of}
use Rattle.values.specs.Inner.State.{headings_in}
use Rattle.pages.specs.Inner.Pass.{lent}
use Rattle.pages.proofs.step.say_lines.Given as goal

abbrev pub invariant-loop-k : goal.invariant-loop-k
invariant-loop-k l =
    InLines (lent l.store l.index l.numbers l.strings l.words) l.scene l.initial.page l.template (headings_of (headings_in l.words)) l.line l.lead l.initial.text l.initial.printed l.initial.log l.k l.page l.text l.printed l.log
