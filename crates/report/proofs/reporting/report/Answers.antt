-- The loop keeps `Reached`, and `left_of` falls.
use mathlib.Core.Path.{sym, ap, subst, ◌∙◌}
use mathlib.Core.List.{List}
use Prim.Native.Nat.{ℕ}
use lib.ListN.{length, replicate, length-replicate}
use Rattle.meaning.specs.declared.question.Question.{Question}
use Rattle.report.proofs.Driving.{Reached, begins, log_fits, falls, goes_on}
use Rattle.report.proofs.reporting.report.Goals as goal

pub loop-s-init : goal.loop-s-init
loop-s-init c =
    let a = c.args in
    let row : List ℕ = replicate 16 0 in
    begins a.template.now a.section.now a.store.now a.len a.text.now a.reads.now c.begin-s.new.index c.begin-s.result c.no_strings-strings.result (ap length c.no_strings-strings.ensures ∙ length-replicate 99 row) c.begin-s.array_long c.begin-s.ensures

pub append-requires : goal.append-requires
append-requires c = let l = c.loop-s in log_fits _ _ _ _ _ _ l.s l.strings l.index l.text l.reads l.invariant c.loop-s-test.true _ _ c.run-s.result c.run-s.ensures.0

pub loop-s-smaller : goal.loop-s-smaller
loop-s-smaller c = let l = c.loop-s in falls _ _ _ _ _ _ l.s l.strings l.index l.text l.reads l.invariant c.loop-s-test.true _ _ c.run-s.result c.run-s.ensures.0

pub loop-s-preserved : goal.loop-s-preserved
loop-s-preserved c =
    let a = c.args in
    let l = c.loop-s in
    let r = c.run-s in
    subst (λ (y : List Question). Reached a.template.now a.section.now a.store.now a.len a.text.now a.reads.now r.result r.new.strings r.new.index r.new.text y) (sym c.append.ensures)
    (goes_on _ _ _ _ _ _ l.s l.strings l.index l.text l.reads l.invariant c.loop-s-test.true _ _ r.result r.ensures.0 r.new.index r.ensures.1)
