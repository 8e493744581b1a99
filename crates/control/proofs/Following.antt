-- Where the run goes on behind a command, one law for each return of arms.rt.
use Rattle.std.specs.Prelude.{Result, Ok, Err}
use mathlib.Core.Path.{◌≡◌, refl, ap, ◌∙◌, subst}
use mathlib.Core.Bool.{Bool, true, false, cond}
use mathlib.Core.List.{List, []}
use Prim.Native.Nat.{ℕ, zero, suc, ◌+◌, ◌≤◌, ◌<◌}
use native.Mathlib.Omega.{arith}
use native.Mathlib.Nat.{add-zero}
use borrow.Author.Tests.{le-leb, lt-leb, leb-false}
use lib.Dec.{leb}
use lib.IntN.{ℤ, pos, negsuc}
use lib.ListN.{length, drop_of_length-le}
use Rattle.values.specs.Inner.Registers.{Puts}
use Rattle.values.specs.Machine.{set_numbered}
use Rattle.buffers.proofs.Laws.{map_set}
use Rattle.template.specs.declared.seek.Sought.{Sought}
use Rattle.template.specs.Lines.{lines_within, lines_of}
use Rattle.template.specs.Seek.{cut_to, skip_from, skipped}
use Rattle.meaning.specs.declared.refusal.Refusal.TheVariants.{BadIndex}
use Rattle.values.specs.declared.scene.Scene.{Scene}
use Rattle.values.specs.Inner.Hearing.{place_of}
use Rattle.control.specs.Selecting.{datasource_from}
use Rattle.values.specs.Inner.State.{headings_in}
use Rattle.pages.specs.declared.heading.Heading.{Heading}
use Rattle.pages.specs.Inner.Packed.{heading_in, headings_of}
use Rattle.control.specs.declared.state.Flow.{Flow}
use Rattle.control.specs.Inner.Going.{scene_of, datasource_in, jumped_in}
use Rattle.control.specs.Inner.Arms.{datasource_at, Settles, Refills, Heads}
use Rattle.meaning.specs.declared.end.Stop.{Stop}
use Rattle.meaning.specs.declared.end.Halt.TheVariants.{Refused}
use Rattle.meaning.specs.Number.{stopped}
use Rattle.std.specs.Prelude.{Result, Ok, Err, IfOk, IfErr}

-- ---- the flow

skip_none : (q : Sought) → skipped [] q ≡ record { bytes = 0; lines = 0 }
unfolding skipped cut_to skip_from lines_of lines_within
skip_none q = refl

-- behind the template's end nothing is passed over
pub jumped_outside : (t : List ℕ) (f : Flow) (q : Sought) → length t < f.at → f ≡ jumped_in t f q
jumped_outside t f q h =
    let k : length t ≤ f.at = omega arith in
    rw (drop_of_length-le t k, skip_none q, add-zero f.at, add-zero f.line)

-- ---- $SETDS

pub datasource_is : (z : ℤ) → datasource_from z ≡ datasource_at (place_of z)
unfolding datasource_from place_of datasource_at
datasource_is (negsuc k) = refl
datasource_is (pos k) = by (leb k 999) refl
  where
    by : (b : Bool) → leb k 999 ≡ b → datasource_from (pos k) ≡ datasource_at (cond b k 1000)
    by true e = refl
    by false e = let h : 999 < k = leb-false k 999 e in rw (le-leb 1 k (omega arith), lt-leb k 35 (omega arith))

-- ---- headings

numbered_map : (ws : List ℕ) (n w : ℕ) → headings_of (set_numbered ws n w) ≡ set_numbered (headings_of ws) n (heading_in w)
unfolding set_numbered
numbered_map ws zero w = refl
numbered_map ws (suc k) w = map_set heading_in ws k w

pub heads : (ws ws' : List ℕ) (n w : ℕ) (h : Heading) → heading_in w ≡ h → Puts ws 119 9 n w ws' → Heads ws n h ws'
heads ws ws' n w h e q = record {
  set = ap headings_of q.own ∙ numbered_map (headings_in ws) n w ∙ ap (set_numbered (headings_of (headings_in ws)) n) e;
  others = q.below;
  above = q.above;
}
