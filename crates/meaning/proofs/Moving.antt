-- A line logs its questions from the start of a log of its own; they are then moved behind the questions of the run.
use mathlib.Core.Path.{◌≡◌, refl}
use mathlib.Core.List.{List}
use Prim.Native.Nat.{ℕ, ◌+◌, ◌-◌, ◌≤◌}
use native.Mathlib.Omega.{arith}
use lib.ListN.{length, take}
use lib.Seq.{sets}
use Rattle.meaning.specs.Tree.{Tree, End, Run, run}
use Rattle.meaning.specs.Inner.Place.{at, Does}
use Rattle.meaning.proofs.Runs.{asked_fits}
use Rattle.meaning.proofs.Doing.{filled}

module _ {Q R E L A : Type 0} {source : Q → R} {t : Tree Q R E L A} {e : End E L A} {text text' : List ℕ} {log log' : List Q} {n n' k p g g' : ℕ} (d : Does source t (at text n log 0 p g) (at text' n' log' k p g') e) where
  -- No more was asked than there were places for.
  pub asked_most : k ≤ p
  asked_most = omega (arith, d.did.asked, asked_fits source (p - 0) (length text - n) t)

  -- The same run, with its questions behind the `a` questions of a read list of `l` places.
  pub moved : (reads : List Q) (a l : ℕ) → l - a ≡ p → k ≤ length log → Does source t (at text n reads a l g) (at text' n' (sets reads a (take k log')) (a + k) l g') e
  moved reads a l h f =
      let x : Run Q E L A = run source (p - 0) (length text - n) t in
      let q : take k log' ≡ x.asked = filled log log' x.asked 0 k d.did.log d.did.asked (omega (arith, d.did.asked)) in
      let z : l - a ≡ p - 0 = omega arith in
      record {
        did = rw (z, q) (record {
          end = d.did.end;
          text = d.did.text;
          printed = d.did.printed;
          log = refl;
          asked = omega (arith, d.did.asked);
          places = refl;
          pages = d.did.pages;
        });
      }
