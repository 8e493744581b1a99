-- What a call for tests hands back, from what the call below it hands back.
use Rattle.numbers.specs.declared.ArithmeticError.{ArithmeticError}
use Rattle.std.specs.Prelude.{Some, None, Option, Result, Ok}
use mathlib.Core.Path.{◌≡◌, refl, ap, ap₂, ◌∙◌, subst}
use mathlib.Core.Bool.{Bool, true, false, cond}
use mathlib.Core.List.{List, ◌++◌}
use Prim.Native.Nat.{ℕ, ◌+◌, ◌≤◌, ◌<◌}
use native.Mathlib.Omega.{arith}
use borrow.Author.Tests.{lt-ltb, le-ltb, ltb-false}
use lib.Dec.{ltb}
use lib.IntN.{ℤ}
use lib.ListN.{length, get_or, take, drop, get_or-append}
use lib.Seq.{sets, sets-eq, length-sets, take_at}
use Rattle.meaning.specs.declared.question.Question.{Question}
use Rattle.cells.specs.declared.Answered.{Answered}
use Rattle.cells.specs.Cell.{Cell}
use Rattle.cells.specs.Store.{cells_held}
use Rattle.cells.specs.Inner.Index.{Indexes, Answers, Ready, offsets}
use Rattle.cells.proofs.Replies.{answer_handed, built, not_held, index_ready}
use Rattle.cells.proofs.Walking.{length_offsets}
use Rattle.template.specs.declared.seek.Skip.{Skip}
use Rattle.station.specs.Answers.{ToldParts}
use Rattle.station_testing.specs.Codes.{ToldResult, ToldUnits}
use Rattle.station_testing.specs.Index.{Listing, listing, listed, ToldLookUp}
use Rattle.station_testing.specs.Jumps.{ToldSkip}

pub told_of : {o o' : Result ℤ ArithmeticError} {v v' : ℤ} {r : ℕ} → o ≡ o' → ToldResult o v v' r → ToldResult o' v v' r
told_of e t = rw e at t

pub told_value : {o : Result ℤ ArithmeticError} {z v v' : ℤ} → o ≡ Ok z → v' ≡ z → ToldResult o v v' 0
told_value e h = record { number = rw e; value = rw e h }

pub units_none : {o : (Option ℕ)} {n : ℕ} → o ≡ None → ToldUnits o n n false
units_none e = record { told = rw e; units = rw e }

pub units_some : {o : (Option ℕ)} {u n : ℕ} → o ≡ Some u → ToldUnits o n u true
units_some e = record { told = rw e; units = rw e }

pub told_skip : {x : Skip} (s : Skip) → s ≡ x → ToldSkip x s.bytes s.lines
told_skip s e = record { bytes = ap (λ (y : Skip). y.bytes) e; lines = ap (λ (y : Skip). y.lines) e }

-- ---- the index

-- an index of 5,461 places was built
module _ (b : List ℕ) (len : ℕ) (p p' : List ℕ) (r : Option ℕ) (x : Indexes p (cells_held b len) p' r) where
  pub index_few : (k : ℕ) → r ≡ Some k → 5461 ≤ length p → k ≤ length p'
  index_few k e l = (index_ready b len p p' r x k e l).1.room

  -- n and i are the count and the places that were lent
  module _ (n : ℕ) (i : List ℕ) where
    pub index_refused : r ≡ None → listing 1 n i ≡ listed i n (cells_held b len)
    unfolding listed
    index_refused e = rw (not_held b len p p' r x e)

    module _ (k : ℕ) (e : r ≡ Some k) where
      pub index_short : length i < k → listing 16 n i ≡ listed i n (cells_held b len)
      unfolding listed
      index_short h =
          let f = built b len p p' r x k e in
          rw (f.held, lt-ltb (length i) (length f.cells) (omega (arith, f.tally)))

      pub index_listed : 5461 ≤ length p → k ≤ length i → (j : List ℕ) → j ≡ sets i 0 (take k p') → listing 0 k j ≡ listed i n (cells_held b len)
      unfolding listed
      index_listed l h j s =
          let f = built b len p p' r x k e in
          let o : List ℕ = offsets 0 f.cells in
          let m : length o ≡ length f.cells = length_offsets f.cells 0 in
          let w : 0 + length o ≤ length p = omega (arith, m, f.tally, index_few k e l, ap length f.filled, length-sets p 0 o) in
          let t : take k p' ≡ o = ap (take k) (f.filled ∙ sets-eq o p 0 w) ∙ take_at o (drop (0 + length o) p) k (omega (arith, m, f.tally)) in
          rw (f.held, le-ltb (length i) (length f.cells) (omega (arith, f.tally))) (ap₂ (listing 0) f.tally (s ∙ ap (sets i 0) t))

-- ---- a question over an index

pub told_look_up : {b starts : List ℕ} {count : ℕ} {q : Question} (a : Answered) {k : ℕ} {v : ℤ} {i n : ℕ} → Answers b starts count q a → ToldParts a k v i n → ToldLookUp b starts count q k v i n
told_look_up {q = q} a {k = k} {v = v} {i = i} {n = n} s h = record { answer = λ len cs ready. subst (λ (x : Answered). ToldParts x k v i n) (answer_handed q a s ready) h }

-- where station_index ends with 0, the places are such an index
pub listed_ready : (b : List ℕ) (len n n' : ℕ) (i j : List ℕ) → listing 0 n' j ≡ listed i n (cells_held b len) → (cs : List Cell) × Ready b len j n' cs
unfolding listed
listed_ready b len n n' i j e = go (cells_held b len) refl e
  where
    go : (o : Option (List Cell)) → cells_held b len ≡ o → listing 0 n' j ≡ listed i n o → (cs : List Cell) × Ready b len j n' cs
    go None h e = let z : ◌≡◌ {A = ℕ} 0 1 = ap (λ (x : Listing). x.number) e in absurd (omega arith)
    go (Some cs) h e = (cs, fits (ltb (length i) (length cs)) refl e)
      where
        o : List ℕ
        o = offsets 0 cs

        fits : (t : Bool) → ltb (length i) (length cs) ≡ t → listing 0 n' j ≡ cond t (listing 16 n i) (listing 0 (length cs) (sets i 0 o)) → Ready b len j n' cs
        fits true u e = let z : ◌≡◌ {A = ℕ} 0 16 = ap (λ (x : Listing). x.number) e in absurd (omega arith)
        fits false u e =
            let m : n' ≡ length cs = ap (λ (x : Listing). x.count) e in
            let w : 0 + length o ≤ length i = omega (arith, ltb-false (length i) (length cs) u, length_offsets cs 0) in
            let s : j ≡ sets i 0 o = ap (λ (x : Listing). x.starts) e in
            let q : j ≡ o ++ drop (0 + length o) i = s ∙ sets-eq o i 0 w in
            record {
              holds = h;
              tally = m;
              room = omega (arith, m, w, length_offsets cs 0, ap length s, length-sets i 0 o);
              starts = λ k u. ap (λ (x : List ℕ). get_or x k 0) q ∙ get_or-append o (drop (0 + length o) i) 0 k (omega (arith, m, length_offsets cs 0));
            }
