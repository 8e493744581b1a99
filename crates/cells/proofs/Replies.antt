-- What `ask` hands back, from the index that was built.
use Rattle.std.specs.Prelude.{Some, None, Option}
use Rattle.std.proofs.Common.{◌≡◌, ℕ, ◌+◌, ◌*◌, ◌≤◌, Bool, true, false, cond, List, [], ◌∷◌, ◌++◌, length, get_or, drop, sym, refl, ap, ◌∙◌, ap₂, arith, length-append, length-drop, length-take-le}
use lib.ListN.{get_or-append}
use lib.Seq.{sets, sets-eq}
use Rattle.meaning.specs.Answer.{missing}
use Rattle.meaning.specs.declared.question.Question.{Question}
use Rattle.meaning.specs.declared.refusal.Refusal.TheVariants as R
use Rattle.meaning.specs.declared.end.Ended.TheVariants.{Finished}
use Rattle.cells.specs.declared.Answered.{Answered}
use Rattle.cells.specs.declared.Answered.TheVariants.{Missing, Integer, Decimal, StringAt, Highest}
use Rattle.cells.specs.Cell.{Cell, cell_allowed, cell_bytes}
use Rattle.cells.specs.Store.{encode, cells_allowed, cells_held}
use Rattle.cells.specs.Inner.Index.{offsets, counted, Filled, Indexes, Ready, InStore, Answers}
use Rattle.cells.specs.Asking.{question_allowed, answer, refused_with, replied, ask_of, string_start, handed, asked_of, meant}
use Rattle.cells.proofs.BigEndian.{and_true}
use Rattle.cells.proofs.Locating.{held_some, cell_least}
use Rattle.cells.proofs.Walking.{length_offsets}

-- ---- an answer is handed back as what it means, from its place

pub as_handed : (b : List ℕ) (n i : ℕ) (x : Answered) → InStore b n i x → x ≡ handed i (meant b x)
unfolding InStore handed meant
as_handed b n i Missing s = refl
as_handed b n i (Integer z) s = refl
as_handed b n i (Decimal z) s = refl
as_handed b n i (StringAt j k) s = ap₂ StringAt s.0 (sym (length-take-le k (drop j b) (omega (arith, s.1, s.2, length-drop j b))))
as_handed b n i (Highest m) s = refl

pub answer_handed : {b p : List ℕ} {n count : ℕ} {cs : List Cell} (q : Question) (x : Answered) → Answers b p count q x → Ready b n p count cs → x ≡ handed (string_start q (Some cs)) (cond (question_allowed q) (answer q cs) missing)
answer_handed {b = b} {n = n} {cs = cs} q x w r =
    as_handed b n (string_start q (Some cs)) x (w.inside n cs r) ∙ ap (handed (string_start q (Some cs))) (w.answer n cs r)

-- ---- what the index tells

no_count : {n : ℕ} → None ≡ Some n → ⊥
no_count e = let z : ◌≡◌ {A = ℕ} 0 1 = cc in omega arith

pub none_counted : (o : Option (List Cell)) → None ≡ counted o → o ≡ None
unfolding counted
none_counted None e = refl
none_counted (Some cs) e = absurd (no_count e)

pub record Found (o : Option (List Cell)) (p p' : List ℕ) (n : ℕ) : Type 0 where
  pub cells : List Cell
  pub held : o ≡ Some cells
  pub tally : n ≡ length cells
  pub filled : p' ≡ sets p 0 (offsets 0 cells)

pub some_counted : (o : Option (List Cell)) (p p' : List ℕ) (n : ℕ) → Some n ≡ counted o → Filled p p' o → Found o p p' n
unfolding counted Filled
some_counted None p p' n e f = absurd (no_count (sym e))
some_counted (Some cs) p p' n e f = record { cells = cs; held = refl; tally = cc; filled = f }

-- 65,536 bytes hold at most 5,461 cells
pub encode_least : (cs : List Cell) → cells_allowed cs ≡ true → 12 * length cs ≤ length (encode cs)
unfolding encode cells_allowed
encode_least [] a = omega arith
encode_least (c ∷ cs) a =
    let t = and_true (cell_allowed c) (cells_allowed cs) a in
    omega (arith, length-append (cell_bytes c) (encode cs), cell_least c t.0, encode_least cs t.1)

module _ (b : List ℕ) (n : ℕ) (p p' : List ℕ) (r : Option ℕ) (i : Indexes p (cells_held b n) p' r) where
  pub not_held : r ≡ None → cells_held b n ≡ None
  not_held e = none_counted (cells_held b n) (sym e ∙ i.told)

  pub built : (count : ℕ) → r ≡ Some count → Found (cells_held b n) p p' count
  built count e = some_counted (cells_held b n) p p' count (sym e ∙ i.told) i.filled

  -- an index with room for 5,461 places serves for every store
  pub index_ready : (count : ℕ) → r ≡ Some count → 5461 ≤ length p → (cs : List Cell) × Ready b n p' count cs
  index_ready count e l =
      let f = built count e in
      let cs = f.cells in
      let h = held_some b n cs f.held in
      let m : 12 * length cs ≤ 65536 = omega (arith, encode_least cs h.holds.valid.allowed, ap length h.holds.bytes, length-take-le n b h.inside, h.most) in
      let k : length (offsets 0 cs) ≡ length cs = length_offsets cs 0 in
      let s : p' ≡ offsets 0 cs ++ drop (0 + length (offsets 0 cs)) p = f.filled ∙ sets-eq (offsets 0 cs) p 0 (omega arith) in (
        cs,
        record {
          holds = f.held;
          tally = f.tally;
          room = omega (arith, f.tally, ap length s, length-append (offsets 0 cs) (drop (0 + length (offsets 0 cs)) p));
          starts = λ j u. ap (λ (x : List ℕ). get_or x j 0) s ∙ get_or-append (offsets 0 cs) (drop (0 + length (offsets 0 cs)) p) 0 j (omega (arith, f.tally));
        },
      )

  -- ---- the answers of `ask`

  pub ask_bad_store : (q : Question) → r ≡ None → record { end = refused_with R.BadStore; answer = Missing } ≡ asked_of b n q
  unfolding asked_of ask_of replied handed
  ask_bad_store q e = rw (not_held e)

  module _ (q : Question) (count : ℕ) (e : r ≡ Some count) (t : Bool) (a : t ≡ question_allowed q) where
    pub ask_bad_request : t ≡ false → record { end = refused_with R.BadRequest; answer = Missing } ≡ asked_of b n q
    unfolding asked_of ask_of replied handed
    ask_bad_request u = rw ((built count e).held, sym a ∙ u)

    pub ask_answered : t ≡ true → 5461 ≤ length p → (x : Answered) → Answers b p' count q x → record { end = Finished; answer = x } ≡ asked_of b n q
    unfolding asked_of ask_of replied
    ask_answered u l x w =
        let g = index_ready count e l in
        let v : question_allowed q ≡ true = sym a ∙ u in
        let h : x ≡ handed (string_start q (Some g.0)) (cond (question_allowed q) (answer q g.0) missing) = answer_handed q x w g.1 in
        rw (g.1.holds, v) (ap (λ (y : Answered). record { end = Finished; answer = y }) (rw v at h))
