-- Edits of other parameters: every question about a parameter is answered as before, the highest numbers too.
use Rattle.std.specs.Prelude.{Option, Some, None}
use mathlib.Core.Path.{◌≡◌, refl, sym, ap, ◌∙◌}
use mathlib.Core.Bool.{Bool, true, false, cond, ◌&&◌, true≢false}
use mathlib.Core.List.{List, [], ◌∷◌, ◌++◌}
use Prim.Native.Nat.{ℕ, max}
use native.Mathlib.Omega.{arith}
use borrow.Author.Tests.{eqb-true, eq-eqb, ltb-true, ltb-false, not-true}
use lib.Dec.{eqb, ltb}
use lib.ListN.{length}
use Rattle.meaning.specs.declared.refusal.Refusal.TheVariants.{BadRequest, StoreFull}
use Rattle.meaning.specs.Each.{Each}
use Rattle.meaning.specs.declared.question.Question.{Question}
use Rattle.meaning.specs.declared.end.Ended.{Ended}
use Rattle.meaning.specs.declared.end.Ended.TheVariants.{Finished, Halted}
use Rattle.cells.specs.Cell.{Key, Cell, key_as_number, key_number, key_allowed, cell_allowed, whole_cell, whole_key}
use Rattle.cells.specs.Store.{cells_allowed}
use Rattle.cells.specs.Asking.{key_asked, Query, the_cell, query_allowed, question_allowed, lookup, highest_of, of_parameter, of_record, query_answer, answer, Reply, answered_ask, refused_ask, replied, ask_of}
use Rattle.cells.proofs.BigEndian.{and_true}
use Rattle.cells.proofs.CellForm.{same_key, key_allowed_law as cell-key-allowed}
use Rattle.cells.proofs.Locating.{held_some}
use Rattle.cells.proofs.Questions.{by_query}
use Rattle.store.specs.Edit.{lower, higher, with, without, refused_on, done_on, fits, put_on, taken_out, remove_on}
use Rattle.history.specs.LentStore.{LentStore, cells_held_by, ask_in}
use Rattle.history.specs.Change.{Change, put, remove, after_change, edit_end, succeeded, key_of_cell, key_named, is_key, of_its_parameter, touches_parameter, edited}
use Rattle.history.specs.History.{after_changes, outside}
use Rattle.history.proofs.Form.{cell_allowed_law, key_allowed_law, form_kept, refused_keeps, out_of_form_once}
use Rattle.history.proofs.Answers.{edited_other}

-- ---- the highest number over the cells whose keys pass a test

module _ (p : Key → Bool) (f : Cell → ℕ) where
  abbrev top : List Cell → ℕ
  top cs = highest_of (λ c. p c.key) f cs

  top_append : (xs ys : List Cell) → top (xs ++ ys) ≡ max (top xs) (top ys)
  unfolding highest_of
  top_append [] ys = omega arith
  top_append (x ∷ xs) ys = omega (arith, top_append xs ys)

  -- where no cell with the number n passes, those below and those above it have the highest
  top_around : (n : ℕ) (cs : List Cell) → Each (λ c. key_number c ≡ n → p c.key ≡ false) cs → max (top (lower n cs)) (top (higher n cs)) ≡ top cs
  unfolding highest_of lower higher
  top_around n [] h = omega arith
  top_around n (c ∷ cs) h = go (ltb (key_number c) n) refl (ltb n (key_number c)) refl (top_around n cs h.1)
    where
      go : (s : Bool) → ltb (key_number c) n ≡ s → (t : Bool) → ltb n (key_number c) ≡ t → max (top (lower n cs)) (top (higher n cs)) ≡ top cs → max (top (cond s (c ∷ lower n cs) (lower n cs))) (top (cond t (c ∷ higher n cs) (higher n cs))) ≡ max (cond (p c.key) (f c) 0) (top cs)
      go true e true u r = absurd (omega (arith, ltb-true (key_number c) n e, ltb-true n (key_number c) u))
      go true e false u r = omega (arith, r)
      go false e true u r = omega (arith, r)
      go false e false u r = rw (h.0 (omega (arith, ltb-false (key_number c) n e, ltb-false n (key_number c) u))) (omega (arith, r))

  -- cells with the number of a key within the limits have that key
  none_of : (l : Key) → key_allowed l ≡ true → p l ≡ false → (cs : List Cell) → cells_allowed cs ≡ true → Each (λ c. key_number c ≡ key_as_number l → p c.key ≡ false) cs
  unfolding cells_allowed
  none_of l a n [] h = tt
  none_of l a n (c ∷ cs) h =
      let t = and_true (cell_allowed c) (cells_allowed cs) h in
      (λ e. ap p (same_key c.key l (cell-key-allowed c t.0) a e) ∙ n, none_of l a n cs t.1)

  top_with : (c : Cell) → key_allowed c.key ≡ true → p c.key ≡ false → (cs : List Cell) → cells_allowed cs ≡ true → top (with c cs) ≡ top cs
  unfolding with highest_of
  top_with c a n cs h =
      let e : top (c ∷ higher (key_number c) cs) ≡ top (higher (key_number c) cs) = rw n (omega arith) in
      omega (arith, top_append (lower (key_number c) cs) (c ∷ higher (key_number c) cs), e, top_around (key_number c) cs (none_of c.key a n cs h))

  top_without : (l : Key) → key_allowed l ≡ true → p l ≡ false → (cs : List Cell) → cells_allowed cs ≡ true → top (without (key_as_number l) cs) ≡ top cs
  unfolding without
  top_without l a n cs h =
      omega (arith, top_append (lower (key_as_number l) cs) (higher (key_as_number l) cs), top_around (key_as_number l) cs (none_of l a n cs h))

  -- an edit of a key that doesn't pass
  top_edited : (size : ℕ) (e : Change) → ((l : Key) → key_named e ≡ Some l → p l ≡ false) → (cs : List Cell) → cells_allowed cs ≡ true → top (edited size e cs).left ≡ top cs
  unfolding key_named key_of_cell edited put_on remove_on taken_out
  top_edited size (put s) n cs h = go (whole_cell s) refl n
    where
      by : (c : Cell) (t : Bool) → whole_cell s ≡ Some c → p c.key ≡ false → top (cond t (done_on (with c cs)) (refused_on StoreFull cs)).left ≡ top cs
      by c true e n = top_with c (cell-key-allowed c (cell_allowed_law s c e)) n cs h
      by c false e n = refl

      go : (o : Option Cell) → whole_cell s ≡ o → ((l : Key) → key_of_cell o ≡ Some l → p l ≡ false) → top (put_on size o cs).left ≡ top cs
      go None e n = refl
      go (Some c) e n = by c (fits size (with c cs)) e (n c.key refl)
  top_edited size (remove s) n cs h = go (whole_key s) refl n
    where
      by : (k : Key) (o : Option Cell) → whole_key s ≡ Some k → p k ≡ false → top (taken_out (key_as_number k) cs o).left ≡ top cs
      by k None e n = refl
      by k (Some c) e n = top_without k (key_allowed_law s k e) n cs h

      go : (o : Option Key) → whole_key s ≡ o → ((l : Key) → o ≡ Some l → p l ≡ false) → top (remove_on o cs).left ≡ top cs
      go None e n = refl
      go (Some k) e n = by k (lookup (key_as_number k) cs) e (n k refl)

-- ---- one edit

named_allowed : (e : Change) (l : Key) → key_named e ≡ Some l → key_allowed l ≡ true
unfolding key_named key_of_cell
named_allowed (put s) l h = go (whole_cell s) refl h
  where
    go : (o : Option Cell) → whole_cell s ≡ o → key_of_cell o ≡ Some l → key_allowed l ≡ true
    go None e h = let z : ◌≡◌ {A = ℕ} 0 1 = cc in absurd (omega arith)
    go (Some c) e h = let q : c.key ≡ l = cc in rw (← q) (cell-key-allowed c (cell_allowed_law s c e))
named_allowed (remove s) l h = key_allowed_law s l h

module _ (q : Question) (e : Change) (n : of_its_parameter (key_asked q) (key_named e) ≡ false) where
  -- a key that the edit names is not of the parameter
  other : (l : Key) → key_named e ≡ Some l → eqb l.datasource q.datasource && eqb l.parameter q.parameter ≡ false
  unfolding of_its_parameter
  other l h = sym (ap (of_its_parameter (key_asked q)) h) ∙ n

  -- so it is not the key asked for
  not_asked : key_allowed (key_asked q) ≡ true → is_key (key_asked q) (key_named e) ≡ false
  unfolding is_key
  not_asked a = go (key_named e) refl
    where
      go : (o : Option Key) → key_named e ≡ o → is_key (key_asked q) o ≡ false
      go None h = refl
      go (Some l) h = by (eqb (key_as_number l) (key_as_number (key_asked q))) refl
        where
          by : (t : Bool) → eqb (key_as_number l) (key_as_number (key_asked q)) ≡ t → t ≡ false
          by true u =
              let k : l ≡ key_asked q = same_key l (key_asked q) (named_allowed e l h) a (eqb-true _ _ u) in
              absurd (true≢false (sym (rw (eq-eqb q.datasource q.datasource refl, eq-eqb q.parameter q.parameter refl)) ∙ sym (ap (λ (x : Key). eqb x.datasource q.datasource && eqb x.parameter q.parameter) k) ∙ other l h))
          by false u = refl

  same_reply : (size : ℕ) (cs : List Cell) → cells_allowed cs ≡ true → replied q (Some (edited size e cs).left) ≡ replied q (Some cs)
  unfolding replied query_allowed question_allowed query_answer answer of_parameter of_record
  same_reply size cs h = by_query q (λ o. reply o (edited size e cs).left ≡ reply o cs) refl (go (key_allowed (key_asked q)) refl) (rw in_parameter) (rw in_record)
    where
      reply : Option Query → List Cell → Reply
      reply o ds = cond (query_allowed o) (answered_ask (query_answer o ds)) (refused_ask BadRequest)

      in_parameter : highest_of (of_parameter q.datasource q.parameter) (λ c. c.key.record_number) (edited size e cs).left ≡ highest_of (of_parameter q.datasource q.parameter) (λ c. c.key.record_number) cs
      in_parameter = top_edited (λ l. eqb l.datasource q.datasource && eqb l.parameter q.parameter) (λ c. c.key.record_number) size e other cs h

      in_record : highest_of (of_record q.datasource q.parameter q.«record») (λ c. c.key.entry_number) (edited size e cs).left ≡ highest_of (of_record q.datasource q.parameter q.«record») (λ c. c.key.entry_number) cs
      in_record =
          top_edited (λ l. (eqb l.datasource q.datasource && eqb l.parameter q.parameter) && eqb l.record_number q.«record») (λ c. c.key.entry_number) size e
          (λ l k. ap (λ (t : Bool). t && eqb l.record_number q.«record») (other l k)) cs h

      go : (t : Bool) → key_allowed (key_asked q) ≡ t → reply (Some (the_cell (key_asked q))) (edited size e cs).left ≡ reply (Some (the_cell (key_asked q))) cs
      go true a = rw (edited_other size (key_asked q) e cs (not_asked a))
      go false a = rw a

other_once : (q : Question) (e : Change) (m : LentStore) → touches_parameter (key_asked q) e m ≡ false → ask_in (after_change e m) q ≡ ask_in m q
unfolding touches_parameter ask_of succeeded
other_once q e m n = by (edit_end e m) refl
  where
    by : (x : Ended) → edit_end e m ≡ x → ask_in (after_change e m) q ≡ ask_in m q
    by (Halted h l) u = ap (λ (s : LentStore). ask_in s q) (refused_keeps e m (ap succeeded u))
    by Finished u = go (cells_held_by m) refl
      where
        go : (o : Option (List Cell)) → cells_held_by m ≡ o → ask_in (after_change e m) q ≡ ask_in m q
        go None h = absurd (true≢false (sym (ap succeeded u) ∙ ap (λ r. succeeded r.end) (out_of_form_once e m h)))
        go (Some cs) h =
            ap (replied q) (form_kept e m cs h).held
            ∙ same_reply q e (rw (ap succeeded u) at n) (length m.buffer) cs (held_some m.buffer m.length cs h).holds.valid.allowed
            ∙ ap (replied q) (sym h)

-- Edits outside a parameter change no answer about it, of any kind: for any list of edits, from any bytes, none of them an
-- accepted put or remove of a cell of that parameter in that datasource.
pub other_parameter : (q : Question) (es : List Change) (m : LentStore) → outside (key_asked q) es m ≡ true → ask_in (after_changes es m) q ≡ ask_in m q
unfolding after_changes outside
other_parameter q [] m u = refl
other_parameter q (e ∷ es) m u =
    let t = and_true _ _ u in
    other_parameter q es (after_change e m) t.1 ∙ other_once q e m (not-true _ t.0)
