-- What put and remove hand back, from the index, the request and the slot.
use Rattle.std.specs.Prelude.{Some, None, Option}
use Rattle.std.specs.Option.{unwrap_or}
use mathlib.Core.Path.{◌≡◌, refl, sym, ap, ap₂, ◌∙◌, subst}
use mathlib.Core.Bool.{Bool, true, false, cond, ◌&&◌}
use mathlib.Core.List.{List, [], ◌∷◌, ◌++◌, append_assoc}
use Prim.Native.Nat.{ℕ, ◌+◌, ◌-◌, ◌≤◌, ◌<◌, min}
use native.Mathlib.Omega.{arith}
use borrow.Author.Tests.{le-leb, lt-leb, ltb-true, ltb-false}
use lib.Dec.{leb, ltb}
use lib.ListN.{length, take, drop, replicate, length-append, length-drop}
use lib.Seq.{sets, length-take-le}
use Rattle.meaning.specs.declared.refusal.Refusal.TheVariants as F
use Rattle.meaning.specs.declared.end.Ended.TheVariants.{Finished}
use Rattle.cells.specs.Cell.{Key, Cell, key_as_number, key_number, cell_bytes, whole_cell, whole_key}
use Rattle.cells.specs.Store.{encode, cells_held}
use Rattle.cells.specs.Asking.{lookup}
use Rattle.cells.specs.Inner.Index.{Indexes, Ready}
use Rattle.cells.specs.Inner.Request.{requested, requested_key, CellAsked, KeyAsked}
use Rattle.cells.proofs.Walking.{encode_append}
use Rattle.cells.proofs.Locating.{HeldAs, held_some}
use Rattle.cells.proofs.Requests.{whole_some}
use Rattle.cells.proofs.Replies.{not_held, index_ready, built}
use Rattle.store.specs.declared.Slot.{Slot}
use Rattle.store.specs.Edit.{lower, higher, with, without, refused_edit, refused_on, done_on, written, written_by, written_out, fits, put_on, taken_out, remove_on, checked_edit, put_of, remove_of}
use Rattle.store.specs.Inner.Slot.{replaced, Stretch, SlotOf}

-- ---- what the request tells

apart : {k : ℕ} → None ≡ Some k → ⊥
apart e = let z : ◌≡◌ {A = ℕ} 0 1 = cc in omega arith

bad_cell : (o : Option Cell) → None ≡ requested o → o ≡ None
unfolding requested
bad_cell None e = refl
bad_cell (Some c) e = absurd (apart e)

good_cell : (k : ℕ) (o : Option Cell) → Some k ≡ requested o → (c : Cell) × (o ≡ Some c) × (k ≡ key_number c)
unfolding requested
good_cell k None e = absurd (apart (sym e))
good_cell k (Some c) e = (c, refl, cc)

bad_key : (o : Option Key) → None ≡ requested_key o → o ≡ None
unfolding requested_key
bad_key None e = refl
bad_key (Some k) e = absurd (apart e)

good_key : (n : ℕ) (o : Option Key) → Some n ≡ requested_key o → (k : Key) × (o ≡ Some k) × (n ≡ key_as_number k)
unfolding requested_key
good_key n None e = absurd (apart (sym e))
good_key n (Some k) e = (k, refl, cc)

-- ---- the bytes of the new store

-- left and right of a stretch, with s between
module _ (b : List ℕ) (n : ℕ) (cs : List Cell) (k at size : ℕ) (t : Stretch b n cs k at size) (h : HeldAs b n cs) where
  abbrev right : List ℕ
  right = take (n - (at + size)) (drop (at + size) b)

  left_length : length (encode (lower k cs)) ≡ at
  left_length = ap length (sym t.left) ∙ length-take-le at b (omega (arith, t.inside, h.inside))

  right_length : length (encode (higher k cs)) ≡ n - (at + size)
  right_length = ap length (sym t.right) ∙ length-take-le (n - (at + size)) (drop (at + size) b) (omega (arith, length-drop (at + size) b, h.inside))

  between : (s : List ℕ) (ds : List Cell) → encode ds ≡ encode (lower k cs) ++ (s ++ encode (higher k cs)) → (length (encode ds) ≡ n - size + length s) × (replaced b n at size s ≡ sets b 0 (encode ds ++ replicate (n - length (encode ds)) 0))
  unfolding replaced
  between s ds e =
      let l : length (encode ds) ≡ at + length s + (n - (at + size)) =
      ap length e ∙ length-append (encode (lower k cs)) (s ++ encode (higher k cs)) ∙ omega (arith, length-append s (encode (higher k cs)), left_length, right_length) in
      let z : List ℕ = replicate (n - (at + length s + (n - (at + size)))) 0 in
      let w : take at b ++ (s ++ (right ++ z)) ≡ encode ds ++ z =
      ap₂ (λ (x y : List ℕ). x ++ (s ++ (y ++ z))) t.left t.right
      ∙ ap (λ (x : List ℕ). encode (lower k cs) ++ x) (sym (append_assoc s (encode (higher k cs)) z))
      ∙ sym (append_assoc (encode (lower k cs)) (s ++ encode (higher k cs)) z)
      ∙ ap (λ (x : List ℕ). x ++ z) (sym e) in
      (l ∙ omega (arith, t.inside), ap (sets b 0) w ∙ ap (λ (m : ℕ). sets b 0 (encode ds ++ replicate (n - m) 0)) (sym l))

encode_with : (c : Cell) (cs : List Cell) → encode (with c cs) ≡ encode (lower (key_number c) cs) ++ (cell_bytes c ++ encode (higher (key_number c) cs))
unfolding with encode
encode_with c cs = encode_append (lower (key_number c) cs) (c ∷ higher (key_number c) cs)

encode_without : (k : ℕ) (cs : List Cell) → encode (without k cs) ≡ encode (lower k cs) ++ ([] ++ encode (higher k cs))
unfolding without
encode_without k cs = encode_append (lower k cs) (higher k cs)

-- ---- put

pub record Putting (b : List ℕ) (n : ℕ) (s : List ℕ) (at size : ℕ) : Type 0 where
  pub cells : List Cell
  pub cell : Cell
  pub holds : cells_held b n ≡ Some cells
  pub whole : whole_cell s ≡ Some cell
  pub inside : at + size ≤ n
  pub short : length s ≤ 25
  pub most : n ≤ 65536
  pub room : n ≤ length b
  pub size_is : length (encode (with cell cells)) ≡ n - size + length s
  pub bytes : replaced b n at size s ≡ sets b 0 (encode (with cell cells) ++ replicate (n - length (encode (with cell cells))) 0)

module _ (b : List ℕ) (n : ℕ) (p p' : List ℕ) (r : Option ℕ) (i : Indexes p (cells_held b n) p' r) (s : List ℕ) where
  pub put_bad_store : r ≡ None → refused_edit b n F.BadStore ≡ put_of b n s
  unfolding put_of checked_edit
  put_bad_store e = rw (not_held b n p p' r i e)

  pub remove_bad_store : r ≡ None → refused_edit b n F.BadStore ≡ remove_of b n s
  unfolding remove_of checked_edit
  remove_bad_store e = rw (not_held b n p p' r i e)

  module _ (count : ℕ) (e : r ≡ Some count) (q : Option ℕ) where
    pub put_bad_request : CellAsked s (whole_cell s) q → q ≡ None → refused_edit b n F.BadRequest ≡ put_of b n s
    unfolding put_of checked_edit put_on written_by
    put_bad_request a u = rw ((built b n p p' r i count e).held, bad_cell (whole_cell s) (sym u ∙ a.told))

    pub remove_bad_request : KeyAsked (whole_key s) q → q ≡ None → refused_edit b n F.BadRequest ≡ remove_of b n s
    unfolding remove_of checked_edit remove_on written_by
    remove_bad_request a u = rw ((built b n p p' r i count e).held, bad_key (whole_key s) (sym u ∙ a.told))

    module _ (l : 5461 ≤ length p) (k : ℕ) (u : q ≡ Some k) (t : Slot) (o : SlotOf b n p' count k t) where
      pub putting : CellAsked s (whole_cell s) q → Putting b n s t.at (unwrap_or t.size 0)
      putting a =
          let g = index_ready b n p p' r i count e l in
          let c = good_cell k (whole_cell s) (sym u ∙ a.told) in
          let h = held_some b n g.0 g.1.holds in
          let w = whole_some s c.0 c.1 in
          let f : Stretch b n g.0 (key_number c.0) t.at (unwrap_or t.size 0) = subst (λ (x : ℕ). Stretch b n g.0 x t.at (unwrap_or t.size 0)) c.2 (o.stretch g.0 g.1) in
          let m = between b n g.0 (key_number c.0) t.at (unwrap_or t.size 0) f h s (with c.0 g.0) (encode_with c.0 g.0 ∙ ap (λ (x : List ℕ). encode (lower (key_number c.0) g.0) ++ (x ++ encode (higher (key_number c.0) g.0))) (sym w.bytes)) in
          record {
            cells = g.0;
            cell = c.0;
            holds = g.1.holds;
            whole = c.1;
            inside = f.inside;
            short = a.short c.0 c.1;
            most = h.most;
            room = h.inside;
            size_is = m.0;
            bytes = m.1;
          }

      pub remove_none : KeyAsked (whole_key s) q → t.size ≡ None → refused_edit b n F.NoCell ≡ remove_of b n s
      unfolding remove_of checked_edit remove_on taken_out written_by
      remove_none a z =
          let g = index_ready b n p p' r i count e l in
          let c = good_key k (whole_key s) (sym u ∙ a.told) in
          let f = o.stretch g.0 g.1 in
          let y : lookup (key_as_number c.0) g.0 ≡ None = ap (λ (x : ℕ). lookup x g.0) (sym c.2) ∙ f.missing (ap (λ (x : Option ℕ). unwrap_or x 0) z) in
          rw (g.1.holds, c.1, y)

      module _ (size : ℕ) (z : t.size ≡ Some size) where
        stretch : (cs : List Cell) → Ready b n p' count cs → Stretch b n cs k t.at size
        stretch cs d = subst (λ (x : ℕ). Stretch b n cs k t.at x) (ap (λ (x : Option ℕ). unwrap_or x 0) z) (o.stretch cs d)

        pub slot_inside : (t.at + size ≤ n) × (n ≤ length b)
        slot_inside =
            let g = index_ready b n p p' r i count e l in
            ((stretch g.0 g.1).inside, (held_some b n g.0 g.1.holds).inside)

        pub remove_done : KeyAsked (whole_key s) q → (b' : List ℕ) → b' ≡ replaced b n t.at size [] → record { end = Finished; length = n - size; buffer = b' } ≡ remove_of b n s
        unfolding remove_of checked_edit remove_on taken_out written_by written
        remove_done a b' y =
            let g = index_ready b n p p' r i count e l in
            let c = good_key k (whole_key s) (sym u ∙ a.told) in
            let f : Stretch b n g.0 (key_as_number c.0) t.at size = subst (λ (x : ℕ). Stretch b n g.0 x t.at size) c.2 (stretch g.0 g.1) in
            let v = f.found (o.sized g.0 g.1 size z) in
            let m = between b n g.0 (key_as_number c.0) t.at size f (held_some b n g.0 g.1.holds) [] (without (key_as_number c.0) g.0) (encode_without (key_as_number c.0) g.0) in
            let x : n - size ≡ length (encode (without (key_as_number c.0) g.0)) = omega (arith, m.0) in
            rw (g.1.holds, c.1, v.1) (λ j. record { end = Finished; length = x j; buffer = (y ∙ m.1) j })

module _ (b : List ℕ) (n : ℕ) (s : List ℕ) (at size : ℕ) (w : Putting b n s at size) where
  put_past : length b < n - size + length s → refused_edit b n F.StoreFull ≡ put_of b n s
  unfolding put_of checked_edit put_on fits written_by
  put_past h = rw (w.holds, w.whole, w.size_is, lt-leb (n - size + length s) (length b) h)

  put_over : 65536 < n - size + length s → refused_edit b n F.StoreFull ≡ put_of b n s
  unfolding put_of checked_edit put_on fits written_by
  put_over h = rw (w.holds, w.whole, w.size_is, lt-leb (n - size + length s) 65536 h) (go (leb (n - size + length s) (length b)))
    where
      go : (t : Bool) → refused_edit b n F.StoreFull ≡ written_out b n (cond (t && false) (done_on (with w.cell w.cells)) (refused_on F.StoreFull w.cells))
      go true = refl
      go false = refl

  pub put_full : (room : ℕ) → room ≡ min (length b) 65536 → room < n - size + length s → refused_edit b n F.StoreFull ≡ put_of b n s
  put_full room e h = go (ltb (length b) (n - size + length s)) refl
    where
      go : (t : Bool) → ltb (length b) (n - size + length s) ≡ t → refused_edit b n F.StoreFull ≡ put_of b n s
      go true k = put_past (ltb-true _ _ k)
      go false k = put_over (omega (arith, ltb-false _ _ k))

  pub put_done : n - size + length s ≤ length b → n - size + length s ≤ 65536 → (b' : List ℕ) → b' ≡ replaced b n at size s → record { end = Finished; length = n - size + length s; buffer = b' } ≡ put_of b n s
  unfolding put_of checked_edit put_on fits written_by written
  put_done h k b' e =
      rw (w.holds, w.whole, le-leb (length (encode (with w.cell w.cells))) (length b) (omega (arith, w.size_is)), le-leb (length (encode (with w.cell w.cells))) 65536 (omega (arith, w.size_is)))
      (λ j. record { end = Finished; length = sym w.size_is j; buffer = (e ∙ w.bytes) j })
