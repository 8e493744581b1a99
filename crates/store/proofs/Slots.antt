-- The cells with lower and with higher keys, by the position that halving finds.
use Rattle.std.specs.Prelude.{Some, None}
use mathlib.Core.Path.{◌≡◌, refl, sym, ap, ap₂, ◌∙◌}
use mathlib.Core.Bool.{Bool, true, false, cond, false≢true}
use mathlib.Core.List.{List, [], ◌∷◌, ◌++◌, append-nil, append_assoc}
use Prim.Native.Nat.{ℕ, zero, suc, ◌+◌, ◌-◌, ◌≤◌, ◌<◌}
use native.Mathlib.Numerals.{lt_of_le_of_ne}
use native.Mathlib.Omega.{arith}
use borrow.Author.Tests.{lt-ltb, le-ltb, eqb-true, eq-eqb}
use lib.Dec.{ltb, eqb}
use lib.ListN.{length, get_or, take, drop, length-append, take-append-drop, get_or-append}
use lib.Seq.{take-append_seam, drop-append_seam, get_or-append-add, length-take-le, take_at}
use Rattle.cells.specs.Cell.{Cell, key_as_number, key_number, key_at, cell_bytes}
use Rattle.cells.specs.Store.{encode, rising}
use Rattle.cells.specs.Inner.Index.{Ready, Position, SizeAt}
use Rattle.cells.proofs.Walking.{encode_append}
use Rattle.cells.proofs.Locating.{keys, length_keys, keys_append, keys_rise, key_here, HeldAs, held_some, Located, locate, sorted, lower_keys, higher_keys}
use Rattle.cells.proofs.Answering.{lookup_none, lookup_here, split_at}
use Rattle.cells.proofs.Runs.{cell_some}
use Rattle.store.specs.Inner.Slot.{Stretch, SlotOf}
use Rattle.store.specs.Edit.{lower, higher}

module _ (k : ℕ) where
  pub lower_append : (xs ys : List Cell) → lower k (xs ++ ys) ≡ lower k xs ++ lower k ys
  unfolding lower
  lower_append [] ys = refl
  lower_append (x ∷ xs) ys = go (ltb (key_number x) k) (lower_append xs ys)
    where
      go : (t : Bool) → lower k (xs ++ ys) ≡ lower k xs ++ lower k ys → cond t (x ∷ lower k (xs ++ ys)) (lower k (xs ++ ys)) ≡ cond t (x ∷ lower k xs) (lower k xs) ++ lower k ys
      go true e = ap (λ (l : List Cell). x ∷ l) e
      go false e = e

  pub higher_append : (xs ys : List Cell) → higher k (xs ++ ys) ≡ higher k xs ++ higher k ys
  unfolding higher
  higher_append [] ys = refl
  higher_append (x ∷ xs) ys = go (ltb k (key_number x)) (higher_append xs ys)
    where
      go : (t : Bool) → higher k (xs ++ ys) ≡ higher k xs ++ higher k ys → cond t (x ∷ higher k (xs ++ ys)) (higher k (xs ++ ys)) ≡ cond t (x ∷ higher k xs) (higher k xs) ++ higher k ys
      go true e = ap (λ (l : List Cell). x ∷ l) e
      go false e = e

  pub all_lower : (xs : List Cell) → ((i : ℕ) → i < length xs → get_or (keys xs) i 0 < k) → (lower k xs ≡ xs) × (higher k xs ≡ [])
  unfolding lower higher
  all_lower [] h = (refl, refl)
  all_lower (x ∷ xs) h =
      let u : key_number x < k = h 0 (omega arith) in
      let r = all_lower xs (λ i l. h (suc i) (omega arith)) in
      (rw (lt-ltb (key_number x) k u) (ap (λ (l : List Cell). x ∷ l) r.0), rw (le-ltb k (key_number x) (omega arith)) r.1)

  pub all_higher : (xs : List Cell) → ((i : ℕ) → i < length xs → k < get_or (keys xs) i 0) → (lower k xs ≡ []) × (higher k xs ≡ xs)
  unfolding lower higher
  all_higher [] h = (refl, refl)
  all_higher (x ∷ xs) h =
      let u : k < key_number x = h 0 (omega arith) in
      let r = all_higher xs (λ i l. h (suc i) (omega arith)) in
      (rw (le-ltb (key_number x) k (omega arith)) r.0, rw (lt-ltb k (key_number x) u) (ap (λ (l : List Cell). x ∷ l) r.1))

  pub none_here : (c : Cell) (xs : List Cell) → key_number c ≡ k → (lower k (c ∷ xs) ≡ lower k xs) × (higher k (c ∷ xs) ≡ higher k xs)
  unfolding lower higher
  none_here c xs e = (rw (le-ltb (key_number c) k (omega arith)), rw (le-ltb k (key_number c) (omega arith)))

above_all : (k : ℕ) (c : Cell) (ys : List Cell) → k < key_number c → ((i : ℕ) → i < length ys → key_number c < get_or (keys ys) i 0) → (i : ℕ) → i < length (c ∷ ys) → k < get_or (keys (c ∷ ys)) i 0
above_all k c ys g h zero u = g
above_all k c ys g h (suc i) u = omega (arith, h i (omega arith))

-- ---- keys on either side of a cell

module _ (cs xs : List Cell) (c : Cell) (ys : List Cell) (s : cs ≡ xs ++ (c ∷ ys)) where
  keys_split : keys cs ≡ keys xs ++ (key_number c ∷ keys ys)
  keys_split = ap keys s ∙ keys_append xs (c ∷ ys)

  key_left : (i : ℕ) → i < length xs → get_or (keys xs) i 0 ≡ get_or (keys cs) i 0
  key_left i h =
      sym (get_or-append (keys xs) (key_number c ∷ keys ys) 0 i (omega (arith, length_keys xs))) ∙ ap (λ (l : List ℕ). get_or l i 0) (sym keys_split)

  key_right : (i : ℕ) → get_or (keys ys) i 0 ≡ get_or (keys cs) (length xs + suc i) 0
  key_right i =
      sym (get_or-append-add (keys xs) (key_number c ∷ keys ys) (suc i) 0)
      ∙ ap₂ (λ (l : List ℕ) (n : ℕ). get_or l (n + suc i) 0) (sym keys_split) (length_keys xs)

  above_right : rising cs ≡ true → (i : ℕ) → i < length ys → key_number c < get_or (keys ys) i 0
  above_right r i h =
      omega (arith, key_right i, key_here cs xs c ys s, keys_rise cs (length xs) (length xs + suc i) r (omega arith) (omega (arith, ap length s, length-append xs (c ∷ ys))))

  -- the bytes on either side
  module _ (b : List ℕ) (n : ℕ) (h : HeldAs b n cs) where
    around : b ≡ encode xs ++ (cell_bytes c ++ (encode ys ++ drop n b))
    unfolding encode
    around =
        sym (take-append-drop n b)
        ∙ ap (λ (l : List ℕ). l ++ drop n b) (sym h.holds.bytes ∙ ap encode s ∙ encode_append xs (c ∷ ys))
        ∙ append_assoc (encode xs) (cell_bytes c ++ encode ys) (drop n b)
        ∙ ap (λ (l : List ℕ). encode xs ++ l) (append_assoc (cell_bytes c) (encode ys) (drop n b))

    whole_length : n ≡ length (encode xs) + (length (cell_bytes c) + length (encode ys))
    unfolding encode
    whole_length =
        sym (length-take-le n b h.inside)
        ∙ ap length (sym h.holds.bytes ∙ ap encode s ∙ encode_append xs (c ∷ ys))
        ∙ length-append (encode xs) (cell_bytes c ++ encode ys)
        ∙ ap (λ (m : ℕ). length (encode xs) + m) (length-append (cell_bytes c) (encode ys))

    left_bytes : take (length (encode xs)) b ≡ encode xs
    left_bytes = ap (take (length (encode xs))) around ∙ take-append_seam (encode xs) (cell_bytes c ++ (encode ys ++ drop n b))

    -- the cells from this one on, and those behind it
    from_bytes : take (n - (length (encode xs) + 0)) (drop (length (encode xs) + 0) b) ≡ encode (c ∷ ys)
    unfolding encode
    from_bytes =
        let z : length (encode xs) + 0 ≡ length (encode xs) = omega arith in
        let m : length (cell_bytes c ++ encode ys) ≡ n - length (encode xs) = length-append (cell_bytes c) (encode ys) ∙ omega (arith, whole_length) in
        rw z
        (ap (take (n - length (encode xs))) (ap (drop (length (encode xs))) around ∙ drop-append_seam (encode xs) (cell_bytes c ++ (encode ys ++ drop n b)) ∙ sym (append_assoc (cell_bytes c) (encode ys) (drop n b)))
        ∙ take_at (cell_bytes c ++ encode ys) (drop n b) (n - length (encode xs)) m)

    behind_bytes : take (n - (length (encode xs) + length (cell_bytes c))) (drop (length (encode xs) + length (cell_bytes c)) b) ≡ encode ys
    behind_bytes =
        let a : b ≡ (encode xs ++ cell_bytes c) ++ (encode ys ++ drop n b) = around ∙ sym (append_assoc (encode xs) (cell_bytes c) (encode ys ++ drop n b)) in
        let l : length (encode xs ++ cell_bytes c) ≡ length (encode xs) + length (cell_bytes c) = length-append (encode xs) (cell_bytes c) in
        let m : length (encode ys) ≡ n - (length (encode xs) + length (cell_bytes c)) = omega (arith, whole_length) in
        ap (take (n - (length (encode xs) + length (cell_bytes c)))) (ap₂ (λ (k : ℕ) (x : List ℕ). drop k x) (sym l) a ∙ drop-append_seam (encode xs ++ cell_bytes c) (encode ys ++ drop n b))
        ∙ take_at (encode ys) (drop n b) (n - (length (encode xs) + length (cell_bytes c))) m

-- ---- the answers of `locate`

module _ (b : List ℕ) (n : ℕ) (index : List ℕ) (count k p : ℕ) (q : Position b index count k p) where
  pub slot_past : count ≤ p → SlotOf b n index count k (record { at = n; size = None })
  unfolding encode
  slot_past h = record { stretch = go; sized = λ cs r size e. absurd (let z : ◌≡◌ {A = ℕ} 0 1 = cc in omega arith) }
    where
      go : (cs : List Cell) → Ready b n index count cs → Stretch b n cs k n 0
      go cs r =
          let f = q.first (sorted b n index count cs r) in
          let u : (i : ℕ) → i < length cs → get_or (keys cs) i 0 < k = λ i l. lower_keys b n index count cs r k p f i (omega (arith, r.tally)) in
          let a = all_lower k cs u in
          let z : n - (n + 0) ≡ 0 = omega arith in
          record {
            left = sym (held_some b n cs r.holds).holds.bytes ∙ ap encode (sym a.0);
            right = rw (z, a.1);
            inside = omega arith;
            missing = λ e. lookup_none k cs (λ i l e. omega (arith, u i l));
            found = λ e. absurd (omega arith);
          }

  -- t says whether the cell there has the key
  module _ (h : p < count) (at : ℕ) (t : Bool) (pl : at ≡ get_or index p 0) (ke : at + 9 ≤ length b → t ≡ eqb (key_as_number (key_at b (at + 1))) k) where
    module _ (cs : List Cell) (r : Ready b n index count cs) where
      here : Located b index cs p
      here = locate b n index count cs r p h

      key_is : t ≡ eqb (key_number here.picked.cell) k
      key_is = ke (omega (arith, here.room)) ∙ ap (λ (x : ℕ). eqb (key_as_number (key_at b (x + 1))) k) pl ∙ ap (λ (x : ℕ). eqb x k) (here.key ∙ here.number)

      rise : rising cs ≡ true
      rise = (held_some b n cs r.holds).holds.valid.rising

      lefts : (lower k here.picked.left ≡ here.picked.left) × (higher k here.picked.left ≡ [])
      lefts =
          all_lower k here.picked.left
          (λ i l. omega (arith, key_left cs here.picked.left here.picked.cell here.picked.right here.picked.split i l, lower_keys b n index count cs r k p (q.first (sorted b n index count cs r)) i (omega (arith, here.picked.place))))

    pub slot_found : t ≡ true → (size : ℕ) → SizeAt b at size → SlotOf b n index count k (record { at = at; size = Some size })
    slot_found e size z = record { stretch = go; sized = λ cs r m q. let w : size ≡ m = cc in omega (arith, some cs r) }
      where
        some : (cs : List Cell) → Ready b n index count cs → 1 ≤ size
        some cs r =
            let l = here cs r in
            omega (arith, z.size l.picked.cell l.rest l.allowed (ap (λ (i : ℕ). drop i b) pl ∙ l.bytes), cell_some l.picked.cell)

        go : (cs : List Cell) → Ready b n index count cs → Stretch b n cs k at size
        go cs r =
            let l = here cs r in
            let x = l.picked.left in
            let c = l.picked.cell in
            let y = l.picked.right in
            let s = l.picked.split in
            let hb = held_some b n cs r.holds in
            let m : key_number c ≡ k = eqb-true _ _ (sym (key_is cs r) ∙ e) in
            let a : at ≡ length (encode x) = pl ∙ l.place in
            let w : size ≡ length (cell_bytes c) = z.size c l.rest l.allowed (ap (λ (i : ℕ). drop i b) pl ∙ l.bytes) in
            let o = none_here k c y m in
            let t = all_higher k y (λ i u. omega (arith, above_right cs x c y s (rise cs r) i u)) in
            let lo : lower k cs ≡ x = ap (lower k) s ∙ lower_append k x (c ∷ y) ∙ ap₂ (λ (u v : List Cell). u ++ v) (lefts cs r).0 (o.0 ∙ t.0) ∙ append-nil x in
            let hi : higher k cs ≡ y = ap (higher k) s ∙ higher_append k x (c ∷ y) ∙ ap₂ (λ (u v : List Cell). u ++ v) (lefts cs r).1 (o.1 ∙ t.1) in
            record {
              left = ap (λ (i : ℕ). take i b) a ∙ left_bytes cs x c y s b n hb ∙ ap encode (sym lo);
              right = ap₂ (λ (i j : ℕ). take (n - (i + j)) (drop (i + j) b)) a w ∙ behind_bytes cs x c y s b n hb ∙ ap encode (sym hi);
              inside = omega (arith, whole_length cs x c y s b n hb);
              missing = λ v. absurd (omega (arith, cell_some c));
              found = λ v. (c, lookup_here k cs x c y s (λ i u g. omega (arith, lower_keys b n index count cs r k p (q.first (sorted b n index count cs r)) i (omega (arith, l.picked.place)))) m);
            }

    pub slot_free : t ≡ false → SlotOf b n index count k (record { at = at; size = None })
    slot_free e = record { stretch = go; sized = λ cs r size e. absurd (let z : ◌≡◌ {A = ℕ} 0 1 = cc in omega arith) }
      where
        go : (cs : List Cell) → Ready b n index count cs → Stretch b n cs k at 0
        go cs r =
            let l = here cs r in
            let x = l.picked.left in
            let c = l.picked.cell in
            let y = l.picked.right in
            let s = l.picked.split in
            let hb = held_some b n cs r.holds in
            let f = q.first (sorted b n index count cs r) in
            let ne : key_number c ≡ k → ⊥ = no_cell cs r in
            let ge : k ≤ key_number c = omega (arith, higher_keys b n index count cs r k p f p (omega arith) (omega (arith, r.tally)), l.number) in
            let gt : k < key_number c = lt_of_le_of_ne ge (λ m. ne (sym m)) in
            let a : at ≡ length (encode x) = pl ∙ l.place in
            let t = all_higher k (c ∷ y) (above_all k c y gt (above_right cs x c y s (rise cs r))) in
            let lo : lower k cs ≡ x = ap (lower k) s ∙ lower_append k x (c ∷ y) ∙ ap₂ (λ (u v : List Cell). u ++ v) (lefts cs r).0 t.0 ∙ append-nil x in
            let hi : higher k cs ≡ c ∷ y = ap (higher k) s ∙ higher_append k x (c ∷ y) ∙ ap₂ (λ (u v : List Cell). u ++ v) (lefts cs r).1 t.1 in
            record {
              left = ap (λ (i : ℕ). take i b) a ∙ left_bytes cs x c y s b n hb ∙ ap encode (sym lo);
              right = ap (λ (i : ℕ). take (n - (i + 0)) (drop (i + 0) b)) a ∙ from_bytes cs x c y s b n hb ∙ ap encode (sym hi);
              inside = omega (arith, whole_length cs x c y s b n hb);
              missing = λ v. lookup_none k cs (no_key cs r);
              found = λ v. absurd (omega arith);
            }
          where
            no_cell : (cs : List Cell) (r : Ready b n index count cs) → key_number (here cs r).picked.cell ≡ k → ⊥
            no_cell cs r m = false≢true (sym e ∙ key_is cs r ∙ eq-eqb _ _ m)

            no_key : (cs : List Cell) → Ready b n index count cs → (i : ℕ) → i < length cs → get_or (keys cs) i 0 ≡ k → ⊥
            no_key cs r i u g =
                let f = q.first (sorted b n index count cs r) in
                split_at i p
                (λ a. omega (arith, lower_keys b n index count cs r k p f i a))
                (λ a. no_cell cs r (sym (here cs r).number ∙ ap (λ (j : ℕ). get_or (keys cs) j 0) (sym a) ∙ g))
                (λ a. omega (arith, keys_rise cs p i (rise cs r) a u, higher_keys b n index count cs r k p f p (omega arith) (omega arith)))
