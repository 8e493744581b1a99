-- Answers over the list of cells, by the position that halving finds.
use Rattle.std.specs.Prelude.{Some, None}
use Rattle.std.proofs.Common.{◌≡◌, ℕ, suc, ◌+◌, ◌-◌, ◌<◌, ◌≤◌, Bool, true, false, cond, eqb, leb, List, [], ◌∷◌, ◌++◌, length, get_or, drop, sym, refl, ap, ◌∙◌, subst, ⊎_elim, le_trans, le_antisymm, eq-or-lt_of_le, arith, length-append, eq-eqb, ne_eqb, eqb-true, leb-false, leb-true}
use mathlib.Core.Bool.{false≢true}
use native.Mathlib.Nat.{le-max_left, le-max_right, max-le}
use lib.ListN.{get_or-append}
use Rattle.meaning.specs.Each.{Each}
use Rattle.meaning.specs.Answer.{missing}
use Rattle.cells.specs.declared.Answered.{Answered}
use Rattle.cells.specs.declared.Answered.TheVariants.{Missing, Integer, Decimal, StringAt, Highest}
use Rattle.cells.specs.Bytes.{pair, pair_at}
use Rattle.cells.specs.Cell.{Cell, key_bytes, key_as_number, key_number, key_at, cell_allowed, cell_bytes}
use Rattle.cells.specs.Store.{encode, cells_allowed}
use Rattle.cells.specs.Asking.{lookup, found, highest_of, cell_start, meant}
use Rattle.cells.specs.Inner.Index as I
use Rattle.cells.specs.Inner.Index.{Ready, InStore, Position, ValueAt, CellAnswer, LastOf, nothing, last}
use Rattle.cells.proofs.BigEndian.{pair_at_law}
use Rattle.cells.proofs.Locating.{held_some, keys, key_here, keys_rise, allowed_in, Located, locate, cell_inside, sorted, lower_keys, higher_keys}

head_length : (c : Cell) → 8 ≤ length (cell_bytes c)
unfolding cell_bytes key_bytes pair
head_length c = omega arith

pub split_at : {X : Type 0} (i p : ℕ) → (i < p → X) → (i ≡ p → X) → (p < i → X) → X
split_at {X} i p lt eq gt = go (leb i p) refl
  where
    go : (t : Bool) → leb i p ≡ t → X
    go true e = ⊎_elim eq lt (eq-or-lt_of_le (leb-true i p e))
    go false e = gt (leb-false i p e)

-- two bytes of a cell's head
front_pair : (c : Cell) (r : List ℕ) (i : ℕ) → i ≤ 6 → pair_at (cell_bytes c ++ r) i ≡ pair_at (cell_bytes c) i
unfolding pair_at
front_pair c r i h =
    let l : 8 ≤ length (cell_bytes c) = head_length c in
    rw (get_or-append (cell_bytes c) r 0 i (omega arith), get_or-append (cell_bytes c) r 0 (i + 1) (omega arith))

-- ---- the cell of a key

pub lookup_none : (k : ℕ) (cs : List Cell) → ((i : ℕ) → i < length cs → get_or (keys cs) i 0 ≡ k → ⊥) → lookup k cs ≡ None
unfolding lookup
lookup_none k [] h = refl
lookup_none k (c ∷ cs) h =
    rw (ne_eqb (key_number c) k (h 0 (omega arith))) (lookup_none k cs (λ i l. h (suc i) (omega arith)))

lookup_at : (k : ℕ) (xs : List Cell) (c : Cell) (ys : List Cell) → ((i : ℕ) → i < length xs → get_or (keys (xs ++ (c ∷ ys))) i 0 ≡ k → ⊥) → key_number c ≡ k → lookup k (xs ++ (c ∷ ys)) ≡ Some c
unfolding lookup
lookup_at k [] c ys h e = rw (eq-eqb _ _ e)
lookup_at k (x ∷ xs) c ys h e =
    rw (ne_eqb (key_number x) k (h 0 (omega arith))) (lookup_at k xs c ys (λ i l. h (suc i) (omega arith)) e)

pub lookup_here : (k : ℕ) (cs xs : List Cell) (c : Cell) (ys : List Cell) → cs ≡ xs ++ (c ∷ ys) → ((i : ℕ) → i < length xs → get_or (keys cs) i 0 ≡ k → ⊥) → key_number c ≡ k → lookup k cs ≡ Some c
lookup_here k cs xs c ys s h e =
    ap (lookup k) s ∙ lookup_at k xs c ys (λ i l q. h i l (ap (λ (z : List Cell). get_or (keys z) i 0) s ∙ q)) e

-- it begins behind the bytes of those before it
start_at : (k : ℕ) (xs : List Cell) (c : Cell) (ys : List Cell) → ((i : ℕ) → i < length xs → get_or (keys (xs ++ (c ∷ ys))) i 0 ≡ k → ⊥) → key_number c ≡ k → cell_start k (xs ++ (c ∷ ys)) ≡ length (encode xs)
unfolding cell_start encode
start_at k [] c ys h e = rw (eq-eqb _ _ e)
start_at k (x ∷ xs) c ys h e =
    rw (ne_eqb (key_number x) k (h 0 (omega arith)), start_at k xs c ys (λ i l. h (suc i) (omega arith)) e) (sym (length-append (cell_bytes x) (encode xs)))

start_here : (k : ℕ) (cs xs : List Cell) (c : Cell) (ys : List Cell) → cs ≡ xs ++ (c ∷ ys) → ((i : ℕ) → i < length xs → get_or (keys cs) i 0 ≡ k → ⊥) → key_number c ≡ k → cell_start k cs ≡ length (encode xs)
start_here k cs xs c ys s h e =
    ap (cell_start k) s ∙ start_at k xs c ys (λ i l q. h i l (ap (λ (z : List Cell). get_or (keys z) i 0) s ∙ q)) e

-- what lies in fewer bytes lies in more
in_more : (b : List ℕ) (v : Answered) {m n i j : ℕ} → m ≤ n → n ≤ length b → i ≡ j → InStore b m i v → InStore b n j v
unfolding InStore
in_more b Missing h l e i = tt
in_more b (Integer z) h l e i = tt
in_more b (Decimal z) h l e i = tt
in_more b (StringAt a k) h l e i = (i.0 ∙ e, omega (arith, i.1), l)
in_more b (Highest x) h l e i = tt

-- the answers of `cell_answer`
module _ (b index : List ℕ) (count k p : ℕ) (q : Position b index count k p) where
  pub cell_past : count ≤ p → CellAnswer b index count k Missing
  unfolding meant found InStore
  cell_past h = record { found = go; inside = λ n cs r. tt }
    where
      go : (n : ℕ) (cs : List Cell) → Ready b n index count cs → missing ≡ found (lookup k cs)
      go n cs r =
          let f = q.first (sorted b n index count cs r) in
          rw (lookup_none k cs (λ i l e. omega (arith, lower_keys b n index count cs r k p f i (omega (arith, r.tally)))))

  -- t says whether the cell there has the key
  module _ (h : p < count) (at : ℕ) (t : Bool) (pl : at ≡ get_or index p 0) (ke : at + 9 ≤ length b → t ≡ eqb (key_as_number (key_at b (at + 1))) k) where
    key_is : (n : ℕ) (cs : List Cell) → Ready b n index count cs → t ≡ eqb (get_or (keys cs) p 0) k
    key_is n cs r =
        let l = locate b n index count cs r p h in
        ke (omega (arith, l.room)) ∙ ap (λ (x : ℕ). eqb (key_as_number (key_at b (x + 1))) k) pl ∙ ap (λ (x : ℕ). eqb x k) l.key

    module _ (e : t ≡ true) (v : Answered) (w : ValueAt b at v) where
      module _ (n : ℕ) (cs : List Cell) (r : Ready b n index count cs) where
        abbrev here : Located b index cs p
        here = locate b n index count cs r p h

        begins_here : drop at b ≡ cell_bytes here.picked.cell ++ here.rest
        begins_here = ap (λ (y : ℕ). drop y b) pl ∙ here.bytes

        -- it has the key, and none of the cells before it has
        has_key : key_number here.picked.cell ≡ k
        has_key = sym here.number ∙ eqb-true _ _ (sym (key_is n cs r) ∙ e)

        lower : (i : ℕ) → i < length here.picked.left → get_or (keys cs) i 0 ≡ k → ⊥
        lower i u z = omega (arith, lower_keys b n index count cs r k p (q.first (sorted b n index count cs r)) i (omega (arith, here.picked.place)))

        found_in : meant b v ≡ found (lookup k cs)
        unfolding found
        found_in =
            let x : lookup k cs ≡ Some here.picked.cell = lookup_here k cs here.picked.left here.picked.cell here.picked.right here.picked.split lower has_key in
            w.value here.picked.cell here.rest here.allowed begins_here ∙ ap found (sym x)

        held_in : InStore b n (cell_start k cs + 9) v
        held_in =
            let s : cell_start k cs ≡ length (encode here.picked.left) = start_here k cs here.picked.left here.picked.cell here.picked.right here.picked.split lower has_key in
            in_more b v (omega (arith, cell_inside b n index count cs r p h, pl)) (held_some b n cs r.holds).inside (omega (arith, s, pl, here.place)) (w.inside here.picked.cell here.rest here.allowed begins_here)

      pub cell_found : CellAnswer b index count k v
      cell_found = record { found = found_in; inside = held_in }

    pub cell_other : t ≡ false → CellAnswer b index count k Missing
    unfolding meant found InStore
    cell_other e = record { found = go; inside = λ n cs r. tt }
      where
        go : (n : ℕ) (cs : List Cell) → Ready b n index count cs → missing ≡ found (lookup k cs)
        go n cs r =
            let f = q.first (sorted b n index count cs r) in
            let rise = (held_some b n cs r.holds).holds.valid.rising in
            let no : (i : ℕ) → i < length cs → get_or (keys cs) i 0 ≡ k → ⊥ =
            λ i u z. split_at i p
            (λ (a : i < p). omega (arith, lower_keys b n index count cs r k p f i a))
            (λ (a : i ≡ p). false≢true (sym e ∙ key_is n cs r ∙ eq-eqb _ _ (ap (λ (y : ℕ). get_or (keys cs) y 0) (sym a) ∙ z)))
            (λ (a : p < i). omega (arith, keys_rise cs p i rise a u, higher_keys b n index count cs r k p f p (omega arith) (omega arith))) in
            rw (lookup_none k cs no)

-- ---- the highest number over the cells that are meant

each_split : (P : Cell → Type 0) (cs : List Cell) → ((xs : List Cell) (c : Cell) (ys : List Cell) → cs ≡ xs ++ (c ∷ ys) → P c) → Each P cs
each_split P [] h = tt
each_split P (c ∷ cs) h = (h [] c cs refl, each_split P cs (λ xs d ys e. h (c ∷ xs) d ys (ap (λ (l : List Cell). c ∷ l) e)))

module _ (m : Cell → Bool) (f : Cell → ℕ) where
  highest_none : (cs : List Cell) → Each (λ c. m c ≡ false) cs → highest_of m f cs ≡ 0
  unfolding highest_of
  highest_none [] h = refl
  highest_none (c ∷ cs) h = rw (h.0, highest_none cs h.1)

  highest_le : (n : ℕ) (cs : List Cell) → Each (λ c. m c ≡ true → f c ≤ n) cs → highest_of m f cs ≤ n
  unfolding highest_of
  highest_le n [] h = omega arith
  highest_le n (c ∷ cs) h = max-le (go (m c) refl) (highest_le n cs h.1)
    where
      go : (t : Bool) → m c ≡ t → cond t (f c) 0 ≤ n
      go true e = h.0 e
      go false e = omega arith

  highest_ge : (xs : List Cell) (c : Cell) (ys : List Cell) → m c ≡ true → f c ≤ highest_of m f (xs ++ (c ∷ ys))
  unfolding highest_of
  highest_ge [] c ys e = rw e (le-max_left _ _)
  highest_ge (x ∷ xs) c ys e = le_trans (highest_ge xs c ys e) (le-max_right _ _)

-- the cells that are meant are those whose keys lie in a range, and the number rises with the key
pub record Range (m : Cell → Bool) (f : Cell → ℕ) (low end : ℕ) : Type 0 where
  pub from : (c : Cell) → cell_allowed c ≡ true → m c ≡ true → low ≤ key_number c
  pub below : (c : Cell) → cell_allowed c ≡ true → m c ≡ true → key_number c < end
  pub means : (c : Cell) → cell_allowed c ≡ true → low ≤ key_number c → key_number c < end → m c ≡ true
  pub rises : (c d : Cell) → cell_allowed c ≡ true → cell_allowed d ≡ true → m c ≡ true → m d ≡ true → key_number c ≤ key_number d → f c ≤ f d

pub highest_in : (m : Cell → Bool) (f : Cell → ℕ) (low end offset : ℕ) → Range m f low end → ((c : Cell) → f c ≡ pair_at (cell_bytes c) offset) → (cs : List Cell) → cells_allowed cs ≡ true → (r : ℕ) → LastOf cs low end offset r → r ≡ highest_of m f cs
highest_in m f low end offset g o cs a r (nothing n) =
    sym (highest_none m f cs (each_split (λ c. m c ≡ false) cs (λ xs c ys e. go c (allowed_in cs xs c ys a e) (n xs c ys e) (m c) refl)))
  where
    go : (c : Cell) → cell_allowed c ≡ true → (low ≤ key_number c → key_number c < end → ⊥) → (t : Bool) → m c ≡ t → t ≡ false
    go c b x true e = absurd (x (g.from c b e) (g.below c b e))
    go c b x false e = refl
highest_in m f low end offset g o cs a r (last xs c ys s l h e n) =
    let b = allowed_in cs xs c ys a s in
    let w = g.means c b l h in
    let le : highest_of m f cs ≤ f c = highest_le m f (f c) cs (each_split (λ d. m d ≡ true → f d ≤ f c) cs (λ vs d ws q y. let k = allowed_in cs vs d ws a q in g.rises d c k b y w (n vs d ws q (g.below d k y)))) in
    let ge : f c ≤ highest_of m f cs = subst (λ (z : List Cell). f c ≤ highest_of m f z) (sym s) (highest_ge m f xs c ys w) in
    e ∙ sym (o c) ∙ le_antisymm ge le

-- the answers of `highest`
module _ (b index : List ℕ) (count low end offset p : ℕ) (q : Position b index count end p) where
  -- a cell whose key is below the end stands before the position
  stands_before : (n : ℕ) (cs : List Cell) → Ready b n index count cs → (xs : List Cell) (c : Cell) (ys : List Cell) → cs ≡ xs ++ (c ∷ ys) → key_number c < end → length xs < p
  stands_before n cs r xs c ys e h =
      split_at (length xs) p (λ a. a) (λ a. absurd (wrong (omega arith))) (λ a. absurd (wrong (omega arith)))
    where
      wrong : p ≤ length xs → ⊥
      wrong l =
          let u : length xs < length cs = omega (arith, ap length e, length-append xs (c ∷ ys)) in
          omega (arith, higher_keys b n index count cs r end p (q.first (sorted b n index count cs r)) (length xs) l u, key_here cs xs c ys e)

  pub highest_first : p < 1 → I.Highest b index count low end offset 0
  highest_first h = record { last = λ n cs r. nothing (λ xs c ys e l u. omega (arith, stands_before n cs r xs c ys e u)) }

  module _ (h : 1 ≤ p) (at key : ℕ) (pl : at ≡ get_or index (p - 1) 0) (ke : at + 9 ≤ length b → key ≡ key_as_number (key_at b (at + 1))) where
    module _ (n : ℕ) (cs : List Cell) (r : Ready b n index count cs) where
      few : p ≤ count
      few = (q.first (sorted b n index count cs r)).few

      at_last : Located b index cs (p - 1)
      at_last = locate b n index count cs r (p - 1) (omega (arith, few))

      last_key : key ≡ key_number at_last.picked.cell
      last_key = ke (omega (arith, at_last.room)) ∙ ap (λ (x : ℕ). key_as_number (key_at b (x + 1))) pl ∙ at_last.key ∙ at_last.number

      -- it is the highest key below the end
      highest_key : (xs : List Cell) (c : Cell) (ys : List Cell) → cs ≡ xs ++ (c ∷ ys) → key_number c < end → key_number c ≤ key_number at_last.picked.cell
      highest_key xs c ys e u =
          let v : length xs < p = stands_before n cs r xs c ys e u in
          let k = key_here cs xs c ys e in
          split_at (length xs) (p - 1)
          (λ a. omega (arith, k, at_last.number, keys_rise cs (length xs) (p - 1) (held_some b n cs r.holds).holds.valid.rising a (omega (arith, few, r.tally))))
          (λ a. omega (arith, k, at_last.number, ap (λ (y : ℕ). get_or (keys cs) y 0) a))
          (λ a. absurd (omega arith))

    pub highest_none_in : key < low → I.Highest b index count low end offset 0
    highest_none_in u =
        record { last = λ n cs r. nothing (λ xs c ys e l v. omega (arith, highest_key n cs r xs c ys e v, last_key n cs r)) }

    pub highest_last : low ≤ key → offset ≤ 6 → (v : ℕ) → (at + 8 ≤ length b → v ≡ pair_at b (at + offset)) → I.Highest b index count low end offset v
    highest_last u o v ve = record { last = go }
      where
        go : (n : ℕ) (cs : List Cell) → Ready b n index count cs → LastOf cs low end offset v
        go n cs r =
            let l = at_last n cs r in
            let k = last_key n cs r in
            last l.picked.left l.picked.cell l.picked.right l.picked.split (omega arith)
            (omega (arith, l.number, lower_keys b n index count cs r end p (q.first (sorted b n index count cs r)) (p - 1) (omega arith)))
            (ve (omega (arith, l.room)) ∙ sym (pair_at_law b at offset) ∙ ap (λ (x : ℕ). pair_at (drop x b) offset) pl ∙ ap (λ (x : List ℕ). pair_at x offset) l.bytes ∙ front_pair l.picked.cell l.rest offset o)
            (highest_key n cs r)
