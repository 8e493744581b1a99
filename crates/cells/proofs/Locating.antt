-- The i-th cell of a store, by the index: its bytes, its place and its key.
use Rattle.std.specs.Prelude.{Some, None}
use Rattle.std.proofs.Common.{◌≡◌, ℕ, zero, suc, ◌+◌, ◌<◌, ◌≤◌, Bool, true, false, cond, ◌&&◌, ltb, leb, List, [], ◌∷◌, ◌++◌, length, get_or, take, drop, sym, refl, ap, ◌∙◌, ap₂, append_assoc, arith, length-append, length-drop, take-append-drop, length-take-le, ltb-true, leb-true}
use lib.Seq.{drop-append_seam, get_or_at}
use Rattle.cells.specs.Cell.{Cell, key_as_number, key_number, key_at, cell_allowed, cell_bytes, kind_byte}
use Rattle.cells.specs.Store.{encode, cells_allowed, above, rising, cells, cells_held}
use Rattle.cells.specs.Inner.Index.{offsets, Ready, key_in, Sorted, First}
use Rattle.cells.proofs.BigEndian.{and_true, key_at_law}
use Rattle.cells.proofs.CellForm.{number_small, cell_key, cell_size, size_least, known_kind, key_allowed_law, value_allowed_law}
use Rattle.cells.proofs.Runs.{Holds, cells_some, none_some}
use Rattle.cells.proofs.Walking.{encode_append, offsets_append, length_offsets}

-- ---- a store that holds cells

pub record HeldAs (b : List ℕ) (n : ℕ) (cs : List Cell) : Type 0 where
  pub inside : n ≤ length b
  pub most : n ≤ 65536
  pub holds : Holds (take n b) cs

pub held_some : (b : List ℕ) (n : ℕ) (cs : List Cell) → cells_held b n ≡ Some cs → HeldAs b n cs
unfolding cells_held
held_some b n cs e = go (leb n (length b) && leb n 65536) refl e
  where
    go : (t : Bool) → leb n (length b) && leb n 65536 ≡ t → cond t (cells (take n b)) None ≡ Some cs → HeldAs b n cs
    go true q f =
        let t = and_true (leb n (length b)) (leb n 65536) q in
        record { inside = leb-true _ _ t.0; most = leb-true _ _ t.1; holds = cells_some (take n b) cs f }
    go false q f = absurd (none_some f)

-- ---- the i-th cell

pub record Picked (cs : List Cell) (i : ℕ) : Type 0 where
  pub left : List Cell
  pub cell : Cell
  pub right : List Cell
  pub split : cs ≡ left ++ (cell ∷ right)
  pub place : length left ≡ i

pub pick : (cs : List Cell) (i : ℕ) → i < length cs → Picked cs i
pick [] i h = absurd (omega arith)
pick (c ∷ cs) zero h = record { left = []; cell = c; right = cs; split = refl; place = refl }
pick (c ∷ cs) (suc i) h =
    let p = pick cs i (omega arith) in
    record {
      left = c ∷ p.left;
      cell = p.cell;
      right = p.right;
      split = ap (λ (l : List Cell). c ∷ l) p.split;
      place = ap suc p.place;
    }

-- the numbers of the keys
abbrev pub keys : List Cell → List ℕ
keys [] = []
keys (c ∷ cs) = key_number c ∷ keys cs

pub length_keys : (cs : List Cell) → length (keys cs) ≡ length cs
length_keys [] = refl
length_keys (c ∷ cs) = ap suc (length_keys cs)

pub keys_append : (xs ys : List Cell) → keys (xs ++ ys) ≡ keys xs ++ keys ys
keys_append [] ys = refl
keys_append (x ∷ xs) ys = ap (λ (l : List ℕ). key_number x ∷ l) (keys_append xs ys)

pub key_here : (cs xs : List Cell) (c : Cell) (ys : List Cell) → cs ≡ xs ++ (c ∷ ys) → get_or (keys cs) (length xs) 0 ≡ key_number c
key_here cs xs c ys e =
    ap (λ (l : List Cell). get_or (keys l) (length xs) 0) e
    ∙ ap (λ (l : List ℕ). get_or l (length xs) 0) (keys_append xs (c ∷ ys))
    ∙ get_or_at (keys xs) (key_number c) (keys ys) 0 (length xs) (length_keys xs)

above_at : (n : ℕ) (cs : List Cell) (j : ℕ) → above n cs ≡ true → j < length cs → n < get_or (keys cs) j 0
unfolding above
above_at n [] j e h = absurd (omega arith)
above_at n (c ∷ cs) zero e h = ltb-true _ _ (and_true (ltb n (key_number c)) (above n cs) e).0
above_at n (c ∷ cs) (suc j) e h = above_at n cs j (and_true (ltb n (key_number c)) (above n cs) e).1 (omega arith)

pub keys_rise : (cs : List Cell) (i j : ℕ) → rising cs ≡ true → i < j → j < length cs → get_or (keys cs) i 0 < get_or (keys cs) j 0
unfolding rising
keys_rise [] i j e h l = absurd (omega arith)
keys_rise (c ∷ cs) i zero e h l = absurd (omega arith)
keys_rise (c ∷ cs) zero (suc j) e h l = above_at (key_number c) cs j (and_true (above (key_number c) cs) (rising cs) e).0 (omega arith)
keys_rise (c ∷ cs) (suc i) (suc j) e h l = keys_rise cs i j (and_true (above (key_number c) cs) (rising cs) e).1 (omega arith) (omega arith)

allowed_at : (xs : List Cell) (c : Cell) (ys : List Cell) → cells_allowed (xs ++ (c ∷ ys)) ≡ true → cell_allowed c ≡ true
unfolding cells_allowed
allowed_at [] c ys e = (and_true (cell_allowed c) (cells_allowed ys) e).0
allowed_at (x ∷ xs) c ys e = allowed_at xs c ys (and_true (cell_allowed x) (cells_allowed (xs ++ (c ∷ ys))) e).1

pub allowed_in : (cs xs : List Cell) (c : Cell) (ys : List Cell) → cells_allowed cs ≡ true → cs ≡ xs ++ (c ∷ ys) → cell_allowed c ≡ true
allowed_in cs xs c ys a e = allowed_at xs c ys (ap cells_allowed (sym e) ∙ a)

pub cell_least : (c : Cell) → cell_allowed c ≡ true → 12 ≤ length (cell_bytes c)
cell_least c a =
    let v = value_allowed_law c a in
    omega (arith, cell_size c.key c.value v, size_least (kind_byte c.value) (known_kind c.value))

-- ---- the i-th cell in the bytes

pub record Located (b index : List ℕ) (cs : List Cell) (i : ℕ) : Type 0 where
  pub picked : Picked cs i
  pub rest : List ℕ
  pub place : get_or index i 0 ≡ length (encode picked.left)
  pub bytes : drop (get_or index i 0) b ≡ cell_bytes picked.cell ++ rest
  pub allowed : cell_allowed picked.cell ≡ true
  pub room : get_or index i 0 + 12 ≤ length b
  pub key : key_in b index i ≡ get_or (keys cs) i 0
  pub number : get_or (keys cs) i 0 ≡ key_number picked.cell

module _ (b : List ℕ) (n : ℕ) (index : List ℕ) (count : ℕ) (cs : List Cell) (r : Ready b n index count cs) where
  whole : b ≡ encode cs ++ drop n b
  whole = sym (take-append-drop n b) ∙ ap (λ (l : List ℕ). l ++ drop n b) (sym (held_some b n cs r.holds).holds.bytes)

  pub locate : (i : ℕ) → i < count → Located b index cs i
  unfolding encode offsets
  locate i h =
      let p = pick cs i (omega (arith, r.tally)) in
      let x = p.left in
      let c = p.cell in
      let y = p.right in
      let a = allowed_in cs x c y (held_some b n cs r.holds).holds.valid.allowed p.split in
      let o : get_or index i 0 ≡ length (encode x) =
      r.starts i h
      ∙ ap (λ (l : List Cell). get_or (offsets 0 l) i 0) p.split
      ∙ ap (λ (l : List ℕ). get_or l i 0) (offsets_append x (c ∷ y) 0)
      ∙ get_or_at (offsets 0 x) (0 + length (encode x)) (offsets (0 + length (encode x) + length (cell_bytes c)) y) 0 i (length_offsets x 0 ∙ p.place)
      ∙ omega arith in
      let w : b ≡ encode x ++ (cell_bytes c ++ (encode y ++ drop n b)) =
      whole
      ∙ ap (λ (l : List Cell). encode l ++ drop n b) p.split
      ∙ ap (λ (l : List ℕ). l ++ drop n b) (encode_append x (c ∷ y))
      ∙ append_assoc (encode x) (cell_bytes c ++ encode y) (drop n b)
      ∙ ap (λ (l : List ℕ). encode x ++ l) (append_assoc (cell_bytes c) (encode y) (drop n b)) in
      let d : drop (get_or index i 0) b ≡ cell_bytes c ++ (encode y ++ drop n b) =
      ap₂ (λ (k : ℕ) (l : List ℕ). drop k l) o w ∙ drop-append_seam (encode x) (cell_bytes c ++ (encode y ++ drop n b)) in
      let k : get_or (keys cs) i 0 ≡ key_number c = ap (λ (m : ℕ). get_or (keys cs) m 0) (sym p.place) ∙ key_here cs x c y p.split in
      record {
        picked = p;
        rest = encode y ++ drop n b;
        place = o;
        bytes = d;
        allowed = a;
        room = omega (arith, ap length d, length-append (cell_bytes c) (encode y ++ drop n b), length-drop (get_or index i 0) b, cell_least c a);
        key = ap key_as_number (sym (key_at_law b (get_or index i 0))) ∙ ap (λ (l : List ℕ). key_as_number (key_at l 1)) d ∙ ap key_as_number (cell_key c (encode y ++ drop n b)) ∙ sym k;
        number = k;
      }

  -- it ends in the store
  pub cell_inside : (i : ℕ) (h : i < count) → get_or index i 0 + length (cell_bytes (locate i h).picked.cell) ≤ n
  unfolding encode
  cell_inside i h =
      let l = locate i h in
      let x = l.picked.left in
      let c = l.picked.cell in
      let y = l.picked.right in
      let u = held_some b n cs r.holds in
      omega (arith, l.place, ap (λ (z : List Cell). length (encode z)) l.picked.split, ap length (encode_append x (c ∷ y)), length-append (encode x) (cell_bytes c ++ encode y), length-append (cell_bytes c) (encode y), ap length u.holds.bytes, length-take-le n b u.inside)

  pub sorted : Sorted b index count
  sorted =
      record {
        room = r.room;
        inside = λ i h. omega (arith, (locate i h).room);
        small = λ i h. let l = locate i h in omega (arith, l.key, l.number, number_small l.picked.cell.key (key_allowed_law l.picked.cell l.allowed));
        rises = λ i j h l. omega (arith, (locate i (omega arith)).key, (locate j l).key, keys_rise cs i j (held_some b n cs r.holds).holds.valid.rising h (omega (arith, r.tally)));
      }

  -- the position that was found, in the list of the cells
  module _ (k p : ℕ) (f : First b index count k p) where
    pub lower_keys : (i : ℕ) → i < p → get_or (keys cs) i 0 < k
    lower_keys i h = omega (arith, f.lower i h, (locate i (omega (arith, f.few))).key)

    pub higher_keys : (i : ℕ) → p ≤ i → i < length cs → k ≤ get_or (keys cs) i 0
    higher_keys i h l =
        let u : i < count = omega (arith, r.tally) in
        omega (arith, f.higher i h u, (locate i u).key)
