-- The walk over a store: what it has read so far, and why a refusal is right.
use Rattle.std.specs.Prelude.{Some, None, Option}
use Rattle.std.proofs.Common.{◌≡◌, ℕ, suc, ◌+◌, ◌-◌, ◌<◌, ◌≤◌, Bool, true, false, cond, ◌&&◌, ltb, leb, List, [], ◌∷◌, ◌++◌, length, take, drop, set, sym, refl, ap, ◌∙◌, subst, ap₂, append_assoc, append-nil, add-zero, arith, length-append, length-drop, length-set, drop_of_length-le, take_all, drop-drop, ltb-true, lt-ltb, le-leb}
use borrow.Author.Tests.{lt-leb}
use lib.Seq.{sets}
use Rattle.buffers.proofs.Laws.{sets_append}
use Rattle.cells.specs.Cell.{Cell, key_as_number, key_number, key_at, cell_allowed, cell_bytes, front}
use Rattle.cells.specs.Inner.Tests.{size_found, front_size, Sized}
use Rattle.cells.specs.Store.{encode, cells_allowed, above, rising, cells, cells_held}
use Rattle.cells.specs.Inner.Index.{offsets, counted, Filled, Indexes}
use Rattle.cells.proofs.BigEndian.{and_true, both, append_same}
use Rattle.cells.proofs.CellForm.{cell_key, front_cell, Front, front_some}
use Rattle.cells.proofs.Runs.{Valid, Holds, cell_some, cells_encode, cells_some}

-- ---- runs one behind the other

pub encode_append : (xs ys : List Cell) → encode (xs ++ ys) ≡ encode xs ++ encode ys
unfolding encode
encode_append [] ys = refl
encode_append (x ∷ xs) ys = ap (λ (l : List ℕ). cell_bytes x ++ l) (encode_append xs ys) ∙ sym (append_assoc (cell_bytes x) (encode xs) (encode ys))

pub allowed_append : (xs ys : List Cell) → cells_allowed xs ≡ true → cells_allowed ys ≡ true → cells_allowed (xs ++ ys) ≡ true
unfolding cells_allowed
allowed_append [] ys e f = f
allowed_append (x ∷ xs) ys e f =
    let t = and_true (cell_allowed x) (cells_allowed xs) e in
    both t.0 (allowed_append xs ys t.1 f)

pub offsets_append : (xs ys : List Cell) (at : ℕ) → offsets at (xs ++ ys) ≡ offsets at xs ++ offsets (at + length (encode xs)) ys
unfolding offsets encode
offsets_append [] ys at = rw add-zero
offsets_append (x ∷ xs) ys at =
    let e : at + length (cell_bytes x) + length (encode xs) ≡ at + length (cell_bytes x ++ encode xs) = omega (arith, length-append (cell_bytes x) (encode xs)) in
    ap (λ (l : List ℕ). at ∷ l) (offsets_append xs ys (at + length (cell_bytes x)) ∙ ap (λ (n : ℕ). offsets (at + length (cell_bytes x)) xs ++ offsets n ys) e)

pub length_offsets : (xs : List Cell) (at : ℕ) → length (offsets at xs) ≡ length xs
unfolding offsets
length_offsets [] at = refl
length_offsets (x ∷ xs) at = ap suc (length_offsets xs (at + length (cell_bytes x)))

-- ---- rising keys

abbrev pub Below : ℕ → List Cell → Type 0
Below n [] = Unit {0}
Below n (c ∷ cs) = (key_number c < n) × Below n cs

pub below_append : (n : ℕ) (xs ys : List Cell) → Below n xs → Below n ys → Below n (xs ++ ys)
below_append n [] ys h k = k
below_append n (x ∷ xs) ys h k = (h.0, below_append n xs ys h.1 k)

pub below_more : (m n : ℕ) (xs : List Cell) → m ≤ n → Below m xs → Below n xs
below_more m n [] l h = tt
below_more m n (x ∷ xs) l h = (omega (arith, h.0), below_more m n xs l h.1)

above_snoc : (n : ℕ) (xs : List Cell) (c : Cell) → above n xs ≡ true → n < key_number c → above n (xs ++ (c ∷ [])) ≡ true
unfolding above
above_snoc n [] c e h = both (lt-ltb _ _ h) refl
above_snoc n (x ∷ xs) c e h =
    let t = and_true (ltb n (key_number x)) (above n xs) e in
    both t.0 (above_snoc n xs c t.1 h)

rising_snoc : (xs : List Cell) (c : Cell) → rising xs ≡ true → Below (key_number c) xs → rising (xs ++ (c ∷ [])) ≡ true
unfolding rising above
rising_snoc [] c e h = refl
rising_snoc (x ∷ xs) c e h =
    let t = and_true (above (key_number x) xs) (rising xs) e in
    both (above_snoc (key_number x) xs c t.0 h.0) (rising_snoc xs c t.1 h.1)

rising_next : (xs : List Cell) (d c : Cell) (cs : List Cell) → rising (xs ++ (d ∷ c ∷ cs)) ≡ true → key_number d < key_number c
unfolding rising above
rising_next [] d c cs e =
    let t = and_true (above (key_number d) (c ∷ cs)) (rising (c ∷ cs)) e in
    ltb-true _ _ (and_true (ltb (key_number d) (key_number c)) (above (key_number d) cs) t.0).0
rising_next (x ∷ xs) d c cs e = rising_next xs d c cs (and_true (above (key_number x) (xs ++ (d ∷ c ∷ cs))) (rising (xs ++ (d ∷ c ∷ cs))) e).1

-- ---- a run that begins like another

pub record Behind (xs cs : List Cell) (r : List ℕ) : Type 0 where
  pub rest : List Cell
  pub cells : cs ≡ xs ++ rest
  pub bytes : encode rest ≡ r
  pub allowed : cells_allowed rest ≡ true

pub behind : (xs cs : List Cell) (r : List ℕ) → cells_allowed xs ≡ true → cells_allowed cs ≡ true → encode cs ≡ encode xs ++ r → Behind xs cs r
unfolding encode cells_allowed
behind [] cs r a b e = record { rest = cs; cells = refl; bytes = e; allowed = b }
behind (x ∷ xs) [] r a b e = absurd (omega (arith, ap length e, length-append (cell_bytes x ++ encode xs) r, length-append (cell_bytes x) (encode xs), cell_some x))
behind (x ∷ xs) (c ∷ cs) r a b e =
    let p = and_true (cell_allowed x) (cells_allowed xs) a in
    let q = and_true (cell_allowed c) (cells_allowed cs) b in
    let f : cell_bytes c ++ encode cs ≡ cell_bytes x ++ (encode xs ++ r) = e ∙ append_assoc (cell_bytes x) (encode xs) r in
    let s : Some c ≡ Some x = sym (front_cell c (encode cs) q.0) ∙ ap front f ∙ front_cell x (encode xs ++ r) p.0 in
    let w : c ≡ x = cc in
    let g : cell_bytes x ++ encode cs ≡ cell_bytes x ++ (encode xs ++ r) = ap (λ (y : Cell). cell_bytes y ++ encode cs) (sym w) ∙ f in
    let h = behind xs cs r p.1 q.1 (append_same (cell_bytes x) g) in
    record { rest = h.rest; cells = ap₂ (λ (y : Cell) (l : List Cell). y ∷ l) w h.cells; bytes = h.bytes; allowed = h.allowed }

-- ---- the walk

pub size_found_law : (s : List ℕ) (n : ℕ) (c : Cell) → n ≡ front_size s → front s ≡ Some c → n ≡ length (cell_bytes c)
unfolding front_size size_found
size_found_law s n c h e = h ∙ ap size_found e

pub size_none : (s : List ℕ) (n : ℕ) → n ≡ front_size s → front s ≡ None → n ≡ 0
unfolding front_size size_found
size_none s n h e = h ∙ ap size_found e

-- The bytes up to `at` are those of the cells read, whose places are in the index; the next key is `least` at least.
pub record Walked (bs places₀ : List ℕ) (at count least : ℕ) (starts : List ℕ) : Type 0 where
  pub read : List Cell
  pub bytes : bs ≡ encode read ++ drop at bs
  pub place : at ≡ length (encode read)
  pub inside : at ≤ length bs
  pub tally : count ≡ length read
  pub few : count ≤ at
  pub index : starts ≡ sets places₀ 0 (offsets 0 read)
  pub size : length starts ≡ length places₀
  pub valid : Valid read
  pub below : Below least read
  pub next : (c : Cell) (cs : List Cell) → rising (read ++ (c ∷ cs)) ≡ true → least ≤ key_number c

pub walk_start : (bs starts : List ℕ) → Walked bs starts 0 0 0 starts
unfolding encode offsets cells_allowed rising
walk_start bs starts =
    record {
      read = [];
      bytes = refl;
      place = refl;
      inside = omega arith;
      tally = refl;
      few = omega arith;
      index = refl;
      size = refl;
      valid = record { allowed = refl; rising = refl };
      below = tt;
      next = λ c cs e. omega arith;
    }

module _ (bs places₀ : List ℕ) (at count least : ℕ) (starts : List ℕ) (w : Walked bs places₀ at count least starts) where
  -- at the end
  pub walk_end : length bs ≤ at → Indexes places₀ (cells bs) starts (Some count)
  unfolding counted Filled
  walk_end h =
      let e : bs ≡ encode w.read = w.bytes ∙ ap (λ (l : List ℕ). encode w.read ++ l) (drop_of_length-le bs h) ∙ append-nil (encode w.read) in
      let f : cells bs ≡ Some w.read = ap cells e ∙ cells_encode w.read w.valid in
      rw f (record { told = ap Some w.tally; filled = w.index })

  -- one cell more
  module _ (size key : ℕ) (c : Cell) (f : Front (drop at bs) c) (z : size ≡ length (cell_bytes c)) (m : key ≡ key_number c) (l : least ≤ key) (inside : size ≤ length (drop at bs)) where
    longer : encode (w.read ++ (c ∷ [])) ≡ encode w.read ++ cell_bytes c
    unfolding encode
    longer = encode_append w.read (c ∷ []) ∙ ap (λ (x : List ℕ). encode w.read ++ x) (append-nil (cell_bytes c))

    left : drop (at + size) bs ≡ drop (length (cell_bytes c)) (drop at bs)
    left = ap (λ (n : ℕ). drop (at + n) bs) z ∙ sym (drop-drop (length (cell_bytes c)) at bs)

    noted : set starts count at ≡ sets places₀ 0 (offsets 0 (w.read ++ (c ∷ [])))
    unfolding offsets
    noted =
        let n : count ≡ 0 + length (offsets 0 w.read) = omega (arith, w.tally, length_offsets w.read 0) in
        let a : at ≡ 0 + length (encode w.read) = omega (arith, w.place) in
        (λ i. set (w.index i) (n i) (a i))
        ∙ sym (sets_append (offsets 0 w.read) places₀ 0 ((0 + length (encode w.read)) ∷ []))
        ∙ ap (sets places₀ 0) (sym (offsets_append w.read (c ∷ []) 0))

    one_more : 1 ≤ size → Walked bs places₀ (at + size) (count + 1) (key + 1) (set starts count at)
    unfolding cells_allowed
    one_more h =
        record {
          read = w.read ++ (c ∷ []);
          bytes = w.bytes ∙ ap (λ (x : List ℕ). encode w.read ++ x) f.bytes ∙ sym (append_assoc (encode w.read) (cell_bytes c) (drop (length (cell_bytes c)) (drop at bs))) ∙ ap₂ (λ (x y : List ℕ). x ++ y) (sym longer) (sym left);
          place = omega (arith, w.place, ap length longer, length-append (encode w.read) (cell_bytes c));
          inside = omega (arith, length-drop at bs, w.inside);
          tally = omega (arith, w.tally, length-append w.read (c ∷ []));
          few = omega (arith, w.few);
          index = noted;
          size = length-set starts count at ∙ w.size;
          valid = record {
            allowed = allowed_append w.read (c ∷ []) w.valid.allowed (both f.allowed refl);
            rising = rising_snoc w.read c w.valid.rising (below_more least (key_number c) w.read (omega arith) w.below);
          };
          below = below_append (key + 1) w.read (c ∷ []) (below_more least (key + 1) w.read (omega arith) w.below) (omega arith, tt);
          next = λ d ds e. omega (arith, rising_next w.read c d ds (ap rising (sym (append_assoc w.read (c ∷ []) (d ∷ ds))) ∙ e));
        }

  -- a refusal: no run of cells can go on like this
  module _ (more : at < length bs) where
    none_held : ((c : Cell) (cs : List Cell) → front (drop at bs) ≡ Some c → rising (w.read ++ (c ∷ cs)) ≡ true → drop at bs ≡ cell_bytes c ++ encode cs → ⊥) → cells bs ≡ None
    unfolding encode cells_allowed
    none_held never = go (cells bs) refl
      where
        found : (cs : List Cell) → Holds bs cs → (rest : List Cell) → cs ≡ w.read ++ rest → encode rest ≡ drop at bs → cells_allowed rest ≡ true → ⊥
        found cs h [] q r a = omega (arith, ap length r, length-drop at bs)
        found cs h (c ∷ rest) q r a =
            let t = and_true (cell_allowed c) (cells_allowed rest) a in
            never c rest (ap front (sym r) ∙ front_cell c (encode rest) t.0) (ap rising (sym q) ∙ h.valid.rising) (sym r)

        go : (o : Option (List Cell)) → cells bs ≡ o → o ≡ None
        go None e = refl
        go (Some cs) e =
            let h = cells_some bs cs e in
            let b = behind w.read cs (drop at bs) w.valid.allowed h.valid.allowed (h.bytes ∙ w.bytes) in
            absurd (found cs h b.rest b.cells b.bytes b.allowed)

    refused : cells bs ≡ None → (places' : List ℕ) → Indexes places₀ (cells bs) places' None
    unfolding counted Filled
    refused e places' = rw e (record { told = refl; filled = tt })

    -- the part of the store that is left, as the code cuts it
    module _ (size : ℕ) (cut : Sized (take (length bs - at) (drop at bs)) size) where
      whole : take (length bs - at) (drop at bs) ≡ drop at bs
      whole = take_all (length bs - at) (drop at bs) (omega (arith, length-drop at bs))

      s : Sized (drop at bs) size
      s = subst (λ (x : List ℕ). Sized x size) whole cut

      pub walk_no_cell : size < 1 → Indexes places₀ (cells bs) starts None
      walk_no_cell h = refused (none_held (λ c cs e r b. no_size c e)) starts
        where
          no_size : (c : Cell) → front (drop at bs) ≡ Some c → ⊥
          no_size c e = omega (arith, size_found_law (drop at bs) size c s.size e, cell_some c)

      module _ (key : ℕ) (k : key ≡ key_as_number (key_at (take (length bs - at) (drop at bs)) 1)) where
        key_of : (c : Cell) (r : List ℕ) → drop at bs ≡ cell_bytes c ++ r → key ≡ key_number c
        key_of c r b = k ∙ ap (λ (l : List ℕ). key_as_number (key_at l 1)) (whole ∙ b) ∙ ap key_as_number (cell_key c r)

        pub walk_low_key : key < least → Indexes places₀ (cells bs) starts None
        walk_low_key h = refused (none_held (λ c cs e r b. omega (arith, w.next c cs r, key_of c (encode cs) b))) starts

        pub walk_more : 1 ≤ size → least ≤ key → (places' : List ℕ) → places' ≡ set starts count at → Walked bs places₀ (at + size) (count + 1) (key + 1) places'
        walk_more h l places' p = go (front (drop at bs)) refl
          where
            go : (o : Option Cell) → front (drop at bs) ≡ o → Walked bs places₀ (at + size) (count + 1) (key + 1) places'
            go None e = absurd (omega (arith, size_none (drop at bs) size s.size e))
            go (Some c) e =
                let f = front_some (drop at bs) c e in
                let m : Walked bs places₀ (at + size) (count + 1) (key + 1) (set starts count at) =
                one_more size key c f (size_found_law (drop at bs) size c s.size e) (key_of c (drop (length (cell_bytes c)) (drop at bs)) f.bytes) l s.inside h in
                subst (λ (x : List ℕ). Walked bs places₀ (at + size) (count + 1) (key + 1) x) (sym p) m

-- ---- the store as a buffer and a length

module _ (b : List ℕ) (n : ℕ) where
  held_none : (starts places' : List ℕ) → cells_held b n ≡ None → Indexes starts (cells_held b n) places' None
  unfolding counted Filled
  held_none starts places' e = rw e (record { told = refl; filled = tt })

  pub held_past : length b < n → cells_held b n ≡ None
  unfolding cells_held
  held_past h = rw (lt-leb n (length b) h)

  pub held_over : 65536 < n → cells_held b n ≡ None
  unfolding cells_held
  held_over h = go (leb n (length b))
    where
      go : (t : Bool) → cond (t && leb n 65536) (cells (take n b)) None ≡ None
      go true = rw (lt-leb n 65536 h)
      go false = refl

  pub held_cells : n ≤ length b → n ≤ 65536 → cells_held b n ≡ cells (take n b)
  unfolding cells_held
  held_cells h k = rw (le-leb n (length b) h, le-leb n 65536 k)

  pub build_past : (starts : List ℕ) → length b < n → Indexes starts (cells_held b n) starts None
  build_past starts h = held_none starts starts (held_past h)

  pub build_over : (starts : List ℕ) → 65536 < n → Indexes starts (cells_held b n) starts None
  build_over starts h = held_none starts starts (held_over h)

  pub build_walk : (starts places' : List ℕ) (r : Option ℕ) → n ≤ length b → n ≤ 65536 → Indexes starts (cells (take (n - 0) b)) places' r → Indexes starts (cells_held b n) places' r
  build_walk starts places' r h k w =
      let z : n - 0 ≡ n = omega arith in
      subst (λ (o : Option (List Cell)). Indexes starts o places' r) (ap (λ (m : ℕ). cells (take m b)) z ∙ sym (held_cells h k)) w
