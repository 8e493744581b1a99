-- Big-endian numbers and two's complement, written and read back.
use Rattle.std.proofs.Common.{◌≡◌, ℕ, suc, ◌+◌, ◌-◌, ◌*◌, ◌/◌, ◌%◌, ◌<◌, ◌≤◌, Bool, true, false, cond, ◌&&◌, T, ltb, List, [], ◌∷◌, ◌++◌, length, get_or, drop, ℤ, pos, negsuc, nat_abs, sym, refl, ap, ◌∙◌, subst, ap₂, append_assoc, add-one, arith, get_or-drop, drop-cons, le-ltb, lt-ltb, eq-eqb, eqb-true}
use lib.Seq.{drop-append_seam}
use Rattle.cells.specs.Cell.{key_as_number, key_at}
use Rattle.cells.specs.Bytes.{pair, quad, octet, pair_at, quad_from, octet_at, in_complement, from_complement, begins}

-- every element is a byte
abbrev pub Bytes : List ℕ → Type 0
Bytes s = (i : ℕ) → get_or s i 0 < 256

pub and_true : (s t : Bool) → s && t ≡ true → (s ≡ true) × (t ≡ true)
and_true true t e = (refl, e)
and_true false t e = absurd (subst T (sym e) tt)

pub both : {s t : Bool} → s ≡ true → t ≡ true → s && t ≡ true
both e f = rw (e, f)

-- ---- what a list begins with

pub begins_self : (p r : List ℕ) → begins p (p ++ r) ≡ true
unfolding begins
begins_self [] r = refl
begins_self (x ∷ p) r = both (eq-eqb x x refl) (begins_self p r)

pub begins_says : (p s : List ℕ) → begins p s ≡ true → s ≡ p ++ drop (length p) s
unfolding begins
begins_says [] s e = refl
begins_says (x ∷ p) [] e = absurd (subst T (sym e) tt)
begins_says (x ∷ p) (y ∷ s) e =
    let t = and_true _ _ e in
    ap₂ (λ (a : ℕ) (l : List ℕ). a ∷ l) (sym (eqb-true x y t.0)) (begins_says p s t.1)

pub append_same : {A : Type 0} (p : List A) {r r' : List A} → p ++ r ≡ p ++ r' → r ≡ r'
append_same p {r} {r'} e = sym (drop-append_seam p r) ∙ ap (drop (length p)) e ∙ drop-append_seam p r'

pub next : (s : List ℕ) (i : ℕ) → i < length s → drop i s ≡ get_or s i 0 ∷ drop (i + 1) s
next s i h = rw add-one (drop-cons s i 0 h)

-- ---- reading what was written

pub pair_reads : (n : ℕ) → n / 256 * 256 + n % 256 ≡ n
pair_reads n = omega arith

pub quad_reads : (n : ℕ) → (n / 65536 / 256 * 256 + n / 65536 % 256) * 65536 + (n % 65536 / 256 * 256 + n % 65536 % 256) ≡ n
quad_reads n = omega arith

pub octet_reads : (n : ℕ) → n / 4294967296 * 4294967296 + n % 4294967296 ≡ n
octet_reads n = omega arith

pub signed_unsigned : (m : ℕ) (z : ℤ) → 2 * nat_abs z < m → from_complement m (in_complement m z) ≡ z
unfolding from_complement in_complement
signed_unsigned m (pos n) h = rw (lt-ltb (2 * n) m (omega arith))
signed_unsigned m (negsuc n) h = rw (le-ltb (2 * (m - suc n)) m (omega arith)) (ap negsuc (omega arith))

-- ---- writing what was read

pub unsigned_signed : (m n : ℕ) → n < m → in_complement m (from_complement m n) ≡ n
unfolding from_complement in_complement
unsigned_signed m n h = go (ltb (2 * n) m)
  where
    go : (t : Bool) → in_complement m (cond t (pos n) (negsuc (m - suc n))) ≡ n
    go true = refl
    go false = omega arith

module _ (s : List ℕ) (bytes : Bytes s) where
  pub pair_below : (i : ℕ) → pair_at s i < 65536
  unfolding pair_at
  pair_below i = omega (arith, bytes i, bytes (i + 1))

  pub quad_below : (i : ℕ) → quad_from s i < 4294967296
  unfolding quad_from
  quad_below i = omega (arith, pair_below i, pair_below (i + 2))

  pub octet_below : (i : ℕ) → octet_at s i < 18446744073709551616
  unfolding octet_at
  octet_below i = omega (arith, quad_below i, quad_below (i + 4))

  -- the eight bytes of a cell behind its kind: its key, and a byte behind it
  pub key_of_octet : (at : ℕ) → octet_at s at / 256 ≡ key_as_number (key_at s at)
  unfolding octet_at quad_from pair_at key_as_number key_at
  key_of_octet at =
      let e₁ : get_or s (at + 1 + 1) 0 ≡ get_or s (at + 2) 0 = ap (λ (i : ℕ). get_or s i 0) (omega arith) in
      let e₂ : get_or s (at + 2 + 1) 0 ≡ get_or s (at + 3) 0 = ap (λ (i : ℕ). get_or s i 0) (omega arith) in
      let e₃ : get_or s (at + 3 + 1) 0 ≡ get_or s (at + 4) 0 = ap (λ (i : ℕ). get_or s i 0) (omega arith) in
      let e₄ : get_or s (at + 4 + 1) 0 ≡ get_or s (at + 5) 0 = ap (λ (i : ℕ). get_or s i 0) (omega arith) in
      let e₅ : get_or s (at + 4 + 2) 0 ≡ get_or s (at + 5 + 1) 0 = ap (λ (i : ℕ). get_or s i 0) (omega arith) in
      omega (arith, bytes (at + 4 + 2 + 1))

  pub pair_back : (i : ℕ) → i + 2 ≤ length s → pair (pair_at s i) ++ drop (i + 2) s ≡ drop i s
  unfolding pair pair_at
  pair_back i h =
      let d : (get_or s i 0 * 256 + get_or s (i + 1) 0) / 256 ≡ get_or s i 0 = omega (arith, bytes (i + 1)) in
      let m : (get_or s i 0 * 256 + get_or s (i + 1) 0) % 256 ≡ get_or s (i + 1) 0 = omega (arith, bytes (i + 1)) in
      let j : i + 1 + 1 ≡ i + 2 = omega arith in
      rw (d, m, next s i (omega arith), next s (i + 1) (omega arith), j)

  pub quad_back : (i : ℕ) → i + 4 ≤ length s → quad (quad_from s i) ++ drop (i + 4) s ≡ drop i s
  unfolding quad quad_from
  quad_back i h =
      let d : (pair_at s i * 65536 + pair_at s (i + 2)) / 65536 ≡ pair_at s i = omega (arith, pair_below (i + 2)) in
      let m : (pair_at s i * 65536 + pair_at s (i + 2)) % 65536 ≡ pair_at s (i + 2) = omega (arith, pair_below (i + 2)) in
      let j : i + 4 ≡ i + 2 + 2 = omega arith in
      rw (d, m, append_assoc (pair (pair_at s i)) (pair (pair_at s (i + 2))) (drop (i + 4) s), j, pair_back (i + 2) (omega arith)) (pair_back i (omega arith))

  pub octet_back : (i : ℕ) → i + 8 ≤ length s → octet (octet_at s i) ++ drop (i + 8) s ≡ drop i s
  unfolding octet octet_at
  octet_back i h =
      let d : (quad_from s i * 4294967296 + quad_from s (i + 4)) / 4294967296 ≡ quad_from s i = omega (arith, quad_below (i + 4)) in
      let m : (quad_from s i * 4294967296 + quad_from s (i + 4)) % 4294967296 ≡ quad_from s (i + 4) = omega (arith, quad_below (i + 4)) in
      let j : i + 8 ≡ i + 4 + 4 = omega arith in
      rw (d, m, append_assoc (quad (quad_from s i)) (quad (quad_from s (i + 4))) (drop (i + 8) s), j, quad_back (i + 4) (omega arith)) (quad_back i (omega arith))

-- ---- reading at a place is reading at the front of what begins there

module _ (b : List ℕ) (at : ℕ) where
  read_at : (i : ℕ) → get_or (drop at b) i 0 ≡ get_or b (at + i) 0
  read_at i = get_or-drop at b i 0

  pub pair_at_law : (i : ℕ) → pair_at (drop at b) i ≡ pair_at b (at + i)
  unfolding pair_at
  pair_at_law i =
      let e : at + (i + 1) ≡ at + i + 1 = omega arith in
      rw (read_at i, read_at (i + 1), e)

  pub quad_at : (i : ℕ) → quad_from (drop at b) i ≡ quad_from b (at + i)
  unfolding quad_from
  quad_at i =
      let e : at + (i + 2) ≡ at + i + 2 = omega arith in
      rw (pair_at_law i, pair_at_law (i + 2), e)

  pub octet_at_law : (i : ℕ) → octet_at (drop at b) i ≡ octet_at b (at + i)
  unfolding octet_at
  octet_at_law i =
      let e : at + (i + 4) ≡ at + i + 4 = omega arith in
      rw (quad_at i, quad_at (i + 4), e)

  pub key_at_law : key_at (drop at b) 1 ≡ key_at b (at + 1)
  unfolding key_at
  key_at_law =
      let e : at + (1 + 1) ≡ at + 1 + 1 = omega arith in
      let f : at + (1 + 3) ≡ at + 1 + 3 = omega arith in
      let g : at + (1 + 5) ≡ at + 1 + 5 = omega arith in
      λ i. record {
        datasource = read_at 1 i;
        parameter = (pair_at_law (1 + 1) ∙ ap (pair_at b) e) i;
        record_number = (pair_at_law (1 + 3) ∙ ap (pair_at b) f) i;
        entry_number = (pair_at_law (1 + 5) ∙ ap (pair_at b) g) i;
      }
