-- The value of the cell at a place of the store.
use Rattle.std.specs.Prelude.{Some, None}
use mathlib.Core.Option as M
use Rattle.std.proofs.Common.{◌≡◌, ℕ, suc, ◌+◌, ◌-◌, ◌*◌, ◌^◌, ◌<◌, ◌≤◌, Bool, true, false, cond, ltb, List, ◌++◌, length, get_or, take, drop, ℤ, pos, negsuc, sym, refl, ap, ◌∙◌, ap₂, add-zero, arith, length-append, length-drop, get_or-drop, drop-drop, w32, w64, SFits, to_z, of_z, ltb-false, ltb-true, le-ltb, lt-ltb, eq-eqb, ne_eqb}
use mir.ValLaws.{to_z-of_z}
use Rattle.meaning.specs.Answer.{integer, decimal, string, cell}
use Rattle.cells.specs.declared.Answered.TheVariants.{Missing, Integer, Decimal, StringAt}
use Rattle.cells.specs.Bytes.{quad_from, octet_at, from_complement, word_range, long_range}
use Rattle.cells.specs.Cell.{Kind, integer_row, decimal_row, string_row, kinds, row_in, kind_byte, integer_kind, decimal_kind, Cell, cell_allowed, cell_bytes, cell_by, cell_of}
use Rattle.cells.specs.Inner.Tests.{size_of, kind_of}
use Rattle.cells.specs.Asking.{meant}
use Rattle.cells.specs.Inner.Index.{InStore, ValueAt, SizeAt}
use Rattle.cells.proofs.CellForm.{first_byte, cell_reads, value_allowed_law, cell_size, known_kind, string_row_law, size_string, string_short, kind_none}
use Rattle.cells.proofs.Runs.{some_inj}
use Rattle.cells.proofs.Locating.{cell_least}
use Rattle.cells.proofs.BigEndian.{quad_at, octet_at_law}

-- ---- two's complement

pub complement_quad : (n : ℕ) → n < 4294967296 → to_z w32 n ≡ from_complement 4294967296 n
unfolding from_complement
complement_quad n h = go (ltb (2 * n) 4294967296) refl
  where
    go : (t : Bool) → ltb (2 * n) 4294967296 ≡ t → to_z w32 n ≡ cond t (pos n) (negsuc (4294967296 - suc n))
    go true e = let l : 2 * n < 4294967296 = ltb-true _ _ e in rw (lt-ltb n (2 ^ 31) (omega arith))
    go false e = let l : 4294967296 ≤ 2 * n = ltb-false _ _ e in rw (le-ltb n (2 ^ 31) (omega arith))

pub complement_octet : (n : ℕ) → n < 18446744073709551616 → to_z w64 n ≡ from_complement 18446744073709551616 n
unfolding from_complement
complement_octet n h = go (ltb (2 * n) 18446744073709551616) refl
  where
    go : (t : Bool) → ltb (2 * n) 18446744073709551616 ≡ t → to_z w64 n ≡ cond t (pos n) (negsuc (18446744073709551616 - suc n))
    go true e = let l : 2 * n < 18446744073709551616 = ltb-true _ _ e in rw (lt-ltb n (2 ^ 63) (omega arith))
    go false e = let l : 18446744073709551616 ≤ 2 * n = ltb-false _ _ e in rw (le-ltb n (2 ^ 63) (omega arith))

-- a number of two's complement in 64 bits is read back from its bits
pub signed_fits : (top n : ℕ) → n ≤ top → top < 2 ^ 64 → SFits w64 (from_complement (top + 1) n)
unfolding from_complement
signed_fits top n h k = go (ltb (2 * n) (top + 1)) refl
  where
    go : (t : Bool) → ltb (2 * n) (top + 1) ≡ t → SFits w64 (cond t (pos n) (negsuc (top + 1 - suc n)))
    go true e = record { sfits = omega (arith, ltb-true (2 * n) (top + 1) e) }
    go false e = record { sfits = omega (arith, ltb-false (2 * n) (top + 1) e) }

pub bits_back : (top n : ℕ) (z : ℤ) → z ≡ from_complement (top + 1) n → n ≤ top → top < 2 ^ 64 → to_z w64 (of_z w64 z) ≡ from_complement (top + 1) n
bits_back top n z e h k = ap (λ (x : ℤ). to_z w64 (of_z w64 x)) e ∙ to_z-of_z w64 (from_complement (top + 1) n) (signed_fits top n h k)

-- ---- the value

module _ (b : List ℕ) (at : ℕ) where
  kind_at : get_or (drop at b) 0 0 ≡ get_or b at 0
  kind_at = get_or-drop at b 0 0 ∙ ap (λ (i : ℕ). get_or b i 0) (add-zero at)

  -- the cell that begins there
  module _ (c : Cell) (rest : List ℕ) (a : cell_allowed c ≡ true) (e : drop at b ≡ cell_bytes c ++ rest) where
    kind_is : get_or b at 0 ≡ kind_byte c.value
    kind_is =
        let z : at + 0 ≡ at = add-zero at in
        ap (λ (i : ℕ). get_or b i 0) (sym z) ∙ sym (get_or-drop at b 0 0) ∙ ap (λ (l : List ℕ). get_or l 0 0) e ∙ first_byte c rest

    -- the row of its kind reads its value
    value_by : (k : Kind) → row_in kinds (get_or b at 0) ≡ M.some k → k.value (k.read (drop 8 (drop at b))) ≡ c.value
    unfolding cell_of cell_by
    value_by k f =
        let w : cell_by (M.some k) (drop at b) ≡ Some c = ap (λ (o : M.Option Kind). cell_by o (drop at b)) (sym f ∙ ap (row_in kinds) (sym kind_at)) ∙ ap cell_of e ∙ cell_reads c rest (value_allowed_law c a) in
        ap (λ (x : Cell). x.value) (some_inj w)

    has_room : at + size_of (get_or b at 0) ≤ length b
    has_room = omega (arith, ap length e, length-append (cell_bytes c) rest, length-drop at b, cell_least c a, cell_size c.key c.value (value_allowed_law c a), ap size_of kind_is)

    known : 0 < size_of (get_or b at 0)
    known = rw kind_is (known_kind c.value)

  pub value_unknown : kind_of (get_or b at 0) ≡ None → ValueAt b at Missing
  unfolding InStore
  value_unknown h = record { value = λ c r a e. absurd (omega (arith, known c r a e, kind_none _ h)); inside = λ c r a e. tt }

  pub value_short : (room size : ℕ) → room ≡ length b - at → size ≡ size_of (get_or b at 0) → room < size → ValueAt b at Missing
  unfolding InStore
  value_short room size r s h = record { value = λ c q a e. absurd (omega (arith, has_room c q a e)); inside = λ c q a e. tt }

  pub value_integer : get_or b at 0 ≡ integer_kind → (n : ℕ) → n ≡ quad_from b (at + 8) → (z : ℤ) → z ≡ from_complement word_range n → ValueAt b at (Integer z)
  unfolding meant InStore
  value_integer k n q z s =
      record {
        value = λ c r a e. ap (λ (x : ℤ). cell (integer x)) (s ∙ ap (from_complement word_range) (q ∙ sym (quad_at (drop at b) 8 0 ∙ quad_at b at 8))) ∙ ap cell (value_by c r a e integer_row (rw (eq-eqb _ _ k)));
        inside = λ c r a e. tt;
      }

  pub value_decimal : (get_or b at 0 ≡ integer_kind → ⊥) → get_or b at 0 ≡ decimal_kind → (n : ℕ) → n ≡ octet_at b (at + 8) → (z : ℤ) → z ≡ from_complement long_range n → ValueAt b at (Decimal z)
  unfolding meant InStore
  value_decimal j k n q z s =
      record {
        value = λ c r a e. ap (λ (x : ℤ). cell (decimal x)) (s ∙ ap (from_complement long_range) (q ∙ sym (octet_at_law (drop at b) 8 0 ∙ octet_at_law b at 8))) ∙ ap cell (value_by c r a e decimal_row (rw (ne_eqb _ _ j, eq-eqb _ _ k)));
        inside = λ c r a e. tt;
      }

  module _ (j : get_or b at 0 ≡ integer_kind → ⊥) (k : get_or b at 0 ≡ decimal_kind → ⊥) where
    pub value_text : (n : ℕ) → n ≡ get_or b (at + 8) 0 → ValueAt b at (StringAt (at + 9) n)
    unfolding meant InStore
    value_text n q =
        record {
          value = λ c r a e.
              ap₂ (λ (x : ℕ) (l : List ℕ). cell (string (take x l))) (q ∙ sym (get_or-drop 8 (drop at b) 0 0 ∙ get_or-drop at b 8 0)) (sym (drop-drop 1 8 (drop at b) ∙ drop-drop 9 at b))
              ∙ ap cell (value_by c r a e string_row (string_row_law _ j k (known c r a e)));
          inside = λ c r a e.
              let s : get_or (cell_bytes c ++ r) 8 0 ≤ 16 = string_short c.key c.value r (value_allowed_law c a) (λ z. j (kind_is c r a e ∙ z)) (λ z. k (kind_is c r a e ∙ z)) in
              let z : length (cell_bytes c) ≡ 25 = cell_size c.key c.value (value_allowed_law c a) ∙ ap size_of (sym (kind_is c r a e)) ∙ size_string _ j k (known c r a e) in
              (refl, omega (arith, s, q, get_or-drop at b 8 0, ap (λ (l : List ℕ). get_or l 8 0) e, z), omega (arith, has_room c r a e, z, size_string _ j k (known c r a e)));
        }

  -- ---- the answers of `size_at`

  pub size_in : (r : ℕ) → r ≡ size_of (get_or b at 0) → SizeAt b at r
  size_in r s = record { size = λ c q a e. s ∙ ap size_of (kind_is c q a e) ∙ sym (cell_size c.key c.value (value_allowed_law c a)) }

  pub size_none : kind_of (get_or b at 0) ≡ None → SizeAt b at 0
  size_none h = record { size = λ c q a e. absurd (omega (arith, known c q a e, kind_none _ h)) }
