-- A cell's bytes, read back as the cell; and bytes that pass the code's tests, as the bytes of a cell.
use Rattle.std.specs.Prelude.{Option, Some, None}
use mathlib.Core.Option as M
use Rattle.std.proofs.Common.{◌≡◌, ℕ, zero, suc, ◌+◌, ◌-◌, ◌*◌, ◌/◌, ◌%◌, ◌<◌, ◌≤◌, Bool, true, false, cond, ◌&&◌, eqb, leb, List, [], ◌∷◌, ◌++◌, length, get_or, take, drop, replicate, ℤ, nat_abs, sym, refl, ap, ◌∙◌, subst, ap₂, append_assoc, arith, length-append, length-drop, take-append-drop, length-take-le, drop-drop, take_at, eq-eqb, ne_eqb, eqb-true, leb-true}
use mathlib.Core.Bool.{false≢true}
use lib.ListN.{length-replicate}
use lib.Seq.{take-append_seam, drop-append_seam}
use Rattle.meaning.specs.Answer.{Value, integer, decimal, string}
use Rattle.meaning.specs.Answer as A
use Rattle.numbers.specs.declared.Quantity.TheVariants as Q
use Rattle.numbers.specs.Range.{integer_limit, decimal_limit, within}
use Rattle.cells.specs.Bytes.{pair, quad, octet, pair_at, quad_from, octet_at, in_complement, from_complement, word_range, long_range, begins}
use Rattle.cells.specs.Cell.{Key, between, key_allowed, key_bytes, key_as_number, each, printable, Kind, integer_row, decimal_row, string_row, kinds, row_in, kind_and_body, kind_byte, value_allowed, value_bytes, integer_kind, decimal_kind, string_kind, Cell, cell_allowed, cell_bytes, key_at, cell_by, cell_of, passing, front}
use Rattle.cells.specs.Inner.Tests.{size_by, size_of, kind_of, kind_size, zeros, string_formed, value_formed, size_found, front_size, Sized, FrontSized}
use Rattle.cells.specs.declared.form.ValueKind.{ValueKind}
use Rattle.cells.specs.declared.form.ValueKind.TheVariants as K
use Rattle.cells.proofs.BigEndian.{Bytes, and_true, both, begins_self, begins_says, pair_reads, quad_reads, octet_reads, signed_unsigned, unsigned_signed, quad_below, octet_below, next, pair_back, quad_back, octet_back, quad_at, octet_at_law}

-- ---- the limits of a key

pub record Limits (k : Key) : Type 0 where
  pub datasource : k.datasource ≤ 35
  pub parameter : k.parameter ≤ 65535
  pub record_number : k.record_number ≤ 999
  pub entry_number : k.entry_number ≤ 999

pub limits : (k : Key) → key_allowed k ≡ true → Limits k
unfolding key_allowed between
limits k e =
    let a = and_true (between 1 35 k.datasource) (between 1 65535 k.parameter && (leb k.record_number 999 && leb k.entry_number 999)) e in
    let b = and_true (between 1 65535 k.parameter) (leb k.record_number 999 && leb k.entry_number 999) a.1 in
    let c = and_true (leb k.record_number 999) (leb k.entry_number 999) b.1 in
    record {
      datasource = leb-true _ _ (and_true (leb 1 k.datasource) (leb k.datasource 35) a.0).1;
      parameter = leb-true _ _ (and_true (leb 1 k.parameter) (leb k.parameter 65535) b.0).1;
      record_number = leb-true _ _ c.0;
      entry_number = leb-true _ _ c.1;
    }

pub number_small : (k : Key) → key_allowed k ≡ true → key_as_number k < 18014398509481984
unfolding key_as_number
number_small k e = let l = limits k e in omega arith

split : (a b c d : ℕ) → b < 65536 → d < 65536 → a * 65536 + b ≡ c * 65536 + d → (a ≡ c) × (b ≡ d)
split a b c d h k e = (omega arith, omega arith)

-- Keys within the limits are told apart by their numbers.
pub same_key : (k l : Key) → key_allowed k ≡ true → key_allowed l ≡ true → key_as_number k ≡ key_as_number l → k ≡ l
unfolding key_as_number
same_key k l h g e =
    let u = limits k h in
    let v = limits l g in
    let x = split _ _ _ _ (omega (arith, u.entry_number)) (omega (arith, v.entry_number)) e in
    let y = split _ _ _ _ (omega (arith, u.record_number)) (omega (arith, v.record_number)) x.0 in
    let z = split _ _ _ _ (omega (arith, u.parameter)) (omega (arith, v.parameter)) y.0 in
    λ i. record { datasource = z.0 i; parameter = z.1 i; record_number = y.1 i; entry_number = x.1 i }

-- ---- a cell's bytes

pub length_key : (k : Key) → length (key_bytes k) ≡ 7
unfolding key_bytes pair
length_key k = refl

pub key_reads : (k : Key) (r : List ℕ) → key_at (key_bytes k ++ r) 0 ≡ k
unfolding key_at key_bytes pair pair_at
key_reads k r =
    λ i. record {
      datasource = k.datasource;
      parameter = pair_reads k.parameter i;
      record_number = pair_reads k.record_number i;
      entry_number = pair_reads k.entry_number i;
    }

pub cell_key : (c : Cell) (r : List ℕ) → key_at (cell_bytes c ++ r) 1 ≡ c.key
unfolding cell_bytes key_at key_bytes pair pair_at
cell_key c r =
    λ i. record {
      datasource = c.key.datasource;
      parameter = pair_reads c.key.parameter i;
      record_number = pair_reads c.key.record_number i;
      entry_number = pair_reads c.key.entry_number i;
    }

-- ---- the rows of the table of kinds

-- the columns of a row agree: a value's bytes are as many as the row says, and are read back
pub record Sound (k : Kind) : Type 0 where
  pub sized : (x : k.Body) → k.allowed x ≡ true → length (k.bytes x) ≡ k.size
  pub reads : (x : k.Body) (r : List ℕ) → k.allowed x ≡ true → k.read (k.bytes x ++ r) ≡ x

integers_sound : Sound integer_row
unfolding pair quad pair_at quad_from within
integers_sound =
    record {
      sized = λ z e. refl;
      reads = λ z r e.
          let h : nat_abs z ≤ integer_limit = leb-true _ _ e in
          rw (quad_reads (in_complement word_range z)) (signed_unsigned word_range z (omega arith));
    }

decimals_sound : Sound decimal_row
unfolding pair quad octet pair_at quad_from octet_at within
decimals_sound =
    record {
      sized = λ z e. refl;
      reads = λ z r e.
          let h : nat_abs z ≤ decimal_limit = leb-true _ _ e in
          rw (quad_reads (in_complement long_range z / 4294967296), quad_reads (in_complement long_range z % 4294967296), octet_reads (in_complement long_range z))
          (signed_unsigned long_range z (omega arith));
    }

strings_sound : Sound string_row
strings_sound =
    record {
      sized = λ t e.
          let h : length t ≤ 16 = leb-true _ _ (and_true (leb (length t) 16) (printable t) e).0 in
          simp (length-append, length-replicate) (omega arith);
      reads = λ t r e. ap (take (length t)) (append_assoc t (replicate (16 - length t) 0) r) ∙ take-append_seam t (replicate (16 - length t) 0 ++ r);
    }

row_sound : (v : Value) → Sound (kind_and_body v).kind
row_sound (A.number (Q.Integer z)) = integers_sound
row_sound (A.number (Q.Decimal z)) = decimals_sound
row_sound (string t) = strings_sound

row_found : (v : Value) → row_in kinds (kind_byte v) ≡ M.some (kind_and_body v).kind
unfolding kind_byte
row_found (A.number (Q.Integer z)) = refl
row_found (A.number (Q.Decimal z)) = refl
row_found (string t) = refl

row_value : (v : Value) → (kind_and_body v).kind.value (kind_and_body v).body ≡ v
row_value (A.number (Q.Integer z)) = refl
row_value (A.number (Q.Decimal z)) = refl
row_value (string t) = refl

-- ---- a cell read back

value_behind : (c : Cell) (r : List ℕ) → drop 8 (cell_bytes c ++ r) ≡ value_bytes c.value ++ r
unfolding cell_bytes key_bytes pair
value_behind c r = refl

value_reads : (v : Value) (r : List ℕ) → value_allowed v ≡ true → (kind_and_body v).kind.value ((kind_and_body v).kind.read (value_bytes v ++ r)) ≡ v
unfolding value_allowed value_bytes
value_reads v r e = ap (kind_and_body v).kind.value ((row_sound v).reads (kind_and_body v).body r e) ∙ row_value v

pub first_byte : (c : Cell) (r : List ℕ) → get_or (cell_bytes c ++ r) 0 0 ≡ kind_byte c.value
unfolding cell_bytes
first_byte c r = refl

pub cell_reads : (c : Cell) (r : List ℕ) → value_allowed c.value ≡ true → cell_of (cell_bytes c ++ r) ≡ Some c
unfolding cell_of cell_by
cell_reads c r e =
    let k : Kind = (kind_and_body c.value).kind in
    let v : k.value (k.read (drop 8 (cell_bytes c ++ r))) ≡ c.value = ap (λ (s : List ℕ). k.value (k.read s)) (value_behind c r) ∙ value_reads c.value r e in
    ap (λ (o : M.Option Kind). cell_by o (cell_bytes c ++ r)) (ap (row_in kinds) (first_byte c r) ∙ row_found c.value) ∙ (λ i. Some (record { key = cell_key c r i; value = v i }))

-- the cell whose bytes a list begins with is read, and only that
pub key_allowed_law : (c : Cell) → cell_allowed c ≡ true → key_allowed c.key ≡ true
unfolding cell_allowed
key_allowed_law c e = (and_true _ (value_allowed c.value) e).0

pub value_allowed_law : (c : Cell) → cell_allowed c ≡ true → value_allowed c.value ≡ true
unfolding cell_allowed
value_allowed_law c e = (and_true (key_allowed c.key) _ e).1

pub front_cell : (c : Cell) (r : List ℕ) → cell_allowed c ≡ true → front (cell_bytes c ++ r) ≡ Some c
unfolding front passing
front_cell c r e =
    ap (passing (λ b. begins b (cell_bytes c ++ r))) (cell_reads c r (value_allowed_law c e)) ∙ rw (e, begins_self (cell_bytes c) r)

pub passing_some : (test : List ℕ → Bool) (o : Option Cell) (c : Cell) → passing test o ≡ Some c → (cell_allowed c ≡ true) × (test (cell_bytes c) ≡ true)
unfolding passing
passing_some test None c e = let z : ◌≡◌ {A = ℕ} 0 1 = cc in absurd (omega arith)
passing_some test (Some d) c e = go (cell_allowed d && test (cell_bytes d)) refl e
  where
    go : (t : Bool) → cell_allowed d && test (cell_bytes d) ≡ t → cond t (Some d) None ≡ Some c → (cell_allowed c ≡ true) × (test (cell_bytes c) ≡ true)
    go true t q = let w : d ≡ c = cc in subst (λ (x : Cell). (cell_allowed x ≡ true) × (test (cell_bytes x) ≡ true)) w (and_true _ _ t)
    go false t q = let z : ◌≡◌ {A = ℕ} 0 1 = cc in absurd (omega arith)

pub record Front (s : List ℕ) (c : Cell) : Type 0 where
  pub allowed : cell_allowed c ≡ true
  pub bytes : s ≡ cell_bytes c ++ drop (length (cell_bytes c)) s

pub front_some : (s : List ℕ) (c : Cell) → front s ≡ Some c → Front s c
unfolding front
front_some s c e = let h = passing_some (λ b. begins b s) (cell_of s) c e in record { allowed = h.0; bytes = begins_says _ _ h.1 }

pub cell_size : (k : Key) (v : Value) → value_allowed v ≡ true → length (cell_bytes (record { key = k; value = v })) ≡ size_of (kind_byte v)
unfolding cell_bytes key_bytes value_bytes pair size_of size_by value_allowed
cell_size k v e = rw (row_found v) (omega (arith, (row_sound v).sized (kind_and_body v).body e))

pub known_kind : (v : Value) → 0 < size_of (kind_byte v)
unfolding size_of size_by
known_kind v = rw (row_found v) (omega arith)

-- a string's length stands behind the key
pub string_short : (k : Key) (v : Value) (r : List ℕ) → value_allowed v ≡ true → (kind_byte v ≡ integer_kind → ⊥) → (kind_byte v ≡ decimal_kind → ⊥) → get_or (cell_bytes (record { key = k; value = v }) ++ r) 8 0 ≤ 16
unfolding cell_bytes key_bytes value_bytes pair kind_byte value_allowed
string_short k (A.number (Q.Integer z)) r e j h = absurd (j refl)
string_short k (A.number (Q.Decimal z)) r e j h = absurd (h refl)
string_short k (string s) r e j h = leb-true _ _ (and_true _ _ e).0

-- ---- the tests that the code makes

pub record Formed (s : List ℕ) : Type 0 where
  pub known : 0 < size_of (get_or s 0 0)
  pub fits : size_of (get_or s 0 0) ≤ length s
  pub key : key_allowed (key_at s 1) ≡ true
  pub value : value_formed s ≡ true

-- s begins with a cell that has the key at 1
record FrontOf (s : List ℕ) : Type 0 where
  value : Value
  read : front s ≡ Some (record { key = key_at s 1; value = value })

zeros_are : (s : List ℕ) (n : ℕ) → length s ≡ n → zeros s ≡ true → replicate n 0 ≡ s
unfolding each between
zeros_are [] n h e = rw (sym h)
zeros_are (b ∷ s) n h e =
    let t = and_true (leb 0 b && leb b 0) (zeros s) e in
    let z : 0 ≡ b = omega (arith, leb-true b 0 (and_true (leb 0 b) (leb b 0) t.0).1) in
    rw (sym h) (ap₂ (λ (a : ℕ) (l : List ℕ). a ∷ l) z (zeros_are s (length s) refl t.1))

zeros_of : (n : ℕ) → zeros (replicate n 0) ≡ true
unfolding each between
zeros_of zero = refl
zeros_of (suc n) = zeros_of n

module _ (s : List ℕ) (bytes : Bytes s) where
  pub key_back : (i : ℕ) → i + 7 ≤ length s → key_bytes (key_at s i) ++ drop (i + 7) s ≡ drop i s
  unfolding key_bytes key_at
  key_back i h =
      let two : (j k : ℕ) → k ≡ j + 2 → j + 2 ≤ length s → pair (pair_at s j) ++ drop k s ≡ drop j s =
      λ j k e l. ap (λ (n : ℕ). pair (pair_at s j) ++ drop n s) e ∙ pair_back s bytes j l in
      rw (append_assoc (pair (pair_at s (i + 1))) (pair (pair_at s (i + 3)) ++ pair (pair_at s (i + 5))) (drop (i + 7) s), append_assoc (pair (pair_at s (i + 3))) (pair (pair_at s (i + 5))) (drop (i + 7) s), two (i + 5) (i + 7) (omega arith) (omega arith), two (i + 3) (i + 5) (omega arith) (omega arith), two (i + 1) (i + 3) (omega arith) (omega arith))
      (sym (next s i (omega arith)))

  -- a value v whose bytes stand behind the key
  cell_back : (v : Value) (n : ℕ) → 8 ≤ length s → kind_byte v ≡ get_or s 0 0 → value_bytes v ++ drop n s ≡ drop 8 s → cell_bytes (record { key = key_at s 1; value = v }) ++ drop n s ≡ s
  unfolding cell_bytes
  cell_back v n h k e =
      rw (append_assoc (key_bytes (key_at s 1)) (value_bytes v) (drop n s), e, k, key_back 1 (omega arith))
      (sym (next s 0 (omega arith)))

  read_front : (v : Value) (n : ℕ) → 8 ≤ length s → kind_byte v ≡ get_or s 0 0 → value_bytes v ++ drop n s ≡ drop 8 s → key_allowed (key_at s 1) ≡ true → value_allowed v ≡ true → FrontOf s
  unfolding cell_allowed
  read_front v n h k e a b =
      record { value = v; read = ap front (sym (cell_back v n h k e)) ∙ front_cell (record { key = key_at s 1; value = v }) (drop n s) (both a b) }

  formed_integer : get_or s 0 0 ≡ integer_kind → 12 ≤ length s → key_allowed (key_at s 1) ≡ true → within integer_limit (from_complement word_range (quad_from s 8)) ≡ true → FrontOf s
  unfolding kind_byte value_bytes value_allowed
  formed_integer k h a e =
      read_front (integer (from_complement word_range (quad_from s 8))) 12 (omega arith) (sym k) (rw (unsigned_signed word_range (quad_from s 8) (quad_below s bytes 8)) (quad_back s bytes 8 (omega arith))) a e

  formed_decimal : get_or s 0 0 ≡ decimal_kind → 16 ≤ length s → key_allowed (key_at s 1) ≡ true → within decimal_limit (from_complement long_range (octet_at s 8)) ≡ true → FrontOf s
  unfolding kind_byte value_bytes value_allowed
  formed_decimal k h a e =
      read_front (decimal (from_complement long_range (octet_at s 8))) 16 (omega arith) (sym k) (rw (unsigned_signed long_range (octet_at s 8) (octet_below s bytes 8)) (octet_back s bytes 8 (omega arith))) a e

  formed_string : get_or s 0 0 ≡ string_kind → 25 ≤ length s → key_allowed (key_at s 1) ≡ true → string_formed s ≡ true → FrontOf s
  unfolding kind_byte value_bytes value_allowed string_formed
  formed_string k h a e =
      let n = get_or s 8 0 in
      let t = and_true (leb n 16) (printable (take n (drop 9 s)) && zeros (take (16 - n) (drop (9 + n) s))) e in
      let u = and_true (printable (take n (drop 9 s))) (zeros (take (16 - n) (drop (9 + n) s))) t.1 in
      let l : n ≤ 16 = leb-true _ _ t.0 in
      let m : length (take n (drop 9 s)) ≡ n = length-take-le n (drop 9 s) (omega (arith, length-drop 9 s)) in
      let o : length (take (16 - n) (drop (9 + n) s)) ≡ 16 - n = length-take-le (16 - n) (drop (9 + n) s) (omega (arith, length-drop (9 + n) s)) in
      let z : replicate (16 - n) 0 ≡ take (16 - n) (drop (9 + n) s) = zeros_are (take (16 - n) (drop (9 + n) s)) (16 - n) o u.1 in
      let j : 9 + n + (16 - n) ≡ 25 = omega arith in
      let r : drop 25 s ≡ drop (16 - n) (drop (9 + n) s) = ap (λ (i : ℕ). drop i s) (sym j) ∙ sym (drop-drop (16 - n) (9 + n) s) in
      let q : take n (drop 9 s) ++ drop (9 + n) s ≡ drop 9 s = ap (λ (x : List ℕ). take n (drop 9 s) ++ x) (sym (drop-drop n 9 s)) ∙ take-append-drop n (drop 9 s) in
      let w : replicate (16 - n) 0 ++ drop 25 s ≡ drop (9 + n) s = ap₂ (λ (x y : List ℕ). x ++ y) z r ∙ take-append-drop (16 - n) (drop (9 + n) s) in
      read_front (string (take n (drop 9 s))) 25 (omega arith) (sym k)
      (rw (m, append_assoc (take n (drop 9 s)) (replicate (16 - n) 0) (drop 25 s), w, q) (sym (next s 8 (omega arith))))
      a
      (rw m (both t.0 u.0))

  formed_front : Formed s → FrontOf s
  unfolding size_of size_by value_formed
  formed_front f = go (eqb (get_or s 0 0) integer_kind) refl (eqb (get_or s 0 0) decimal_kind) refl (eqb (get_or s 0 0) string_kind) refl
    where
      go : (p : Bool) → eqb (get_or s 0 0) integer_kind ≡ p → (q : Bool) → eqb (get_or s 0 0) decimal_kind ≡ q → (r : Bool) → eqb (get_or s 0 0) string_kind ≡ r → FrontOf s
      go true e q e₁ r e₂ = formed_integer (eqb-true _ _ e) (rw e at f.fits) f.key (rw e at f.value)
      go false e true e₁ r e₂ = formed_decimal (eqb-true _ _ e₁) (rw (e, e₁) at f.fits) f.key (rw (e, e₁) at f.value)
      go false e false e₁ true e₂ = formed_string (eqb-true _ _ e₂) (rw (e, e₁, e₂) at f.fits) f.key (rw (e, e₁) at f.value)
      go false e false e₁ false e₂ = let z : 0 < 0 = rw (e, e₁, e₂) at f.known in absurd (omega arith)

-- ---- a cell's bytes pass the tests

text_formed : (b s r : List ℕ) → drop 9 b ≡ s ++ (replicate (16 - length s) 0 ++ r) → get_or b 8 0 ≡ length s → leb (length s) 16 ≡ true → printable s ≡ true → string_formed b ≡ true
unfolding string_formed
text_formed b s r e n l p =
    let z : List ℕ = replicate (16 - length s) 0 in
    let f : take (length s) (drop 9 b) ≡ s = ap (take (length s)) e ∙ take-append_seam s (z ++ r) in
    let g : drop (9 + length s) b ≡ z ++ r = sym (drop-drop (length s) 9 b) ∙ ap (drop (length s)) e ∙ drop-append_seam s (z ++ r) in
    let h : take (16 - length s) (z ++ r) ≡ z = take_at z r (16 - length s) (length-replicate (16 - length s) 0) in
    rw (n, f, g, h) (both l (both p (zeros_of (16 - length s))))

module _ (k : Key) (r : List ℕ) where
  abbrev laid : Value → List ℕ
  laid v = cell_bytes (record { key = k; value = v }) ++ r

  read_integer : (z : ℤ) → value_allowed (integer z) ≡ true → from_complement word_range (quad_from (laid (integer z)) 8) ≡ z
  unfolding value_allowed value_bytes
  read_integer z e =
      ap (from_complement word_range) (sym (quad_at (laid (integer z)) 8 0) ∙ ap (λ (l : List ℕ). quad_from l 0) (value_behind (record { key = k; value = integer z }) r)) ∙ integers_sound.reads z r e

  read_decimal : (z : ℤ) → value_allowed (decimal z) ≡ true → from_complement long_range (octet_at (laid (decimal z)) 8) ≡ z
  unfolding value_allowed value_bytes
  read_decimal z e =
      ap (from_complement long_range) (sym (octet_at_law (laid (decimal z)) 8 0) ∙ ap (λ (l : List ℕ). octet_at l 0) (value_behind (record { key = k; value = decimal z }) r)) ∙ decimals_sound.reads z r e

  formed_text : (s : List ℕ) → value_allowed (string s) ≡ true → string_formed (laid (string s)) ≡ true
  unfolding value_allowed cell_bytes kind_byte key_bytes value_bytes pair
  formed_text s e =
      let t = and_true (leb (length s) 16) (printable s) e in
      text_formed (laid (string s)) s r (append_assoc s (replicate (16 - length s) 0) r) refl t.0 t.1

  formed_value : (v : Value) → value_allowed v ≡ true → value_formed (laid v) ≡ true
  unfolding value_formed kind_byte value_allowed
  formed_value (A.number (Q.Integer z)) e = rw (first_byte (record { key = k; value = integer z }) r, read_integer z e) e
  formed_value (A.number (Q.Decimal z)) e = rw (first_byte (record { key = k; value = decimal z }) r, read_decimal z e) e
  formed_value (string s) e = rw (first_byte (record { key = k; value = string s }) r) (formed_text s e)

  cell_formed : (v : Value) → key_allowed k ≡ true → value_allowed v ≡ true → Formed (laid v)
  cell_formed v a b =
      record {
        known = rw (first_byte (record { key = k; value = v }) r) (known_kind v);
        fits = rw (first_byte (record { key = k; value = v }) r) (omega (arith, length-append (cell_bytes (record { key = k; value = v })) r, cell_size k v b));
        key = rw (cell_key (record { key = k; value = v }) r) a;
        value = formed_value v b;
      }

pub front_formed : (s : List ℕ) (c : Cell) → front s ≡ Some c → Formed s
front_formed s c e =
    let f = front_some s c e in
    subst Formed (sym f.bytes) (cell_formed c.key (drop (length (cell_bytes c)) s) c.value (key_allowed_law c f.allowed) (value_allowed_law c f.allowed))

-- ---- the size of the cell

-- a kind that is none of the others is the last
pub string_row_law : (k : ℕ) → (k ≡ integer_kind → ⊥) → (k ≡ decimal_kind → ⊥) → 0 < size_of k → row_in kinds k ≡ M.some string_row
unfolding size_of size_by
string_row_law k a b h = go (eqb k string_kind) refl
  where
    go : (t : Bool) → eqb k string_kind ≡ t → row_in kinds k ≡ M.some string_row
    go true e = rw (ne_eqb _ _ a, ne_eqb _ _ b, e)
    go false e = let z : 0 < 0 = rw (ne_eqb _ _ a, ne_eqb _ _ b, e) at h in absurd (omega arith)

pub size_string : (k : ℕ) → (k ≡ integer_kind → ⊥) → (k ≡ decimal_kind → ⊥) → 0 < size_of k → size_of k ≡ 25
unfolding size_of size_by
size_string k a b h = ap size_by (string_row_law k a b h)

pub size_least : (k : ℕ) → 0 < size_of k → 12 ≤ size_of k
unfolding size_of size_by
size_least k h = go (eqb k integer_kind) (eqb k decimal_kind) (eqb k string_kind) h
  where
    go : (p q r : Bool) → 0 < size_by (cond p (M.some integer_row) (cond q (M.some decimal_row) (cond r (M.some string_row) M.none))) → 12 ≤ size_by (cond p (M.some integer_row) (cond q (M.some decimal_row) (cond r (M.some string_row) M.none)))
    go true q r h = omega arith
    go false true r h = omega arith
    go false false true h = omega arith
    go false false false h = absurd (omega arith)

pub size_most : (k : ℕ) → size_of k ≤ 25
unfolding size_of size_by
size_most k = go (eqb k integer_kind) (eqb k decimal_kind) (eqb k string_kind)
  where
    go : (p q r : Bool) → size_by (cond p (M.some integer_row) (cond q (M.some decimal_row) (cond r (M.some string_row) M.none))) ≤ 25
    go true q r = omega arith
    go false true r = omega arith
    go false false true = omega arith
    go false false false = omega arith

-- ---- the kinds of the code

module _ (b : ℕ) where
  pub kind_none : kind_of b ≡ None → size_of b ≡ 0
  unfolding kind_of size_of size_by
  kind_none e = go (eqb b integer_kind) (eqb b decimal_kind) (eqb b string_kind) e
    where
      go : (p q r : Bool) → cond p (Some K.Integer) (cond q (Some K.Decimal) (cond r (Some K.String) None)) ≡ None → size_by (cond p (M.some integer_row) (cond q (M.some decimal_row) (cond r (M.some string_row) M.none))) ≡ 0
      go true q r e = absurd (let z : ◌≡◌ {A = ℕ} 0 1 = cc in omega arith)
      go false true r e = absurd (let z : ◌≡◌ {A = ℕ} 0 1 = cc in omega arith)
      go false false true e = absurd (let z : ◌≡◌ {A = ℕ} 0 1 = cc in omega arith)
      go false false false e = refl

  pub kind_some : (k : ValueKind) → kind_of b ≡ Some k → size_of b ≡ kind_size k
  unfolding kind_of kind_size size_of size_by
  kind_some k e = go (eqb b integer_kind) (eqb b decimal_kind) (eqb b string_kind) e
    where
      go : (p q r : Bool) → cond p (Some K.Integer) (cond q (Some K.Decimal) (cond r (Some K.String) None)) ≡ Some k → size_by (cond p (M.some integer_row) (cond q (M.some decimal_row) (cond r (M.some string_row) M.none))) ≡ kind_size k
      go true q r e = let z : K.Integer ≡ k = cc in ap kind_size z
      go false true r e = let z : K.Decimal ≡ k = cc in ap kind_size z
      go false false true e = let z : K.String ≡ k = cc in ap kind_size z
      go false false false e = absurd (let z : ◌≡◌ {A = ℕ} 0 1 = cc in omega arith)

  pub kind_integer : kind_of b ≡ Some K.Integer → b ≡ integer_kind
  unfolding kind_of
  kind_integer e = go (eqb b integer_kind) refl (eqb b decimal_kind) (eqb b string_kind) e
    where
      go : (p : Bool) → eqb b integer_kind ≡ p → (q r : Bool) → cond p (Some K.Integer) (cond q (Some K.Decimal) (cond r (Some K.String) None)) ≡ Some K.Integer → b ≡ integer_kind
      go true h q r e = eqb-true _ _ h
      go false h true r e = absurd (let z : ◌≡◌ {A = ℕ} 0 1 = cc in omega arith)
      go false h false true e = absurd (let z : ◌≡◌ {A = ℕ} 0 1 = cc in omega arith)
      go false h false false e = absurd (let z : ◌≡◌ {A = ℕ} 0 1 = cc in omega arith)

  not_eqb : (m : ℕ) → eqb b m ≡ false → b ≡ m → ⊥
  not_eqb m h e = false≢true (sym h ∙ eq-eqb b m e)

  pub kind_decimal : kind_of b ≡ Some K.Decimal → (b ≡ integer_kind → ⊥) × (b ≡ decimal_kind)
  unfolding kind_of
  kind_decimal e = go (eqb b integer_kind) refl (eqb b decimal_kind) refl (eqb b string_kind) e
    where
      go : (p : Bool) → eqb b integer_kind ≡ p → (q : Bool) → eqb b decimal_kind ≡ q → (r : Bool) → cond p (Some K.Integer) (cond q (Some K.Decimal) (cond r (Some K.String) None)) ≡ Some K.Decimal → (b ≡ integer_kind → ⊥) × (b ≡ decimal_kind)
      go true h q i r e = absurd (let z : ◌≡◌ {A = ℕ} 0 1 = cc in omega arith)
      go false h true i r e = (not_eqb integer_kind h, eqb-true _ _ i)
      go false h false i true e = absurd (let z : ◌≡◌ {A = ℕ} 0 1 = cc in omega arith)
      go false h false i false e = absurd (let z : ◌≡◌ {A = ℕ} 0 1 = cc in omega arith)

  pub kind_string : kind_of b ≡ Some K.String → (b ≡ integer_kind → ⊥) × (b ≡ decimal_kind → ⊥)
  unfolding kind_of
  kind_string e = go (eqb b integer_kind) refl (eqb b decimal_kind) refl (eqb b string_kind) e
    where
      go : (p : Bool) → eqb b integer_kind ≡ p → (q : Bool) → eqb b decimal_kind ≡ q → (r : Bool) → cond p (Some K.Integer) (cond q (Some K.Decimal) (cond r (Some K.String) None)) ≡ Some K.String → (b ≡ integer_kind → ⊥) × (b ≡ decimal_kind → ⊥)
      go true h q i r e = absurd (let z : ◌≡◌ {A = ℕ} 0 1 = cc in omega arith)
      go false h true i r e = absurd (let z : ◌≡◌ {A = ℕ} 0 1 = cc in omega arith)
      go false h false i r e = (not_eqb integer_kind h, not_eqb decimal_kind i)

pub kind_least : (k : ValueKind) → 12 ≤ kind_size k
unfolding kind_size
kind_least K.Integer = omega arith
kind_least K.Decimal = omega arith
kind_least K.String = omega arith

pub front_none : (s : List ℕ) (r : Option ℕ) → FrontSized s r → r ≡ None → Sized s 0
unfolding FrontSized
front_none s r f e = rw e at f

pub front_sized : (s : List ℕ) (r : Option ℕ) (n : ℕ) → FrontSized s r → r ≡ Some n → Sized s n × (0 < n)
unfolding FrontSized
front_sized s r n f e = rw e at f

-- the answers of `cell_size`
module _ (s : List ℕ) where
  pub no_cell : (Formed s → ⊥) → Sized s 0
  unfolding front_size size_found
  no_cell n = record { size = go (front s) refl; inside = omega arith; least = λ h. absurd (omega arith) }
    where
      go : (o : Option Cell) → front s ≡ o → 0 ≡ size_found o
      go None e = refl
      go (Some c) e = absurd (n (front_formed s c e))

  pub one_cell : Bytes s → Formed s → Sized s (size_of (get_or s 0 0))
  unfolding front_size size_found
  one_cell b f =
      let h = formed_front s b f in
      let c : Cell = record { key = key_at s 1; value = h.value } in
      let g = front_some s c h.read in
      record {
        size = rw h.read (ap (λ (x : List ℕ). size_of (get_or x 0 0)) g.bytes ∙ ap size_of (first_byte c (drop (length (cell_bytes c)) s)) ∙ sym (cell_size c.key c.value (value_allowed_law c g.allowed)));
        inside = f.fits;
        least = size_least _;
      }

  unknown_front : (Formed s → ⊥) → FrontSized s None
  unfolding FrontSized
  unknown_front n = no_cell n

  pub unknown_kind : kind_of (get_or s 0 0) ≡ None → FrontSized s None
  unknown_kind e = unknown_front (λ f. omega (arith, f.known, kind_none _ e))

  module _ (k : ValueKind) (e : kind_of (get_or s 0 0) ≡ Some k) (n : ℕ) (m : n ≡ kind_size k) where
    pub cut_short : length s < n → FrontSized s None
    cut_short h = unknown_front (λ f. omega (arith, f.fits, kind_some _ k e))

    pub room_for_key : n ≤ length s → 8 ≤ length s
    room_for_key h = omega (arith, kind_least k)

    pub refused_key : (r : Bool) → r ≡ key_allowed (key_at s 1) → r ≡ false → FrontSized s None
    refused_key r x y = unknown_front (λ f. false≢true (sym y ∙ x ∙ f.key))

    pub refused_value : (r : Bool) → r ≡ value_formed s → r ≡ false → FrontSized s None
    refused_value r x y = unknown_front (λ f. false≢true (sym y ∙ x ∙ f.value))

    pub sized_cell : Bytes s → n ≤ length s → (r : Bool) → r ≡ key_allowed (key_at s 1) → r ≡ true → (q : Bool) → q ≡ value_formed s → q ≡ true → FrontSized s (Some n)
    unfolding FrontSized
    sized_cell b h r x y q v w =
        let l : size_of (get_or s 0 0) ≡ n = kind_some _ k e ∙ sym m in
        (rw (sym l) (one_cell b (record { known = omega (arith, kind_least k); fits = omega arith; key = sym x ∙ y; value = sym v ∙ w })), omega (arith, kind_least k))
