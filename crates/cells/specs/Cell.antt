-- "A cell is one byte of kind, a 7-byte key, a value."
use Rattle.std.specs.Prelude.{ℕ, ◌+◌, ◌-◌, ◌*◌, Bool, true, cond, ◌&&◌, List, [], ◌∷◌, ◌++◌, length, take, drop, replicate, ℤ, ◌==◌, nat_le, slice_index, Option, Some, None}
use Rattle.std.proofs.Math.Option as M
use Rattle.meaning.specs.Answer.{Value, integer, decimal, string}
use Rattle.meaning.specs.Answer as A
use Rattle.numbers.specs.declared.Quantity.TheVariants as Q
use Rattle.numbers.specs.Range.{integer_limit, decimal_limit, within}
use Rattle.cells.specs.Bytes.{pair, quad, octet, pair_at, quad_from, octet_at, in_complement, from_complement, word_range, long_range, begins, equal_bytes}

-- "Key: datasource 1–35 (1 byte), parameter 1–65,535, record 0–999, entry 0–999 (2 bytes each)."
pub record Key : Type 0 where
  pub datasource : ℕ
  pub parameter : ℕ
  pub record_number : ℕ
  pub entry_number : ℕ

-- a key by its four numbers
abbrev pub key_of : ℕ → ℕ → ℕ → ℕ → Key
key_of d p r e = record { datasource = d; parameter = p; record_number = r; entry_number = e }

-- n lies within low–high
unfoldable pub between : ℕ → ℕ → ℕ → Bool
between low high n = nat_le low n && nat_le n high

-- "datasource 1–35 (1 byte), parameter 1–65,535, record 0–999, entry 0–999 (2 bytes each)"
unfoldable pub key_allowed : Key → Bool
key_allowed k =
    between 1 35 k.datasource && (between 1 65535 k.parameter && (nat_le k.record_number 999 && nat_le k.entry_number 999))

unfoldable pub key_bytes : Key → List ℕ
key_bytes k = k.datasource ∷ (pair k.parameter ++ (pair k.record_number ++ pair k.entry_number))

-- the 7 bytes of a key as one big-endian number: the order of keys
unfoldable pub key_as_number : Key → ℕ
key_as_number k = ((k.datasource * 65536 + k.parameter) * 65536 + k.record_number) * 65536 + k.entry_number

-- every byte passes a test
unfoldable pub each : (ℕ → Bool) → List ℕ → Bool
each p [] = true
each p (b ∷ s) = p b && each p s

-- "of 0x20–0x7E"
abbrev pub printable : List ℕ → Bool
printable s = each (between 32 126) s

-- ---- the kinds of cell

-- A row of the table of kinds.
pub record Kind : Type 1 where
  -- what a value of this kind holds, as one of the values
  pub Body : Type 0
  pub value : Body → Value
  -- "one byte of kind"
  pub byte : ℕ
  -- how many bytes a value has
  pub size : ℕ
  pub allowed : Body → Bool
  pub bytes : Body → List ℕ
  -- what the bytes of a value hold
  pub read : List ℕ → Body

-- "0x49 integer (4 bytes)"; "Values lie within ±2,000,000,000"
abbrev pub integer_row : Kind
integer_row =
    record {
      Body = ℤ;
      value = integer;
      byte = 73;
      size = 4;
      allowed = within integer_limit;
      bytes = λ z. quad (in_complement word_range z);
      read = λ s. from_complement word_range (quad_from s 0);
    }

-- "0x46 decimal (8 bytes, a count of millionths)"; "so within ±2×10^15 millionths"
abbrev pub decimal_row : Kind
decimal_row =
    record {
      Body = ℤ;
      value = decimal;
      byte = 70;
      size = 8;
      allowed = within decimal_limit;
      bytes = λ z. octet (in_complement long_range z);
      read = λ s. from_complement long_range (octet_at s 0);
    }

-- "0x53 string (a length 0–16, then 16 bytes: that many of 0x20–0x7E, the rest zero)"
abbrev pub string_row : Kind
string_row =
    record {
      Body = List ℕ;
      value = string;
      byte = 83;
      size = 17;
      allowed = λ t. nat_le (length t) 16 && printable t;
      bytes = λ t. length t ∷ (t ++ replicate (16 - length t) 0);
      read = λ s. take (slice_index s 0) (drop 1 s);
    }

-- "Kinds: 0x49 integer .., 0x46 decimal .., 0x53 string"
abbrev pub kinds : List Kind
kinds = integer_row ∷ decimal_row ∷ string_row ∷ []

-- the row with a byte of kind; a row holds a type, so the logic's own option holds the row
abbrev pub row_in : List Kind → ℕ → M.Option Kind
row_in [] b = M.none
row_in (k ∷ ks) b = cond (b == k.byte) (M.some k) (row_in ks b)

-- a value, as what its row holds
pub record Kinded : Type 1 where
  pub kind : Kind
  pub body : kind.Body

abbrev pub kind_and_body : Value → Kinded
kind_and_body (A.number (Q.Integer z)) = record { kind = integer_row; body = z }
kind_and_body (A.number (Q.Decimal z)) = record { kind = decimal_row; body = z }
kind_and_body (string t) = record { kind = string_row; body = t }

-- the columns of a value's row
unfoldable pub kind_byte : Value → ℕ
kind_byte v = (kind_and_body v).kind.byte

unfoldable pub value_allowed : Value → Bool
value_allowed v = (kind_and_body v).kind.allowed (kind_and_body v).body

unfoldable pub value_bytes : Value → List ℕ
value_bytes v = (kind_and_body v).kind.bytes (kind_and_body v).body

abbrev pub integer_kind : ℕ
integer_kind = integer_row.byte

abbrev pub decimal_kind : ℕ
decimal_kind = decimal_row.byte

abbrev pub string_kind : ℕ
string_kind = string_row.byte

-- ---- cells

-- "A cell is one byte of kind, a 7-byte key, a value": the kind is the value's
pub record Cell : Type 0 where
  pub key : Key
  pub value : Value

abbrev pub key_number : Cell → ℕ
key_number c = key_as_number c.key

unfoldable pub cell_allowed : Cell → Bool
cell_allowed c = key_allowed c.key && value_allowed c.value

unfoldable pub cell_bytes : Cell → List ℕ
cell_bytes c = kind_byte c.value ∷ (key_bytes c.key ++ value_bytes c.value)

-- The key at a place of the bytes, and the cell of a row: its key stands behind the byte of kind, its value behind the key.
unfoldable pub key_at : List ℕ → ℕ → Key
key_at s i = key_of (slice_index s i) (pair_at s (i + 1)) (pair_at s (i + 3)) (pair_at s (i + 5))

unfoldable pub cell_by : M.Option Kind → List ℕ → Option Cell
cell_by M.none s = None
cell_by (M.some k) s = Some (record { key = key_at s 1; value = k.value (k.read (drop 8 s)) })

-- the cell that s holds by its byte of kind
unfoldable pub cell_of : List ℕ → Option Cell
cell_of s = cell_by (row_in kinds (slice_index s 0)) s

-- a cell within the limits whose bytes pass a test, or none
unfoldable pub passing : (List ℕ → Bool) → Option Cell → Option Cell
passing test None = None
passing test (Some c) = cond (cell_allowed c && test (cell_bytes c)) (Some c) None

-- the cell within the limits whose bytes s begins with, or none
unfoldable pub front : List ℕ → Option Cell
front s = passing (λ b. begins b s) (cell_of s)

-- the cell within the limits, and the key, whose bytes are s, or none
unfoldable pub whole_cell : List ℕ → Option Cell
whole_cell s = passing (λ b. equal_bytes b s) (cell_of s)

unfoldable pub whole_key : List ℕ → Option Key
whole_key s = cond (key_allowed (key_at s 0) && equal_bytes (key_bytes (key_at s 0)) s) (Some (key_at s 0)) None
