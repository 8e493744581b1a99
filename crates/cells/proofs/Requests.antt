-- What an edit is handed: the tests of the code, and the definitions.
use Rattle.std.specs.Prelude.{Some, None, Option}
use Rattle.std.proofs.Common.{◌≡◌, ℕ, ◌+◌, ◌<◌, ◌≤◌, Bool, true, false, cond, ◌&&◌, eqb, List, [], ◌++◌, length, sym, refl, ap, ◌∙◌, subst, append-nil, arith, drop_of_length-le, eq-eqb, eqb-true}
use mathlib.Core.Bool.{false≢true}
use Rattle.cells.specs.Bytes.{begins, equal_bytes}
use Rattle.cells.specs.Cell.{Key, Cell, key_as_number, key_allowed, key_at, key_bytes, cell_allowed, cell_bytes, cell_of, kind_byte, passing, front, whole_cell, whole_key}
use Rattle.cells.specs.Inner.Tests.{size_found, front_size, Sized}
use Rattle.cells.specs.Inner.Request.{requested, requested_key, CellAsked, KeyAsked}
use Rattle.cells.proofs.BigEndian.{Bytes, and_true, both, begins_self, begins_says}
use Rattle.cells.proofs.CellForm.{passing_some, front_some, front_cell, cell_reads, value_allowed_law, cell_key, key_back, length_key, key_reads, cell_size, size_most}
use Rattle.cells.proofs.Walking.{size_found_law, size_none}
use Rattle.cells.proofs.Runs.{some_inj, none_some, cell_some}

-- s is the bytes of a cell within the limits
pub record Whole (s : List ℕ) (c : Cell) : Type 0 where
  pub allowed : cell_allowed c ≡ true
  pub bytes : s ≡ cell_bytes c

same_says : (p s : List ℕ) → equal_bytes p s ≡ true → s ≡ p
unfolding equal_bytes
same_says p s e =
    let t = and_true (begins p s) (eqb (length p) (length s)) e in
    let l : length p ≡ length s = eqb-true _ _ t.1 in
    begins_says p s t.0 ∙ ap (λ (x : List ℕ). p ++ x) (drop_of_length-le s {i = length p} (omega arith)) ∙ append-nil p

same_self : (p : List ℕ) → equal_bytes p p ≡ true
unfolding equal_bytes
same_self p = both (ap (begins p) (sym (append-nil p)) ∙ begins_self p []) (eq-eqb (length p) (length p) refl)

pub whole_some : (s : List ℕ) (c : Cell) → whole_cell s ≡ Some c → Whole s c
unfolding whole_cell
whole_some s c e = let h = passing_some (λ b. equal_bytes b s) (cell_of s) c e in record { allowed = h.0; bytes = same_says _ _ h.1 }

pub whole_cell_law : (c : Cell) → cell_allowed c ≡ true → whole_cell (cell_bytes c) ≡ Some c
unfolding whole_cell passing
whole_cell_law c e =
    ap (passing (λ b. equal_bytes b (cell_bytes c))) (ap cell_of (sym (append-nil (cell_bytes c))) ∙ cell_reads c [] (value_allowed_law c e)) ∙ rw (e, same_self (cell_bytes c))

no_whole : (s : List ℕ) → ((c : Cell) → Whole s c → ⊥) → CellAsked s (whole_cell s) None
unfolding requested
no_whole s n = go (whole_cell s) refl
  where
    go : (o : Option Cell) → whole_cell s ≡ o → CellAsked s o None
    go None e = record { told = refl; short = λ c q. absurd (none_some q) }
    go (Some c) e = absurd (n c (whole_some s c e))

-- the answers of `cell_request`
module _ (s : List ℕ) (size : ℕ) (z : Sized s size) where
  size_is : (c : Cell) → Whole s c → size ≡ length (cell_bytes c)
  unfolding front_size size_found
  size_is c w = z.size ∙ ap size_found (ap front (w.bytes ∙ sym (append-nil (cell_bytes c))) ∙ front_cell c [] w.allowed)

  pub request_none : size < 1 → CellAsked s (whole_cell s) None
  request_none h = no_whole s (λ c w. omega (arith, size_is c w, cell_some c))

  pub request_more : size < length s → CellAsked s (whole_cell s) None
  request_more h = no_whole s (λ c w. omega (arith, size_is c w, ap length w.bytes))

  pub request_cell : 1 ≤ size → length s ≤ size → (key : ℕ) → key ≡ key_as_number (key_at s 1) → CellAsked s (whole_cell s) (Some key)
  unfolding requested
  request_cell h l key k = go (front s) refl
    where
      found : (c : Cell) → s ≡ cell_bytes c → cell_allowed c ≡ true → CellAsked s (whole_cell s) (Some key)
      found c e a =
          rw (ap whole_cell e ∙ whole_cell_law c a)
          (record {
            told = ap Some (k ∙ ap (λ (x : List ℕ). key_as_number (key_at x 1)) (e ∙ sym (append-nil (cell_bytes c))) ∙ ap key_as_number (cell_key c []));
            short = λ d q. omega (arith, ap length e, cell_size c.key c.value (value_allowed_law c a), size_most (kind_byte c.value));
          })

      go : (o : Option Cell) → front s ≡ o → CellAsked s (whole_cell s) (Some key)
      go None e = absurd (omega (arith, size_none s size z.size e))
      go (Some c) e =
          let f = front_some s c e in
          let n : size ≡ length (cell_bytes c) = size_found_law s size c z.size e in
          found c (f.bytes ∙ ap (λ (x : List ℕ). cell_bytes c ++ x) (drop_of_length-le s {i = length (cell_bytes c)} (omega arith)) ∙ append-nil (cell_bytes c)) f.allowed

-- ---- keys

pub record WholeKey (s : List ℕ) (k : Key) : Type 0 where
  pub allowed : key_allowed k ≡ true
  pub bytes : s ≡ key_bytes k

pub key_some : (s : List ℕ) (k : Key) → whole_key s ≡ Some k → WholeKey s k
unfolding whole_key
key_some s k e = go (key_allowed (key_at s 0) && equal_bytes (key_bytes (key_at s 0)) s) refl e
  where
    go : (t : Bool) → key_allowed (key_at s 0) && equal_bytes (key_bytes (key_at s 0)) s ≡ t → cond t (Some (key_at s 0)) None ≡ Some k → WholeKey s k
    go true t q =
        let h = and_true (key_allowed (key_at s 0)) (equal_bytes (key_bytes (key_at s 0)) s) t in
        subst (WholeKey s) (some_inj q) (record { allowed = h.0; bytes = same_says _ _ h.1 })
    go false t q = absurd (none_some q)

-- reading is the inverse of writing: a key's bytes are that key's, and no other's (`key_some`)
pub whole_key_law : (k : Key) → key_allowed k ≡ true → whole_key (key_bytes k) ≡ Some k
unfolding whole_key
whole_key_law k e =
    ap (λ (x : Key). cond (key_allowed x && equal_bytes (key_bytes x) (key_bytes k)) (Some x) None) (ap (λ (s : List ℕ). key_at s 0) (sym (append-nil (key_bytes k))) ∙ key_reads k [])
    ∙ rw (e, same_self (key_bytes k))

no_key : (s : List ℕ) → ((k : Key) → WholeKey s k → ⊥) → KeyAsked (whole_key s) None
unfolding requested_key
no_key s n = go (whole_key s) refl
  where
    go : (o : Option Key) → whole_key s ≡ o → KeyAsked o None
    go None e = record { told = refl }
    go (Some k) e = absurd (n k (key_some s k e))

-- the answers of `key_request`
module _ (s : List ℕ) where
  key_length : (k : Key) → WholeKey s k → length s ≡ 7
  key_length k w = ap length w.bytes ∙ length_key k

  pub key_unlike : (length s ≡ 7 → ⊥) → KeyAsked (whole_key s) None
  key_unlike h = no_key s (λ k w. h (key_length k w))

  module _ (t : Bool) (a : t ≡ key_allowed (key_at s 0)) where
    pub key_out : t ≡ false → KeyAsked (whole_key s) None
    key_out n =
        no_key s (λ k w. false≢true (sym n ∙ a ∙ ap (λ (x : List ℕ). key_allowed (key_at x 0)) (w.bytes ∙ sym (append-nil (key_bytes k))) ∙ ap key_allowed (key_reads k []) ∙ w.allowed))

    pub key_in : t ≡ true → Bytes s → 7 ≤ length s → length s ≤ 7 → (key : ℕ) → key ≡ key_as_number (key_at s 0) → KeyAsked (whole_key s) (Some key)
    unfolding whole_key requested_key
    key_in n b h l key k =
        let e : key_bytes (key_at s 0) ≡ s = sym (append-nil (key_bytes (key_at s 0))) ∙ ap (λ (x : List ℕ). key_bytes (key_at s 0) ++ x) (sym (drop_of_length-le s {i = 0 + 7} (omega arith))) ∙ key_back s b 0 (omega arith) in
        rw (sym a ∙ n, ap (λ (x : List ℕ). equal_bytes x s) e ∙ same_self s) (record { told = ap Some k })
