-- Where the string that is answered begins, its bytes stand, inside the store.
use Rattle.std.specs.Prelude.{Option, Some, None}
use Rattle.std.proofs.Common.{◌≡◌, ℕ, ◌+◌, ◌-◌, ◌≤◌, Bool, true, false, cond, eqb, List, [], ◌∷◌, ◌++◌, length, take, drop, replicate, sym, refl, ap, ◌∙◌, subst, append_assoc, arith, length-append, take-append-drop, length-take-le, drop-drop, take_at}
use lib.Seq.{drop-append_seam}
use Rattle.meaning.specs.Answer.{Value, string, Answer, missing, cell, highest}
use Rattle.meaning.specs.Answer as A
use Rattle.meaning.specs.declared.question.Question.{Question}
use Rattle.meaning.specs.declared.refusal.Refusal.TheVariants.{BadRequest}
use Rattle.cells.specs.Bytes.{pair}
use Rattle.cells.specs.Cell.{Key, Cell, key_as_number, key_number, key_bytes, kind_byte, value_bytes, cell_bytes}
use Rattle.cells.specs.Store.{encode, cells_held}
use Rattle.cells.specs.Asking.{key_asked, question_allowed, lookup, found, query_answer, answer, answered_ask, refused_ask, replied, ask_of, cell_start, string_start}
use Rattle.cells.proofs.Questions.{by_query}
use Rattle.cells.proofs.Locating.{held_some}

-- a string that is answered stands at i, in the first n bytes of b
abbrev pub Stands : List ℕ → ℕ → ℕ → Answer → Type 0
Stands b n i missing = Unit {0}
Stands b n i (cell (A.number q)) = Unit {0}
Stands b n i (cell (string s)) = (take (length s) (drop i b) ≡ s) × (i + length s ≤ n)
Stands b n i (highest m) = Unit {0}

-- a string in its cell: behind kind, key and length
string_in_law : (k : Key) (s r : List ℕ) → take (length s) (drop 9 (cell_bytes (record { key = k; value = string s }) ++ r)) ≡ s
unfolding cell_bytes kind_byte key_bytes value_bytes pair
string_in_law k s r =
    ap (take (length s)) (append_assoc s (replicate (16 - length s) 0) r) ∙ take_at s (replicate (16 - length s) 0 ++ r) (length s) refl

string_long : (k : Key) (s : List ℕ) → 9 + length s ≤ length (cell_bytes (record { key = k; value = string s }))
unfolding cell_bytes kind_byte key_bytes value_bytes pair
string_long k s = omega (arith, length-append s (replicate (16 - length s) 0))

module _ (b : List ℕ) (n : ℕ) where
  moved : (a : Answer) {i j : ℕ} → i ≡ j → Stands b n i a → Stands b n j a
  moved a e s = subst (λ (x : ℕ). Stands b n x a) e s

  -- in the cell that begins at a place
  cell_stands : (at : ℕ) (c : Cell) (r : List ℕ) → drop at b ≡ cell_bytes c ++ r → at + length (cell_bytes c) ≤ n → Stands b n (at + 9) (cell c.value)
  cell_stands at c r e h = go c.key c.value e h
    where
      go : (k : Key) (v : Value) → drop at b ≡ cell_bytes (record { key = k; value = v }) ++ r → at + length (cell_bytes (record { key = k; value = v })) ≤ n → Stands b n (at + 9) (cell v)
      go k (A.number q) e h = tt
      go k (string s) e h =
          (ap (take (length s)) (sym (drop-drop 9 at b) ∙ ap (drop 9) e) ∙ string_in_law k s r, omega (arith, string_long k s))

  -- in the cells that begin there
  lookup_stands : (k at : ℕ) (cs : List Cell) (r : List ℕ) → drop at b ≡ encode cs ++ r → at + length (encode cs) ≤ n → Stands b n (at + cell_start k cs + 9) (found (lookup k cs))
  unfolding encode lookup found cell_start
  lookup_stands k at [] r e h = tt
  lookup_stands k at (c ∷ cs) r e h =
      go (eqb (key_number c) k) (lookup_stands k (at + length (cell_bytes c)) cs r behind (omega (arith, size)))
    where
      here : drop at b ≡ cell_bytes c ++ (encode cs ++ r)
      here = e ∙ append_assoc (cell_bytes c) (encode cs) r

      behind : drop (at + length (cell_bytes c)) b ≡ encode cs ++ r
      behind = sym (drop-drop (length (cell_bytes c)) at b) ∙ ap (drop (length (cell_bytes c))) here ∙ drop-append_seam (cell_bytes c) (encode cs ++ r)

      size : length (cell_bytes c ++ encode cs) ≡ length (cell_bytes c) + length (encode cs)
      size = length-append (cell_bytes c) (encode cs)

      go : (t : Bool) → Stands b n (at + length (cell_bytes c) + cell_start k cs + 9) (found (lookup k cs)) → Stands b n (at + cond t 0 (length (cell_bytes c) + cell_start k cs) + 9) (found (cond t (Some c) (lookup k cs)))
      go true later = moved (cell c.value) (omega arith) (cell_stands at c (encode cs ++ r) here (omega (arith, size)))
      go false later = moved (found (lookup k cs)) (omega arith) later

-- Whatever the store holds, a string that is answered stands where `string_start` says.
pub string_stands : (b : List ℕ) (n : ℕ) (q : Question) → Stands b n (string_start q (cells_held b n)) (ask_of b n q).answer
unfolding ask_of replied answer query_answer string_start
string_stands b n q = go (cells_held b n) refl
  where
    go : (o : Option (List Cell)) → cells_held b n ≡ o → Stands b n (string_start q o) (replied q o).answer
    go None e = tt
    go (Some cs) e = by (question_allowed q)
      where
        bytes : drop 0 b ≡ encode cs ++ drop n b
        bytes = sym (take-append-drop n b) ∙ ap (λ (x : List ℕ). x ++ drop n b) (sym (held_some b n cs e).holds.bytes)

        short : 0 + length (encode cs) ≤ n
        short = omega (arith, ap length (held_some b n cs e).holds.bytes, length-take-le n b (held_some b n cs e).inside)

        by : (t : Bool) → Stands b n (cell_start (key_as_number (key_asked q)) cs + 9) (cond t (answered_ask (answer q cs)) (refused_ask BadRequest)).answer
        by true = by_query q (λ o. Stands b n (cell_start (key_as_number (key_asked q)) cs + 9) (query_answer o cs)) tt (moved b n (found (lookup (key_as_number (key_asked q)) cs)) (omega arith) (lookup_stands b n (key_as_number (key_asked q)) 0 cs (drop n b) bytes short)) tt tt
        by false = tt
