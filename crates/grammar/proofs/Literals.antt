-- Literals and indexes: what is read is spelled, and what is spelled is read.
use Rattle.std.specs.Prelude.{Option, Some, None}
use mathlib.Core.Path.{◌≡◌, refl, sym, ap, ◌∙◌, subst}
use mathlib.Core.Bool.{Bool, true, false}
use mathlib.Core.List.{List, [], ◌∷◌, ◌++◌, append_assoc}
use Prim.Native.Nat.{ℕ, ◌+◌, ◌≤◌, ◌<◌}
use native.Mathlib.Omega.{arith}
use borrow.Author.Tests.{eqb-true, eqb-false, ne_eqb, eq-eqb, le-ltb, ltb-false}
use lib.Dec.{ltb, eqb}
use lib.ListN.{length, get_or, take, drop, length-take, length-append}
use Rattle.numbers.specs.declared.Quantity.{Quantity}
use Rattle.numbers.specs.declared.Quantity.TheVariants.{Integer, Decimal}
use Rattle.numbers.specs.Sign.{signed}
use Rattle.numbers.specs.Range.{integer_limit, decimal_limit}
use Rattle.scan.specs.declared.run.Class.TheVariants.{Digit}
use Rattle.scan.specs.Ascii.{ascii}
use Rattle.scan.specs.Run.{belongs, span}
use Rattle.scan.specs.Line.{byte_at, byte_is}
use Rattle.scan.specs.Value.{value_from, value_of}
use Rattle.scan.specs.Readers.Digits.{digits_at, number_at}
use Rattle.scan.specs.Words.{begins, stands_at}
use Rattle.scan.proofs.RunLaws.{length_span}
use Rattle.scan.proofs.DigitLaws.{digit_bounds}
use Rattle.arguments.specs.declared.index.Index.{Index}
use Rattle.arguments.specs.declared.index.Index.TheVariants.{Variable}
use Rattle.arguments.specs.Readers.Literal as L
use Rattle.arguments.specs.Readers.Literal.{fraction_at, unsigned_at, literal_at}
use Rattle.arguments.specs.Readers.Index.{loop_word, variable_word, variable_index, index_at}
use Rattle.grammar.specs.Number.{point, All, Several, sign, millionths_spelled, LiteralSpelled, integer_literal, decimal_literal, IndexSpelled, fixed_index, variable_as_index, loop_index}
use Rattle.grammar.proofs.Standing.{tested, Found, byte_is_law, onward, past, byte_stands, stands, stands_says, other_word, Stops, span_all, span_here}
use Rattle.grammar.proofs.Numbers.{digits_read, first_byte, number_read, number_spelled}

-- neither a digit nor a point follows
abbrev pub Ends : List ℕ → Type 0
Ends [] = Unit {0}
Ends (b ∷ r) = (belongs Digit b ≡ false) × (b ≡ point → ⊥)

pub ends_stops : (r : List ℕ) → Ends r → Stops Digit r
ends_stops [] e = tt
ends_stops (b ∷ r) e = e.0

pub ends_point : (r : List ℕ) → Ends r → get_or r 0 0 ≡ point → ⊥
ends_point [] e q = omega arith
ends_point (b ∷ r) e q = e.1 q

-- a row of digits begins with a digit
pub first_digit : (s : List ℕ) → All Digit s → 0 < length s → (48 ≤ byte_at s 0) × (byte_at s 0 ≤ 57)
unfolding All byte_at
first_digit [] a h = absurd (omega arith)
first_digit (d ∷ s) a h = digit_bounds d a.0

-- ---- what is spelled is read

module _ (l : List ℕ) (negative : Bool) where
  unsigned_integer : (at : ℕ) (whole r : List ℕ) → Several Digit 1 10 whole → value_of whole ≤ integer_limit → drop at l ≡ whole ++ r → Ends r → unsigned_at l at negative ≡ Some (Integer (signed negative (value_of whole)), at + length whole)
  unfolding unsigned_at
  unsigned_integer at whole r w h e t =
      let p : byte_is l (at + length whole) "." ≡ false = ne_eqb _ point (λ q. ends_point r t (sym (byte_is_law l (at + length whole) r (onward l at whole r e)) ∙ q)) in
      rw (digits_read l at 10 whole r (omega arith) e w.all w.few (ends_stops r t), ne_eqb (length whole) 0 (λ q. omega (arith, w.enough)), p, le-ltb integer_limit (value_of whole) h)

  unsigned_decimal : (at : ℕ) (whole fraction r : List ℕ) → Several Digit 1 10 whole → Several Digit 1 6 fraction → millionths_spelled whole fraction ≤ decimal_limit → drop at l ≡ whole ++ (point ∷ (fraction ++ r)) → Ends r → unsigned_at l at negative ≡ Some (Decimal (signed negative (millionths_spelled whole fraction)), at + length whole + 1 + length fraction)
  unfolding unsigned_at fraction_at L.in_millionths belongs
  unsigned_decimal at whole fraction r w f h e t =
      let o : drop (at + length whole) l ≡ point ∷ (fraction ++ r) = onward l at whole (point ∷ (fraction ++ r)) e in
      let p : byte_is l (at + length whole) "." ≡ true = eq-eqb _ point (byte_is_law l (at + length whole) (point ∷ (fraction ++ r)) o) in
      let n : drop (at + length whole + 1) l ≡ fraction ++ r = past l (at + length whole) point (fraction ++ r) o in
      rw (digits_read l at 10 whole (point ∷ (fraction ++ r)) (omega arith) e w.all w.few refl, ne_eqb (length whole) 0 (λ q. omega (arith, w.enough)), p, digits_read l (at + length whole + 1) 6 fraction r (omega arith) n f.all f.few (ends_stops r t), ne_eqb (length fraction) 0 (λ q. omega (arith, f.enough)), le-ltb decimal_limit (millionths_spelled whole fraction) h)

-- the first byte of a literal without a sign is none
unsigned_first : (l : List ℕ) (at : ℕ) (whole r : List ℕ) → Several Digit 1 10 whole → drop at l ≡ whole ++ r → byte_is l at "-" ≡ false
unsigned_first l at whole r w e =
    let d = first_digit whole w.all w.enough in
    ne_eqb (byte_at l at) 45 (λ q. omega (arith, d, byte_is_law l at (whole ++ r) e, first_byte whole r w.enough))

signed_first : (l : List ℕ) (at : ℕ) (r : List ℕ) → drop at l ≡ 45 ∷ r → byte_is l at "-" ≡ true
signed_first l at r e = eq-eqb (byte_at l at) 45 (byte_is_law l at (45 ∷ r) e)

pub literal_read : (l : List ℕ) (at : ℕ) (q : Quantity) (s r : List ℕ) → LiteralSpelled q s → drop at l ≡ s ++ r → Ends r → literal_at l at ≡ Some (q, at + length s)
unfolding literal_at
literal_read l at q s r (integer_literal true whole w h) e t =
    rw (signed_first l at (whole ++ r) e) (unsigned_integer l true (at + 1) whole r w h (past l at 45 (whole ++ r) e) t ∙ ap (λ (next : ℕ). Some (q, next)) (omega arith))
literal_read l at q s r (integer_literal false whole w h) e t =
    rw (unsigned_first l at whole r w e) (unsigned_integer l false at whole r w h e t)
literal_read l at q s r (decimal_literal true whole fraction w f h) e t =
    let a : drop at l ≡ 45 ∷ (whole ++ (point ∷ (fraction ++ r))) = e ∙ ap (λ (x : List ℕ). 45 ∷ x) (append_assoc whole (point ∷ fraction) r) in
    rw (signed_first l at (whole ++ (point ∷ (fraction ++ r))) a) (unsigned_decimal l true (at + 1) whole fraction r w f h (past l at 45 (whole ++ (point ∷ (fraction ++ r))) a) t ∙ ap (λ (next : ℕ). Some (q, next)) (omega (arith, length-append whole (point ∷ fraction))))
literal_read l at q s r (decimal_literal false whole fraction w f h) e t =
    let a : drop at l ≡ whole ++ (point ∷ (fraction ++ r)) = e ∙ append_assoc whole (point ∷ fraction) r in
    rw (unsigned_first l at whole (point ∷ (fraction ++ r)) w a) (unsigned_decimal l false at whole fraction r w f h a t ∙ ap (λ (next : ℕ). Some (q, next)) (omega (arith, length-append whole (point ∷ fraction))))

-- where another byte stands, no digit does
pub no_digits : (l : List ℕ) (at most : ℕ) (r : List ℕ) → most ≤ 10 → drop at l ≡ r → Stops Digit r → digits_at l at most ≡ record { count = 0; value = 0 }
unfolding All value_from
no_digits l at most r h e t = digits_read l at most [] r h e tt (omega arith) t

pub index_read : (l : List ℕ) (at : ℕ) (i : Index) (s r : List ℕ) → IndexSpelled i s → drop at l ≡ s ++ r → Stops Digit r → index_at l at ≡ Some (i, at + length s)
unfolding index_at variable_index belongs begins
index_read l at i x r (fixed_index s w) e t =
    rw (digits_read l at 3 s r (omega arith) e w.all w.few t, ne_eqb (length s) 0 (λ q. omega (arith, w.enough)))
index_read l at i x r (variable_as_index n s k) e t =
    let b : stands_at loop_word l at ≡ false = other_word loop_word l at (ascii "IV" ++ (s ++ r)) e refl in
    rw (no_digits l at 3 (ascii "IV" ++ (s ++ r)) (omega arith) e refl, b, stands variable_word l at (s ++ r) e, number_read l (at + 2) 99 n s r (omega arith) (onward l at (ascii "IV") (s ++ r) e) k t)
    (ap (λ (next : ℕ). Some (Variable n, next)) (omega arith))
index_read l at i x r loop_index e t =
    rw (no_digits l at 3 (ascii "LOOP" ++ r) (omega arith) e refl, stands loop_word l at r e)

-- ---- what is read is spelled

-- digits that were read, 1 to `most` of them
pub row_read : (l : List ℕ) (at most : ℕ) → (length (span Digit (take most (drop at l))) ≡ 0 → ⊥) → Several Digit 1 most (span Digit (take most (drop at l)))
row_read l at most c =
    record {
      all = span_all Digit (take most (drop at l));
      enough = omega (arith, c);
      few = omega (arith, length_span Digit (take most (drop at l)), length-take most (drop at l));
    }

module _ (l : List ℕ) (negative : Bool) where
  abbrev LiteralSound : ℕ → Option (Quantity × ℕ) → Type 0
  LiteralSound at (Some (q, next)) = Found (λ s. LiteralSpelled q (sign negative ++ s)) l at next
  LiteralSound at None = Unit {0}

  fraction_sound : (at : ℕ) (whole : List ℕ) → Several Digit 1 10 whole → drop at l ≡ whole ++ (point ∷ drop (at + length whole + 1) l) → LiteralSound at (fraction_at l (at + length whole + 1) negative (value_of whole))
  unfolding fraction_at digits_at L.in_millionths
  fraction_sound at whole w e =
      let k : ℕ = at + length whole + 1 in
      let s : List ℕ = span Digit (take 6 (drop k l)) in
      tested (LiteralSound at) (eqb (length s) 0) (λ c. tt) (λ c.
      tested (LiteralSound at) (ltb decimal_limit (millionths_spelled whole s)) (λ v. tt) (λ v.
      record {
        bytes = whole ++ (point ∷ s);
        spelled = decimal_literal negative whole s w (row_read l k 6 (eqb-false (length s) 0 c)) (ltb-false decimal_limit (millionths_spelled whole s) v);
        here = e ∙ ap (λ (x : List ℕ). whole ++ (point ∷ x)) (span_here Digit l k 6) ∙ sym (append_assoc whole (point ∷ s) (drop (k + length s) l));
        behind = omega (arith, length-append whole (point ∷ s));
      }))

  unsigned_sound : (at : ℕ) → LiteralSound at (unsigned_at l at negative)
  unfolding unsigned_at digits_at
  unsigned_sound at =
      let s : List ℕ = span Digit (take 10 (drop at l)) in
      let h = span_here Digit l at 10 in
      tested (LiteralSound at) (eqb (length s) 0) (λ c. tt) (λ c.
      let w = row_read l at 10 (eqb-false (length s) 0 c) in
      tested (LiteralSound at) (byte_is l (at + length s) ".")
      (λ d. fraction_sound at s w (h ∙ ap (λ (x : List ℕ). s ++ x) (byte_stands l (at + length s) point (eqb-true (byte_at l (at + length s)) point d) (omega arith))))
      (λ d. tested (LiteralSound at) (ltb integer_limit (value_of s)) (λ v. tt) (λ v.
      record { bytes = s; spelled = integer_literal negative s w (ltb-false integer_limit (value_of s) v); here = h; behind = refl })))

abbrev LiteralFound : List ℕ → ℕ → Option (Quantity × ℕ) → Type 0
LiteralFound l at (Some (q, next)) = Found (LiteralSpelled q) l at next
LiteralFound l at None = Unit {0}

signed_found : (l : List ℕ) (at : ℕ) (x : Option (Quantity × ℕ)) → drop at l ≡ 45 ∷ drop (at + 1) l → LiteralSound l true (at + 1) x → LiteralFound l at x
signed_found l at (Some (q, next)) e f =
    record {
      bytes = 45 ∷ f.bytes;
      spelled = f.spelled;
      here = e ∙ ap (λ (x : List ℕ). 45 ∷ x) f.here;
      behind = omega (arith, f.behind);
    }
signed_found l at None e f = tt

unsigned_found : (l : List ℕ) (at : ℕ) (x : Option (Quantity × ℕ)) → LiteralSound l false at x → LiteralFound l at x
unsigned_found l at (Some (q, next)) f = record { bytes = f.bytes; spelled = f.spelled; here = f.here; behind = f.behind }
unsigned_found l at None f = tt

literal_sound : (l : List ℕ) (at : ℕ) → LiteralFound l at (literal_at l at)
unfolding literal_at
literal_sound l at =
    tested (LiteralFound l at) (byte_is l at "-")
    (λ m. signed_found l at (unsigned_at l (at + 1) true) (byte_stands l at 45 (eqb-true (byte_at l at) 45 m) (omega arith)) (unsigned_sound l true (at + 1)))
    (λ m. unsigned_found l at (unsigned_at l at false) (unsigned_sound l false at))

pub literal_spelled : (l : List ℕ) (at : ℕ) (q : Quantity) (next : ℕ) → literal_at l at ≡ Some (q, next) → Found (LiteralSpelled q) l at next
literal_spelled l at q next e = subst (LiteralFound l at) e (literal_sound l at)

-- a word, and what is found behind it
pub behind_word : {P Q : List ℕ → Type 0} (l : List ℕ) (at next : ℕ) (w : List ℕ) → stands_at w l at ≡ true → Found P l (at + length w) next → ((s : List ℕ) → P s → Q (w ++ s)) → Found Q l at next
behind_word l at next w e f g =
    record {
      bytes = w ++ f.bytes;
      spelled = g f.bytes f.spelled;
      here = stands_says w l at e ∙ ap (λ (x : List ℕ). w ++ x) f.here ∙ sym (append_assoc w f.bytes (drop next l));
      behind = omega (arith, f.behind, length-append w f.bytes);
    }

-- a word alone
pub word_alone : {Q : List ℕ → Type 0} (l : List ℕ) (at : ℕ) (w : List ℕ) → stands_at w l at ≡ true → Q w → Found Q l at (at + length w)
word_alone l at w e g = record { bytes = w; spelled = g; here = stands_says w l at e; behind = refl }

abbrev IndexFound : List ℕ → ℕ → Option (Index × ℕ) → Type 0
IndexFound l at (Some (i, next)) = Found (IndexSpelled i) l at next
IndexFound l at None = Unit {0}

variable_sound : (l : List ℕ) (at : ℕ) (x : Option (ℕ × ℕ)) → stands_at variable_word l at ≡ true → number_at l (at + 2) 99 ≡ x → IndexFound l at (variable_index x)
unfolding variable_index
variable_sound l at (Some (n, next)) e h = behind_word l at next variable_word e (number_spelled l (at + 2) 99 n next h) (variable_as_index n)
variable_sound l at None e h = tt

index_sound : (l : List ℕ) (at : ℕ) → IndexFound l at (index_at l at)
unfolding index_at digits_at
index_sound l at =
    let s : List ℕ = span Digit (take 3 (drop at l)) in
    tested (IndexFound l at) (eqb (length s) 0)
    (λ c. tested (IndexFound l at) (stands_at loop_word l at) (λ w. word_alone l at loop_word w loop_index)
    (λ w. tested (IndexFound l at) (stands_at variable_word l at) (λ v. variable_sound l at (number_at l (at + 2) 99) v refl) (λ v. tt)))
    (λ c. record { bytes = s; spelled = fixed_index s (row_read l at 3 (eqb-false (length s) 0 c)); here = span_here Digit l at 3; behind = refl })

pub index_spelled : (l : List ℕ) (at : ℕ) (i : Index) (next : ℕ) → index_at l at ≡ Some (i, next) → Found (IndexSpelled i) l at next
index_spelled l at i next e = subst (IndexFound l at) e (index_sound l at)
