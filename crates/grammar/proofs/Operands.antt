-- Operands: what is spelled is read, and what is read is spelled.
use Rattle.std.specs.Prelude.{Option, Some, None}
use mathlib.Core.Path.{◌≡◌, refl, sym, ap, ◌∙◌, subst}
use mathlib.Core.Bool.{true, false}
use mathlib.Core.List.{List, [], ◌∷◌, ◌++◌, append_assoc}
use Prim.Native.Nat.{ℕ, ◌+◌, ◌≤◌, zero-le}
use native.Mathlib.Omega.{arith}
use borrow.Author.Tests.{eqb-true, ne_eqb, eq-eqb}
use lib.ListN.{length, get_or, take, drop, length-take, length-append}
use Rattle.numbers.specs.declared.Quantity.{Quantity}
use Rattle.scan.specs.declared.run.Class.TheVariants.{Digit, InString}
use Rattle.scan.specs.Ascii.{ascii}
use Rattle.scan.specs.Run.{belongs, span}
use Rattle.scan.specs.Line.{byte_at, byte_is}
use Rattle.scan.specs.Readers.Digits.{number_at}
use Rattle.scan.specs.Words.{begins, stands_at, first_of}
use Rattle.scan.proofs.RunLaws.{length_span}
use Rattle.scan.proofs.DigitLaws.{digit_bounds}
use Rattle.arguments.specs.declared.index.Index.{Index}
use Rattle.arguments.specs.declared.operand.Operand.{Operand}
use Rattle.arguments.specs.declared.operand.Operand.TheVariants.{NumberLiteral, StringLiteral, IntegerVariable, DecimalVariable, StringVariable, RecordElement, EntryElement, Entry}
use Rattle.arguments.specs.Readers.Literal.{unsigned_at, literal_at}
use Rattle.arguments.specs.Readers.Index.{index_at}
use Rattle.arguments.specs.Readers.Operand.{string_at, entry_of, record_read_of, cell_of, cell_at, whole_at, numbered_of, numbered_at, names, named_at, number_or, operand_at}
use Rattle.grammar.specs.Number.{point, All, Several, Numbered, LiteralSpelled, integer_literal, decimal_literal, IndexSpelled}
use Rattle.grammar.specs.Argument.{quote, OperandSpelled, number_literal, string_literal, integer_variable, decimal_variable, string_variable, page_number, line_number, loop_counter, record_element, entry_element, parameter, record_of, entry_cell_of}
use Rattle.grammar.proofs.Standing.{tested, Found, byte_is_law, onward, past, byte_stands, Stops, span_all, span_exact, span_here, no_more, ◌or◌, found_word}
use Rattle.grammar.proofs.Numbers.{first_byte, some_digits, number_read, number_spelled}
use Rattle.grammar.proofs.Literals.{Ends, ends_stops, ends_point, first_digit, no_digits, literal_read, literal_spelled, index_read, index_spelled, behind_word, word_alone}

-- ---- what is spelled is read

-- a literal begins with no quote
literal_first : (q : Quantity) (s r : List ℕ) → LiteralSpelled q s → get_or (s ++ r) 0 0 ≡ quote → ⊥
literal_first q s r (integer_literal true whole w h) e = omega arith
literal_first q s r (integer_literal false whole w h) e = omega (arith, first_digit whole w.all w.enough, first_byte whole r w.enough)
literal_first q s r (decimal_literal true whole f w v h) e = omega arith
literal_first q s r (decimal_literal false whole f w v h) e =
    omega (arith, first_digit whole w.all w.enough, ap (λ (x : List ℕ). get_or x 0 0) (append_assoc whole (point ∷ f) r), first_byte whole (point ∷ (f ++ r)) w.enough)

-- where neither a digit nor a `-` stands, no literal does
no_literal : (l : List ℕ) (at : ℕ) (r : List ℕ) → drop at l ≡ r → Stops Digit r → (get_or r 0 0 ≡ 45 → ⊥) → literal_at l at ≡ None
unfolding literal_at unsigned_at
no_literal l at r e t m =
    rw (ne_eqb (byte_at l at) 45 (λ q. m (sym (byte_is_law l at r e) ∙ q)), no_digits l at 10 r (omega arith) e t)

-- a name that stands there is looked up
name_read : (l : List ℕ) (at : ℕ) (r : List ℕ) (x : Option (Operand × ℕ)) → drop at l ≡ r → Stops Digit r → (get_or r 0 0 ≡ 45 → ⊥) → (get_or r 0 0 ≡ quote → ⊥) → named_at l at ≡ x → operand_at l at ≡ x
unfolding operand_at number_or
name_read l at r x e t m n h = rw (ne_eqb (byte_at l at) quote (λ q. n (sym (byte_is_law l at r e) ∙ q)), no_literal l at r e t m) h

-- a number behind a P is no PAGENUM
not_page : (limit n : ℕ) (s r : List ℕ) → Numbered limit n s → begins (ascii "PAGENUM") (80 ∷ (s ++ r)) ≡ false
unfolding begins All
not_page limit n [] r k = absurd (omega (arith, some_digits limit n [] k))
not_page limit n (d ∷ s) r k = rw (ne_eqb 65 d (λ q. omega (arith, digit_bounds d k.digits.0)))

module _ (l : List ℕ) (at n : ℕ) (s : List ℕ) (k : Numbered 65535 n s) where
  cell_named : (r : List ℕ) → drop at l ≡ 80 ∷ (s ++ r) → named_at l at ≡ cell_at l (at + 1)
  unfolding named_at names first_of stands_at begins
  cell_named r e = rw (e, not_page 65535 n s r k)

  cell_read : (r : List ℕ) (x : Option (Operand × ℕ)) → drop at l ≡ 80 ∷ (s ++ r) → Stops Digit r → cell_of l (Some (n, at + 1 + length s)) ≡ x → operand_at l at ≡ x
  unfolding cell_at belongs
  cell_read r x e t h =
      name_read l at (80 ∷ (s ++ r)) x e refl (λ q. omega arith) (λ q. omega arith)
      (cell_named r e ∙ ap (cell_of l) (number_read l (at + 1) 65535 n s r (omega arith) (past l at 80 (s ++ r) e) k t) ∙ h)

-- a byte other than a point follows
no_point : (l : List ℕ) (at : ℕ) (r : List ℕ) → drop at l ≡ r → Ends r → byte_is l at "." ≡ false
no_point l at r e t = ne_eqb (byte_at l at) point (λ q. ends_point r t (sym (byte_is_law l at r e) ∙ q))

a_point : (l : List ℕ) (at : ℕ) (r : List ℕ) → drop at l ≡ point ∷ r → byte_is l at "." ≡ true
a_point l at r e = eq-eqb (byte_at l at) point (byte_is_law l at (point ∷ r) e)

string_read : (l : List ℕ) (at : ℕ) (s r : List ℕ) → Several InString 0 16 s → drop at l ≡ quote ∷ (s ++ (quote ∷ r)) → operand_at l at ≡ Some (StringLiteral (at + 1) (at + 1 + length s), at + 1 + length s + 1)
unfolding operand_at string_at belongs
string_read l at s r w e =
    let p : drop (at + 1) l ≡ s ++ (quote ∷ r) = past l at quote (s ++ (quote ∷ r)) e in
    let q : span InString (take 16 (drop (at + 1) l)) ≡ s = ap (λ (x : List ℕ). span InString (take 16 x)) p ∙ span_exact InString s (quote ∷ r) 16 w.all w.few refl in
    rw (eq-eqb (byte_at l at) quote (byte_is_law l at (quote ∷ (s ++ (quote ∷ r))) e), q, eq-eqb (byte_at l (at + 1 + length s)) quote (byte_is_law l (at + 1 + length s) (quote ∷ r) (onward l (at + 1) s (quote ∷ r) p)))

-- a name with a number from 1 to a limit
numbered_read : (form : ℕ → Operand) (l : List ℕ) (at limit n : ℕ) (s r : List ℕ) → limit ≤ 65535 → drop at l ≡ s ++ r → Numbered limit n s → Stops Digit r → numbered_at form limit l at ≡ Some (form n, at + length s)
unfolding numbered_at numbered_of
numbered_read form l at limit n s r h e k t = rw (number_read l at limit n s r h e k t)

literal_operand : (l : List ℕ) (at : ℕ) (q : Quantity) (s r : List ℕ) → LiteralSpelled q s → drop at l ≡ s ++ r → Ends r → operand_at l at ≡ Some (NumberLiteral q, at + length s)
unfolding operand_at number_or
literal_operand l at q s r k e t =
    rw (ne_eqb (byte_at l at) quote (λ z. literal_first q s r k (sym (byte_is_law l at (s ++ r) e) ∙ z)), literal_read l at q s r k e t)

pub operand_read : (l : List ℕ) (at : ℕ) (o : Operand) (s r : List ℕ) → OperandSpelled at o s → drop at l ≡ s ++ r → Ends r → operand_at l at ≡ Some (o, at + length s)
unfolding named_at names first_of stands_at begins whole_at cell_of record_read_of entry_of belongs
operand_read l at o s r (number_literal {q} k) e t = literal_operand l at q s r k e t
operand_read l at o x r (string_literal s w) e t =
    string_read l at s r w (e ∙ ap (λ (y : List ℕ). quote ∷ y) (append_assoc s (quote ∷ []) r)) ∙ ap (λ (next : ℕ). Some (o, next)) (omega (arith, length-append s (quote ∷ [])))
operand_read l at o x r (integer_variable n s k) e t =
    name_read l at _ _ e refl (λ q. omega arith) (λ q. omega arith) (rw e (numbered_read IntegerVariable l (at + 2) 99 n s r (omega arith) (onward l at (ascii "IV") (s ++ r) e) k (ends_stops r t) ∙ ap (λ (next : ℕ). Some (o, next)) (omega arith)))
operand_read l at o x r (decimal_variable n s k) e t =
    name_read l at _ _ e refl (λ q. omega arith) (λ q. omega arith) (rw e (numbered_read DecimalVariable l (at + 2) 99 n s r (omega arith) (onward l at (ascii "FV") (s ++ r) e) k (ends_stops r t) ∙ ap (λ (next : ℕ). Some (o, next)) (omega arith)))
operand_read l at o x r (string_variable n s k) e t =
    name_read l at _ _ e refl (λ q. omega arith) (λ q. omega arith) (rw e (numbered_read StringVariable l (at + 2) 99 n s r (omega arith) (onward l at (ascii "SV") (s ++ r) e) k (ends_stops r t) ∙ ap (λ (next : ℕ). Some (o, next)) (omega arith)))
operand_read l at o x r page_number e t = name_read l at _ _ e refl (λ q. omega arith) (λ q. omega arith) (rw e)
operand_read l at o x r line_number e t = name_read l at _ _ e refl (λ q. omega arith) (λ q. omega arith) (rw e)
operand_read l at o x r loop_counter e t = name_read l at _ _ e refl (λ q. omega arith) (λ q. omega arith) (rw e)
operand_read l at o x r (record_element n s k) e t =
    name_read l at _ _ e refl (λ q. omega arith) (λ q. omega arith) (rw e (numbered_read RecordElement l (at + 1) 10 n s r (omega arith) (onward l at (ascii "R") (s ++ r) e) k (ends_stops r t) ∙ ap (λ (next : ℕ). Some (o, next)) (omega arith)))
operand_read l at o x r (entry_element n s k) e t =
    name_read l at _ _ e refl (λ q. omega arith) (λ q. omega arith) (rw e (numbered_read EntryElement l (at + 1) 10 n s r (omega arith) (onward l at (ascii "T") (s ++ r) e) k (ends_stops r t) ∙ ap (λ (next : ℕ). Some (o, next)) (omega arith)))
operand_read l at o x r (parameter n s k) e t =
    cell_read l at n s k r _ e (ends_stops r t) (rw (no_point l (at + 1 + length s) r (onward l (at + 1) s r (past l at 80 (s ++ r) e)) t) (ap (λ (next : ℕ). Some (o, next)) (omega arith)))
operand_read l at o x r (record_of n s i y k u) e t =
    let b : ℕ = at + 1 + length s in
    let f : drop at l ≡ 80 ∷ (s ++ (point ∷ (y ++ r))) = e ∙ ap (λ (w : List ℕ). 80 ∷ w) (append_assoc s (point ∷ y) r) in
    let g : drop b l ≡ point ∷ (y ++ r) = onward l (at + 1) s (point ∷ (y ++ r)) (past l at 80 (s ++ (point ∷ (y ++ r))) f) in
    let h : drop (b + 1) l ≡ y ++ r = past l b point (y ++ r) g in
    cell_read l at n s k (point ∷ (y ++ r)) _ f refl
    (rw (a_point l b (y ++ r) g, index_read l (b + 1) i y r u h (ends_stops r t), no_point l (b + 1 + length y) r (onward l (b + 1) y r h) t)
    (ap (λ (next : ℕ). Some (o, next)) (omega (arith, length-append s (point ∷ y)))))
operand_read l at o x r (entry_cell_of n s i y j z k u v) e t =
    let b : ℕ = at + 1 + length s in
    let c : ℕ = b + 1 + length y in
    let f : drop at l ≡ 80 ∷ (s ++ (point ∷ (y ++ (point ∷ (z ++ r))))) =
    e ∙ ap (λ (w : List ℕ). 80 ∷ w) (append_assoc s (point ∷ (y ++ (point ∷ z))) r) ∙ ap (λ (w : List ℕ). 80 ∷ (s ++ (point ∷ w))) (append_assoc y (point ∷ z) r) in
    let g : drop b l ≡ point ∷ (y ++ (point ∷ (z ++ r))) = onward l (at + 1) s _ (past l at 80 _ f) in
    let h : drop (b + 1) l ≡ y ++ (point ∷ (z ++ r)) = past l b point _ g in
    let i2 : drop c l ≡ point ∷ (z ++ r) = onward l (b + 1) y (point ∷ (z ++ r)) h in
    cell_read l at n s k (point ∷ (y ++ (point ∷ (z ++ r)))) _ f refl
    (rw (a_point l b (y ++ (point ∷ (z ++ r))) g, index_read l (b + 1) i y (point ∷ (z ++ r)) u h refl, a_point l c (z ++ r) i2, index_read l (c + 1) j z r v (past l c point (z ++ r) i2) (ends_stops r t))
    (ap (λ (next : ℕ). Some (o, next)) (omega (arith, length-append s (point ∷ (y ++ (point ∷ z))), length-append y (point ∷ z)))))

-- ---- what is read is spelled

abbrev OperandFound : List ℕ → ℕ → Option (Operand × ℕ) → Type 0
OperandFound l at (Some (o, next)) = Found (OperandSpelled at o) l at next
OperandFound l at None = Unit {0}

string_sound : (l : List ℕ) (at : ℕ) → drop at l ≡ quote ∷ drop (at + 1) l → OperandFound l at (string_at l (at + 1))
unfolding string_at
string_sound l at e =
    let s : List ℕ = span InString (take 16 (drop (at + 1) l)) in
    let k : ℕ = at + 1 + length s in
    let h = span_here InString l (at + 1) 16 in
    tested (OperandFound l at) (byte_is l k "\"")
    (λ q. record {
      bytes = quote ∷ (s ++ (quote ∷ []));
      spelled = string_literal s (record { all = span_all InString (take 16 (drop (at + 1) l)); enough = zero-le; few = omega (arith, length_span InString (take 16 (drop (at + 1) l)), length-take 16 (drop (at + 1) l)) });
      here = e ∙ ap (λ (x : List ℕ). quote ∷ x) (h ∙ ap (λ (x : List ℕ). s ++ x) (byte_stands l k quote (eqb-true (byte_at l k) quote q) (omega arith)) ∙ sym (append_assoc s (quote ∷ []) (drop (k + 1) l)));
      behind = omega (arith, length-append s (quote ∷ []));
    })
    (λ q. tt)

numbered_sound : (form : ℕ → Operand) (l : List ℕ) (at limit : ℕ) (w : List ℕ) → ((n : ℕ) (s : List ℕ) → Numbered limit n s → OperandSpelled at (form n) (w ++ s)) → stands_at w l at ≡ true → OperandFound l at (numbered_at form limit l (at + length w))
unfolding numbered_at numbered_of
numbered_sound form l at limit w g e = go (number_at l (at + length w) limit) refl
  where
    go : (x : Option (ℕ × ℕ)) → number_at l (at + length w) limit ≡ x → OperandFound l at (numbered_of form x)
    go (Some (n, next)) h = behind_word l at next w e (number_spelled l (at + length w) limit n next h) (g n)
    go None h = tt

-- something, a byte, and something behind it
pub then_byte : {P Q R : List ℕ → Type 0} (l : List ℕ) (at m next b : ℕ) → Found P l at m → drop m l ≡ b ∷ drop (m + 1) l → Found Q l (m + 1) next → ((s x : List ℕ) → P s → Q x → R (s ++ (b ∷ x))) → Found R l at next
then_byte l at m next b f e g h =
    record {
      bytes = f.bytes ++ (b ∷ g.bytes);
      spelled = h f.bytes g.bytes f.spelled g.spelled;
      here = f.here ∙ ap (λ (x : List ℕ). f.bytes ++ x) (e ∙ ap (λ (x : List ℕ). b ∷ x) g.here) ∙ sym (append_assoc f.bytes (b ∷ g.bytes) (drop next l));
      behind = omega (arith, f.behind, g.behind, length-append f.bytes (b ∷ g.bytes));
    }

point_stands : (l : List ℕ) (at : ℕ) → byte_is l at "." ≡ true → drop at l ≡ point ∷ drop (at + 1) l
point_stands l at e = byte_stands l at point (eqb-true (byte_at l at) point e) (omega arith)

-- two indexes with a point between them
record Both (r e : Index) (w : List ℕ) : Type 0 where
  left : List ℕ
  right : List ℕ
  first : IndexSpelled r left
  second : IndexSpelled e right
  joined : w ≡ left ++ (point ∷ right)

module _ (l : List ℕ) (at : ℕ) (w : stands_at (ascii "P") l at ≡ true) where
  entry_sound : (n m : ℕ) (r : Index) (k : ℕ) → Found (Numbered 65535 n) l (at + 1) m → byte_is l m "." ≡ true → Found (IndexSpelled r) l (m + 1) k → byte_is l k "." ≡ true → OperandFound l at (entry_of n r (index_at l (k + 1)))
  unfolding entry_of
  entry_sound n m r k f p g q = go (index_at l (k + 1)) refl
    where
      go : (x : Option (Index × ℕ)) → index_at l (k + 1) ≡ x → OperandFound l at (entry_of n r x)
      go (Some (e, next)) h =
          behind_word l at next (ascii "P") w
          (then_byte l (at + 1) m next point f (point_stands l m p)
          (then_byte {R = Both r e} l (m + 1) k next point g (point_stands l k q) (index_spelled l (k + 1) e next h) (λ x y a b. record { left = x; right = y; first = a; second = b; joined = refl }))
          (λ s z a b. subst (λ (y : List ℕ). OperandSpelled at (Entry n r e) (80 ∷ (s ++ (point ∷ y)))) (sym b.joined) (entry_cell_of n s r b.left e b.right a b.first b.second)))
          (λ s a. a)
      go None h = tt

  record_sound : (n m : ℕ) → Found (Numbered 65535 n) l (at + 1) m → byte_is l m "." ≡ true → OperandFound l at (record_read_of l n (index_at l (m + 1)))
  unfolding record_read_of
  record_sound n m f p = go (index_at l (m + 1)) refl
    where
      go : (x : Option (Index × ℕ)) → index_at l (m + 1) ≡ x → OperandFound l at (record_read_of l n x)
      go (Some (r, next)) h =
          tested (OperandFound l at) (byte_is l next ".")
          (λ q. entry_sound n m r next f p (index_spelled l (m + 1) r next h) q)
          (λ q. behind_word l at next (ascii "P") w (then_byte l (at + 1) m next point f (point_stands l m p) (index_spelled l (m + 1) r next h) (λ s x a b. record_of n s r x a b)) (λ s a. a))
      go None h = tt

  cell_sound : OperandFound l at (cell_at l (at + 1))
  unfolding cell_at cell_of
  cell_sound = go (number_at l (at + 1) 65535) refl
    where
      go : (x : Option (ℕ × ℕ)) → number_at l (at + 1) 65535 ≡ x → OperandFound l at (cell_of l x)
      go (Some (n, next)) h =
          let f = number_spelled l (at + 1) 65535 n next h in
          tested (OperandFound l at) (byte_is l next ".")
          (λ q. record_sound n next f q)
          (λ q. behind_word l at next (ascii "P") w f (parameter n))
      go None h = tt

named_sound : (l : List ℕ) (at : ℕ) → OperandFound l at (named_at l at)
unfolding named_at names whole_at
named_sound l at =
    found_word (OperandFound l at) None names l at tt (
    (λ w. word_alone l at (ascii "PAGENUM") w page_number)
    or (λ w. word_alone l at (ascii "LINENUM") w line_number)
    or (λ w. word_alone l at (ascii "LOOP") w loop_counter)
    or (λ w. numbered_sound IntegerVariable l at 99 (ascii "IV") integer_variable w)
    or (λ w. numbered_sound DecimalVariable l at 99 (ascii "FV") decimal_variable w)
    or (λ w. numbered_sound StringVariable l at 99 (ascii "SV") string_variable w)
    or (λ w. numbered_sound RecordElement l at 10 (ascii "R") record_element w)
    or (λ w. numbered_sound EntryElement l at 10 (ascii "T") entry_element w)
    or (λ w. cell_sound l at w)
    or no_more
    )

operand_sound : (l : List ℕ) (at : ℕ) → OperandFound l at (operand_at l at)
unfolding operand_at number_or
operand_sound l at =
    tested (OperandFound l at) (byte_is l at "\"")
    (λ q. string_sound l at (byte_stands l at quote (eqb-true (byte_at l at) quote q) (omega arith)))
    (λ q. go (literal_at l at) refl)
  where
    go : (x : Option (Quantity × ℕ)) → literal_at l at ≡ x → OperandFound l at (number_or (named_at l at) x)
    go (Some (q, next)) h = let f = literal_spelled l at q next h in record { bytes = f.bytes; spelled = number_literal f.spelled; here = f.here; behind = f.behind }
    go None h = named_sound l at

pub operand_spelled : (l : List ℕ) (at : ℕ) (o : Operand) (next : ℕ) → operand_at l at ≡ Some (o, next) → Found (OperandSpelled at o) l at next
operand_spelled l at o next e = subst (OperandFound l at) e (operand_sound l at)
