-- Texts with their fields: what is spelled is read, and what is read is spelled.
use Rattle.std.specs.Prelude.{Some, None, Option}
use Rattle.texts.specs.declared.text.Field.{Field}
use mathlib.Core.Path.{◌≡◌, refl, sym, ap, ◌∙◌, subst}
use mathlib.Core.Bool.{Bool, true, false, cond}
use mathlib.Core.List.{List, [], ◌∷◌, ◌++◌, append_assoc}
use Prim.Native.Char.{code}
use Prim.Native.Nat.{ℕ, zero, suc, ◌+◌, ◌≤◌}
use native.Mathlib.Numerals.{add-one}
use lib.Seq.{drop-cons}
use native.Mathlib.Omega.{arith}
use borrow.Author.Tests.{eqb-true, eqb-false, ne_eqb, eq-eqb, le-leb, lt-leb, leb-true, leb-false, le-ltb, ltb-false}
use lib.Dec.{leb, ltb, eqb}
use lib.ListN.{length, get_or, take, drop, length-append, length-drop, drop_of_length-le}
use Rattle.scan.specs.declared.run.Class.TheVariants.{Digit}
use Rattle.scan.specs.Run.{belongs, span}
use Rattle.scan.specs.Line.{byte_at, byte_is}
use Rattle.scan.specs.Value.{value_of}
use Rattle.scan.specs.Readers.Digits.{digits_at, number_at}
use Rattle.arguments.specs.declared.argument.Argument.{Argument}
use Rattle.arguments.specs.Readers.Argument.{argument_at}
use Rattle.texts.specs.declared.text.Piece.{Piece}
use Rattle.texts.specs.declared.text.Piece.TheVariants.{Placed}
use Rattle.texts.specs.Readers.Text.{places_at, places_of, width_next, field_of, field_at, placed, piece_at, before, pieces_within}
use Rattle.grammar.specs.Number.{point, Numbered}
use Rattle.grammar.specs.Argument.{ArgumentSpelled}
use Rattle.grammar.specs.Text.{PlacesSpelled, unsaid, said, PieceSpelled, plain_byte, field, TextSpelled, end_of_text, piece}
use Rattle.grammar.proofs.Standing.{tested, Found, byte_is_law, onward, past, byte_stands, span_here}
use Rattle.grammar.proofs.Numbers.{digits_read, number_read, number_spelled}
use Rattle.grammar.proofs.Literals.{row_read}
use Rattle.grammar.proofs.Operands.{then_byte}
use Rattle.grammar.proofs.Arguments.{argument_read, argument_spelled}

abbrev opening : ℕ
opening = code "{"

abbrev closing : ℕ
closing = code "}"

abbrev comma : ℕ
comma = code ","

-- ---- what is spelled is read

byte_other : (l : List ℕ) (at b v : ℕ) (r : List ℕ) → drop at l ≡ b ∷ r → (b ≡ v → ⊥) → eqb (byte_at l at) v ≡ false
byte_other l at b v r e h = ne_eqb (byte_at l at) v (λ q. h (sym (byte_is_law l at (b ∷ r) e) ∙ q))

byte_this : (l : List ℕ) (at b : ℕ) (r : List ℕ) → drop at l ≡ b ∷ r → eqb (byte_at l at) b ≡ true
byte_this l at b r e = eq-eqb (byte_at l at) b (byte_is_law l at (b ∷ r) e)

places_read : (l : List ℕ) (at : ℕ) (p : Option ℕ) (y r : List ℕ) → PlacesSpelled p y → drop at l ≡ y ++ (closing ∷ r) → places_at l at ≡ Some (p, at + length y + 1)
unfolding places_at belongs
places_read l at p y r unsaid e = rw (byte_this l at closing r e) (ap (λ (next : ℕ). Some (None, next)) (omega arith))
places_read l at p y r (said s w h) e =
    let g : drop (at + 1) l ≡ s ++ (closing ∷ r) = past l at point (s ++ (closing ∷ r)) e in
    let n : length s ≡ 1 = omega (arith, w.enough, w.few) in
    let k : at + 1 + length s ≡ at + 2 = omega arith in
    let c : drop (at + 2) l ≡ closing ∷ r = ap (λ (i : ℕ). drop i l) (sym k) ∙ onward l (at + 1) s (closing ∷ r) g in
    rw (byte_other l at point closing (s ++ (closing ∷ r)) e (λ q. omega arith), byte_this l at point (s ++ (closing ∷ r)) e, digits_read l (at + 1) 1 s (closing ∷ r) (omega arith) g w.all w.few refl, ne_eqb (length s) 0 (λ q. omega (arith, w.enough)), le-ltb 6 (value_of s) h, byte_this l (at + 2) closing r c)
    (ap (λ (next : ℕ). Some (p, next)) (omega arith))

-- what stands behind a width, its places and the closing brace, is no digit
places_stop : (p : Option ℕ) (y r : List ℕ) → PlacesSpelled p y → (b : ℕ) × (x : List ℕ) × (y ++ (closing ∷ r) ≡ b ∷ x) × (belongs Digit b ≡ false)
unfolding belongs
places_stop p y r unsaid = (closing, r, refl, refl)
places_stop p y r (said s w h) = (point, s ++ (closing ∷ r), refl, refl)

field_read : (l : List ℕ) (at : ℕ) (a : Argument) (s : List ℕ) (w : ℕ) (x : List ℕ) (p : Option ℕ) (y r : List ℕ) → ArgumentSpelled at a s → Numbered 32 w x → PlacesSpelled p y → drop at l ≡ s ++ (comma ∷ (x ++ (y ++ (closing ∷ r)))) → field_at l at ≡ Some (record { argument = a; width = w; places = p }, at + length s + 1 + length x + length y + 1)
unfolding field_at field_of width_next places_of belongs
field_read l at a s w x p y r u v t e =
    let b : ℕ = at + length s in
    let f : drop b l ≡ comma ∷ (x ++ (y ++ (closing ∷ r))) = onward l at s _ e in
    let g : drop (b + 1) l ≡ x ++ (y ++ (closing ∷ r)) = past l b comma _ f in
    let q = places_stop p y r t in
    let h : drop (b + 1) l ≡ x ++ (q.0 ∷ q.1) = g ∙ ap (λ (z : List ℕ). x ++ z) q.2 in
    rw (argument_read l at a s (comma ∷ (x ++ (y ++ (closing ∷ r)))) u e (refl, λ z. omega arith, λ z. omega arith), byte_this l b comma _ f, number_read l (b + 1) 32 w x (q.0 ∷ q.1) (omega arith) h v q.3, places_read l (b + 1 + length x) p y r t (onward l (b + 1) x (y ++ (closing ∷ r)) g))

nonempty : (l : List ℕ) (at b : ℕ) (r : List ℕ) → drop at l ≡ b ∷ r → leb (length l) at ≡ false
nonempty l at b r e = lt-leb (length l) at (omega (arith, ap length e, length-drop at l))

pub piece_read : (l : List ℕ) (at : ℕ) (p : Piece) (s r : List ℕ) → PieceSpelled at p s → drop at l ≡ s ++ r → piece_at l at ≡ Some (p, at + length s)
unfolding piece_at placed
piece_read l at p s r (plain_byte b h k) e =
    rw (nonempty l at b r e, byte_other l at b opening r e h, byte_other l at b closing r e k, byte_is_law l at (b ∷ r) e)
piece_read l at p z r (field a s w x q y u v t) e =
    let f : drop at l ≡ opening ∷ (s ++ (comma ∷ (x ++ (y ++ (closing ∷ r))))) =
    e
    ∙ ap (λ (j : List ℕ). opening ∷ j) (append_assoc s (comma ∷ (x ++ (y ++ (closing ∷ [])))) r)
    ∙ ap (λ (j : List ℕ). opening ∷ (s ++ (comma ∷ j))) (append_assoc x (y ++ (closing ∷ [])) r)
    ∙ ap (λ (j : List ℕ). opening ∷ (s ++ (comma ∷ (x ++ j)))) (append_assoc y (closing ∷ []) r) in
    rw (nonempty l at opening _ f, byte_this l at opening _ f, field_read l (at + 1) a s w x q y r u v t (past l at opening _ f))
    (ap (λ (next : ℕ). Some (p, next)) (omega (arith, length-append s (comma ∷ (x ++ (y ++ (closing ∷ [])))), length-append x (y ++ (closing ∷ [])), length-append y (closing ∷ []))))

-- a piece has a byte at least
piece_some : (at : ℕ) (p : Piece) (s : List ℕ) → PieceSpelled at p s → (b : ℕ) × (r : List ℕ) × (s ≡ b ∷ r)
piece_some at p s (plain_byte b h k) = (b, [], refl)
piece_some at p s (field a x w y q z u v t) = (opening, x ++ (comma ∷ (y ++ (z ++ (closing ∷ [])))), refl)

pub text_read : (n : ℕ) (l : List ℕ) (at : ℕ) (ps : List Piece) (s : List ℕ) → TextSpelled at ps s → drop at l ≡ s → length s ≤ n → pieces_within n l at ≡ Some ps
unfolding pieces_within before
text_read zero l at ps s (end_of_text at') e h = refl
text_read (suc n) l at ps s (end_of_text at') e h = rw (le-leb (length l) at (omega (arith, ap length e, length-drop at l)))
text_read zero l at ps z (piece at' p s qs t u v) e h =
    let b = piece_some at' p s u in
    absurd (omega (arith, length-append s t, ap length b.2))
text_read (suc n) l at ps z (piece at' p s qs t u v) e h =
    let b = piece_some at p s u in
    rw (nonempty l at b.0 (b.1 ++ t) (e ∙ ap (λ (x : List ℕ). x ++ t) b.2), piece_read l at p s t u e, text_read n l (at + length s) qs t v (onward l at s t e) (omega (arith, length-append s t, ap length b.2)))

-- ---- what is read is spelled

abbrev PlacesFound : List ℕ → ℕ → Option (Option ℕ × ℕ) → Type 0
PlacesFound l at (Some (p, next)) = Found (λ z. (y : List ℕ) × PlacesSpelled p y × (z ≡ y ++ (closing ∷ []))) l at next
PlacesFound l at None = Unit {0}

places_sound : (l : List ℕ) (at : ℕ) → PlacesFound l at (places_at l at)
unfolding places_at digits_at
places_sound l at =
    let s : List ℕ = span Digit (take 1 (drop (at + 1) l)) in
    tested (PlacesFound l at) (byte_is l at "}")
    (λ c. record {
      bytes = closing ∷ [];
      spelled = ([], unsaid, refl);
      here = byte_stands l at closing (eqb-true (byte_at l at) closing c) (omega arith);
      behind = refl;
    })
    (λ c. tested (PlacesFound l at) (byte_is l at ".")
    (λ d. tested (PlacesFound l at) (eqb (length s) 0) (λ z. tt)
    (λ z. tested (PlacesFound l at) (ltb 6 (value_of s)) (λ v. tt)
    (λ v. tested (PlacesFound l at) (byte_is l (at + 2) "}")
    (λ b.
    let w = row_read l (at + 1) 1 (eqb-false (length s) 0 z) in
    let n : length s ≡ 1 = omega (arith, w.enough, w.few) in
    let k : at + 1 + length s ≡ at + 2 = omega arith in
    let j : at + 2 + 1 ≡ at + 3 = omega arith in
    let t : drop (at + 1 + length s) l ≡ closing ∷ drop (at + 3) l = ap (λ (i : ℕ). drop i l) k ∙ byte_stands l (at + 2) closing (eqb-true (byte_at l (at + 2)) closing b) (omega arith) ∙ ap (λ (i : ℕ). closing ∷ drop i l) j in
    record {
      bytes = point ∷ (s ++ (closing ∷ []));
      spelled = (point ∷ s, said s w (ltb-false 6 (value_of s) v), refl);
      here = byte_stands l at point (eqb-true (byte_at l at) point d) (omega arith) ∙ ap (λ (x : List ℕ). point ∷ x) (span_here Digit l (at + 1) 1 ∙ ap (λ (x : List ℕ). s ++ x) t ∙ sym (append_assoc s (closing ∷ []) (drop (at + 3) l)));
      behind = omega (arith, length-append s (closing ∷ []));
    })
    (λ b. tt))))
    (λ d. tt))

-- a field behind its opening brace
abbrev FieldFound : List ℕ → ℕ → Option (Field × ℕ) → Type 0
FieldFound l at (Some (f, next)) = Found (λ z. PieceSpelled at (Placed f) (opening ∷ z)) l (at + 1) next
FieldFound l at None = Unit {0}

-- a width, and what stands behind it
record Sized (w : ℕ) (p : Option ℕ) (z : List ℕ) : Type 0 where
  digits : List ℕ
  rest : List ℕ
  width : Numbered 32 w digits
  places : PlacesSpelled p rest
  joined : z ≡ digits ++ (rest ++ (closing ∷ []))

-- one thing behind another
then_next : {P Q R : List ℕ → Type 0} (l : List ℕ) (at m next : ℕ) → Found P l at m → Found Q l m next → ((s x : List ℕ) → P s → Q x → R (s ++ x)) → Found R l at next
then_next l at m next f g h =
    record {
      bytes = f.bytes ++ g.bytes;
      spelled = h f.bytes g.bytes f.spelled g.spelled;
      here = f.here ∙ ap (λ (x : List ℕ). f.bytes ++ x) g.here ∙ sym (append_assoc f.bytes g.bytes (drop next l));
      behind = omega (arith, f.behind, g.behind, length-append f.bytes g.bytes);
    }

module _ (l : List ℕ) (at : ℕ) where
  placed_sound : (a : Argument) (m w k : ℕ) → Found (ArgumentSpelled (at + 1) a) l (at + 1) m → drop m l ≡ comma ∷ drop (m + 1) l → Found (Numbered 32 w) l (m + 1) k → (x : Option (Option ℕ × ℕ)) → PlacesFound l k x → FieldFound l at (places_of a w x)
  unfolding places_of
  placed_sound a m w k f e g (Some (p, next)) h =
      then_byte l (at + 1) m next comma f e
      (then_next {R = Sized w p} l (m + 1) k next g h (λ x z u v. record { digits = x; rest = v.0; width = u; places = v.1; joined = ap (λ (y : List ℕ). x ++ y) v.2 }))
      (λ s z u v. subst (λ (y : List ℕ). PieceSpelled at (Placed (record { argument = a; width = w; places = p })) (opening ∷ (s ++ (comma ∷ y)))) (sym v.joined) (field a s w v.digits p v.rest u v.width v.places))
  placed_sound a m w k f e g None h = tt

  width_sound : (a : Argument) (m : ℕ) → Found (ArgumentSpelled (at + 1) a) l (at + 1) m → drop m l ≡ comma ∷ drop (m + 1) l → (x : Option (ℕ × ℕ)) → number_at l (m + 1) 32 ≡ x → FieldFound l at (width_next l a x)
  unfolding width_next
  width_sound a m f e (Some (w, next)) h = placed_sound a m w next f e (number_spelled l (m + 1) 32 w next h) (places_at l next) (places_sound l next)
  width_sound a m f e None h = tt

  field_sound : FieldFound l at (field_at l (at + 1))
  unfolding field_at field_of
  field_sound = go (argument_at l (at + 1)) refl
    where
      go : (x : Option (Argument × ℕ)) → argument_at l (at + 1) ≡ x → FieldFound l at (field_of l x)
      go (Some (a, m)) h =
          tested (FieldFound l at) (byte_is l m ",")
          (λ c. width_sound a m (argument_spelled l (at + 1) a m h) (byte_stands l m comma (eqb-true (byte_at l m) comma c) (omega arith)) (number_at l (m + 1) 32) refl)
          (λ c. tt)
      go None h = tt

  abbrev PieceFound : Option (Piece × ℕ) → Type 0
  PieceFound (Some (p, next)) = Found (PieceSpelled at p) l at next
  PieceFound None = Unit {0}

  field_piece : drop at l ≡ opening ∷ drop (at + 1) l → (x : Option (Field × ℕ)) → FieldFound l at x → PieceFound (placed x)
  unfolding placed
  field_piece e (Some (f, next)) g =
      record {
        bytes = opening ∷ g.bytes;
        spelled = g.spelled;
        here = e ∙ ap (λ (x : List ℕ). opening ∷ x) g.here;
        behind = omega (arith, g.behind);
      }
  field_piece e None g = tt

  piece_sound : PieceFound (piece_at l at)
  unfolding piece_at byte_at
  piece_sound =
      tested PieceFound (leb (length l) at) (λ h. tt) (λ h.
      tested PieceFound (byte_is l at "{")
      (λ b. field_piece (byte_stands l at opening (eqb-true (byte_at l at) opening b) (omega arith)) (field_at l (at + 1)) field_sound)
      (λ b. tested PieceFound (byte_is l at "}") (λ c. tt)
      (λ c. record {
        bytes = byte_at l at ∷ [];
        spelled = plain_byte (byte_at l at) (eqb-false (byte_at l at) opening b) (eqb-false (byte_at l at) closing c);
        here = drop-cons l at 0 (leb-false (length l) at h) ∙ ap (λ (k : ℕ). get_or l at 0 ∷ drop k l) (sym (add-one at));
        behind = refl;
      })))

pub piece_spelled : (l : List ℕ) (at : ℕ) (p : Piece) (next : ℕ) → piece_at l at ≡ Some (p, next) → Found (PieceSpelled at p) l at next
piece_spelled l at p next e = subst (PieceFound l at) e (piece_sound l at)

drop_all : (l : List ℕ) (at : ℕ) → length l ≤ at → drop at l ≡ []
drop_all l at h = drop_of_length-le l h

before_some : (p : Piece) (o : Option (List Piece)) (ps : List Piece) → before p o ≡ Some ps → (qs : List Piece) × (o ≡ Some qs) × (ps ≡ p ∷ qs)
unfolding before
before_some p (Some qs) ps e = (qs, refl, (cc))
before_some p None ps e = cc

pub text_spelled : (n : ℕ) (l : List ℕ) (at : ℕ) (ps : List Piece) → length (drop at l) ≤ n → pieces_within n l at ≡ Some ps → TextSpelled at ps (drop at l)
unfolding pieces_within
text_spelled zero l at ps h e = let q : [] ≡ ps = cc in subst (λ (x : List Piece). TextSpelled at x (drop at l)) q (rw (drop_all l at (omega (arith, length-drop at l))) (end_of_text at))
text_spelled (suc n) l at ps h e = go (leb (length l) at) refl e (text_spelled n l)
  where
    rest : (at next : ℕ) (p : Piece) (qs : List Piece) → Found (PieceSpelled at p) l at next → TextSpelled next qs (drop next l) → TextSpelled at (p ∷ qs) (drop at l)
    rest at next p qs f t = rw f.here (piece at p f.bytes qs (drop next l) f.spelled (rw (← f.behind) t))

    found : (at : ℕ) (x : Option (Piece × ℕ)) → piece_at l at ≡ x → length (drop at l) ≤ suc n → elim x [ Some (p, next) ↦ before p (pieces_within n l next) | None ↦ None ] ≡ Some ps → ((at : ℕ) (qs : List Piece) → length (drop at l) ≤ n → pieces_within n l at ≡ Some qs → TextSpelled at qs (drop at l)) → TextSpelled at ps (drop at l)
    found at (Some (p, next)) k h e more =
        let f = piece_spelled l at p next k in
        let b = piece_some at p f.bytes f.spelled in
        let q = before_some p (pieces_within n l next) ps e in
        rw q.2 (rest at next p q.0 f (more next q.0 (omega (arith, h, ap length f.here, length-append f.bytes (drop next l), ap length b.2)) q.1))
    found at None k h e more = cc

    go : (t : Bool) → leb (length l) at ≡ t → cond t (Some []) (elim (piece_at l at) [ Some (p, next) ↦ before p (pieces_within n l next) | None ↦ None ]) ≡ Some ps → ((at : ℕ) (qs : List Piece) → length (drop at l) ≤ n → pieces_within n l at ≡ Some qs → TextSpelled at qs (drop at l)) → TextSpelled at ps (drop at l)
    go true k e more = let q : [] ≡ ps = cc in subst (λ (x : List Piece). TextSpelled at x (drop at l)) q (rw (drop_all l at (leb-true (length l) at k)) (end_of_text at))
    go false k e more = found at (piece_at l at) refl h e more
