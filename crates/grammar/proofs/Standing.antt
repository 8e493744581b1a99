-- What stands at a place of a line: words, bytes of a class, and where the next thing begins.
use mathlib.Core.Path.{◌≡◌, refl, sym, ap, ap₂, ◌∙◌}
use mathlib.Core.Bool.{Bool, true, false, cond, false≢true}
use mathlib.Core.List.{List, [], ◌∷◌, ◌++◌}
use Prim.Native.Nat.{ℕ, zero, suc, ◌+◌, ◌≤◌, ◌<◌}
use native.Mathlib.Nat.{add-zero}
use native.Mathlib.Numerals.{add-one}
use native.Mathlib.Omega.{arith}
use borrow.Author.Tests.{eqb-true, eq-eqb}
use lib.Dec.{eqb}
use lib.ListN.{length, get_or, take, drop}
use lib.Seq.{get_or-drop, drop-drop, drop-append_seam, drop-cons}
use Rattle.scan.specs.declared.run.Class.{Class}
use Rattle.scan.specs.Run.{belongs, span}
use Rattle.scan.specs.Line.{byte_at}
use Rattle.scan.specs.Words.{begins, stands_at, Spelled, first_of}
use Rattle.scan.proofs.RunLaws.{byte_within}
use Rattle.grammar.specs.Number.{All}

-- what holds in each case of a test, with its outcome, holds of what it picks
pub tested : {A : Type 0} (P : A → Type 0) (b : Bool) {x y : A} → (b ≡ true → P x) → (b ≡ false → P y) → P (cond b x y)
tested P true p q = p refl
tested P false p q = q refl

-- the bytes from a place up to the next are such
pub record Found (P : List ℕ → Type 0) (l : List ℕ) (at next : ℕ) : Type 0 where
  pub bytes : List ℕ
  pub spelled : P bytes
  pub here : drop at l ≡ bytes ++ drop next l
  pub behind : next ≡ at + length bytes

module _ (l : List ℕ) (at : ℕ) where
  -- the byte there is the first of what begins there
  pub byte_is_law : (s : List ℕ) → drop at l ≡ s → byte_at l at ≡ get_or s 0 0
  unfolding byte_at
  byte_is_law s e = ap (λ (i : ℕ). get_or l i 0) (sym (add-zero at)) ∙ sym (get_or-drop at l 0 0) ∙ ap (λ (x : List ℕ). get_or x 0 0) e

  -- what stands behind something
  pub onward : (s r : List ℕ) → drop at l ≡ s ++ r → drop (at + length s) l ≡ r
  onward s r e = sym (drop-drop (length s) at l) ∙ ap (drop (length s)) e ∙ drop-append_seam s r

  pub past : (b : ℕ) (r : List ℕ) → drop at l ≡ b ∷ r → drop (at + 1) l ≡ r
  past b r e = onward (b ∷ []) r e

  -- a byte other than 0 stands there
  pub byte_stands : (v : ℕ) → byte_at l at ≡ v → 0 < v → drop at l ≡ v ∷ drop (at + 1) l
  unfolding byte_at
  byte_stands v e h =
      drop-cons l at 0 (byte_within l at (byte_at l at) v refl e h) ∙ ap₂ (λ (b k : ℕ). b ∷ drop k l) e (sym (add-one at))

-- ---- words

begins_self : (w r : List ℕ) → begins w (w ++ r) ≡ true
unfolding begins
begins_self [] r = refl
begins_self (a ∷ w) r = rw (eq-eqb a a refl) (begins_self w r)

begins_says : (w s : List ℕ) → begins w s ≡ true → s ≡ w ++ drop (length w) s
unfolding begins
begins_says [] s e = refl
begins_says (a ∷ w) [] e = absurd (false≢true e)
begins_says (a ∷ w) (b ∷ s) e = go (eqb a b) refl e (begins_says w s)
  where
    go : (t : Bool) → eqb a b ≡ t → cond t (begins w s) false ≡ true → (begins w s ≡ true → s ≡ w ++ drop (length w) s) → b ∷ s ≡ a ∷ (w ++ drop (length w) s)
    go true q f more = ap₂ (λ (x : ℕ) (y : List ℕ). x ∷ y) (sym (eqb-true a b q)) (more f)
    go false q f more = absurd (false≢true f)

module _ (w l : List ℕ) (at : ℕ) where
  pub stands : (r : List ℕ) → drop at l ≡ w ++ r → stands_at w l at ≡ true
  unfolding stands_at
  stands r e = ap (begins w) e ∙ begins_self w r

  -- another word stands there
  pub other_word : (s : List ℕ) → drop at l ≡ s → begins w s ≡ false → stands_at w l at ≡ false
  unfolding stands_at
  other_word s e h = ap (begins w) e ∙ h

  pub stands_says : stands_at w l at ≡ true → drop at l ≡ w ++ drop (at + length w) l
  unfolding stands_at
  stands_says e = begins_says w (drop at l) e ∙ ap (λ (x : List ℕ). w ++ x) (drop-drop (length w) at l)

-- ---- bytes of a class

-- what follows doesn't go on with the class
abbrev pub Stops : Class → List ℕ → Type 0
Stops class [] = Unit {0}
Stops class (b ∷ r) = belongs class b ≡ false

module _ (class : Class) where
  pub span_all : (s : List ℕ) → All class (span class s)
  unfolding span All
  span_all [] = tt
  span_all (b ∷ s) = tested (All class) (belongs class b) (λ e. (e, span_all s)) (λ e. tt)

  span_stops : (n : ℕ) (r : List ℕ) → Stops class r → span class (take n r) ≡ []
  unfolding span
  span_stops zero r h = refl
  span_stops (suc n) [] h = refl
  span_stops (suc n) (b ∷ r) h = rw h

  -- a row of bytes of the class is read whole where it ends
  pub span_exact : (s r : List ℕ) (n : ℕ) → All class s → length s ≤ n → Stops class r → span class (take n (s ++ r)) ≡ s
  unfolding span All
  span_exact [] r n a h k = span_stops n r k
  span_exact (b ∷ s) r zero a h k = absurd (omega arith)
  span_exact (b ∷ s) r (suc n) a h k = rw a.0 (ap (λ (x : List ℕ). b ∷ x) (span_exact s r n a.1 (omega arith) k))

  span_front : (n : ℕ) (w : List ℕ) → span class (take n w) ++ drop (length (span class (take n w))) w ≡ w
  unfolding span
  span_front zero w = refl
  span_front (suc n) [] = refl
  span_front (suc n) (b ∷ w) = go (belongs class b) (span_front n w)
    where
      go : (t : Bool) → span class (take n w) ++ drop (length (span class (take n w))) w ≡ w → cond t (b ∷ span class (take n w)) [] ++ drop (length (cond t (b ∷ span class (take n w)) [])) (b ∷ w) ≡ b ∷ w
      go true e = ap (λ (x : List ℕ). b ∷ x) e
      go false e = refl

  -- what is read of a part of a line stands there
  pub span_here : (l : List ℕ) (at n : ℕ) → drop at l ≡ span class (take n (drop at l)) ++ drop (at + length (span class (take n (drop at l)))) l
  span_here l at n =
      sym (span_front n (drop at l)) ∙ ap (λ (x : List ℕ). span class (take n (drop at l)) ++ x) (drop-drop (length (span class (take n (drop at l)))) at l)

-- ---- what the words of a table begin, where one stands

infixr 5 ◌or◌
pub data EachWord {A : Type 0} (P : A → Type 0) (l : List ℕ) (at : ℕ) : List (Spelled A) → Type 0 where
  no_more : EachWord P l at []
  ◌or◌ : {e : Spelled A} {es : List (Spelled A)} → (stands_at e.word l at ≡ true → P (e.form l (at + length e.word))) → EachWord P l at es → EachWord P l at (e ∷ es)

pub found_word : {A : Type 0} (P : A → Type 0) (none : A) (es : List (Spelled A)) (l : List ℕ) (at : ℕ) → P none → EachWord P l at es → P (first_of none es l at)
unfolding first_of
found_word P none [] l at x no_more = x
found_word P none (e ∷ es) l at x (h or hs) = tested P (stands_at e.word l at) h (λ q. found_word P none es l at x hs)
