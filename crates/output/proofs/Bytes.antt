-- Bytes that may stand in a line: of parts of clean bytes, and of the lines of a template that check 2 let through.
use Rattle.std.specs.Prelude.{Some, None}
use mathlib.Core.Path.{◌≡◌, refl, sym, subst}
use mathlib.Core.Bool.{Bool, true, false, cond, not, ◌&&◌, ◌||◌, false≢true}
use mathlib.Core.List.{List, [], ◌∷◌, ◌++◌, map}
use Prim.Native.Nat.{ℕ, zero, suc, ◌+◌, ◌-◌, ◌≤◌, ◌<◌}
use native.Mathlib.Omega.{arith}
use borrow.Author.Tests.{leb-true, ltb-false}
use lib.Dec.{ltb, leb, eqb}
use lib.ListN.{length, take, drop, replicate, get_or, length-drop}
use Rattle.meaning.specs.Each.{Each}
use Rattle.scan.specs.declared.run.Class.TheVariants.{Allowed, InLine}
use Rattle.scan.specs.Run.{belongs, span, in_range}
use Rattle.scan.specs.Line.{all_allowed, line_of, line_at}
use Rattle.template.specs.Lines.{lines_within, lines_of}
use Rattle.template.specs.Verdicts.{first_fault, line_allowed, bytes_check}
use Rattle.cells.proofs.BigEndian.{and_true}
use Rattle.values.specs.Letters.{upper}
use Rattle.output.specs.Printable.{Printable, Clean}

-- ---- parts

module _ {A : Type 0} (P : A → Type 0) where
  pub each_take : (n : ℕ) (l : List A) → Each P l → Each P (take n l)
  each_take zero l h = tt
  each_take (suc n) [] h = tt
  each_take (suc n) (x ∷ l) h = (h.0, each_take n l h.1)

  pub each_drop : (n : ℕ) (l : List A) → Each P l → Each P (drop n l)
  each_drop zero l h = h
  each_drop (suc n) [] h = tt
  each_drop (suc n) (x ∷ l) h = each_drop n l h.1

  pub each_append : (l m : List A) → Each P l → Each P m → Each P (l ++ m)
  each_append [] m h k = k
  each_append (x ∷ l) m h k = (h.0, each_append l m h.1 k)

  pub each_replicate : (n : ℕ) (x : A) → P x → Each P (replicate n x)
  each_replicate zero x p = tt
  each_replicate (suc n) x p = (p, each_replicate n x p)

  pub each_parts : (n : ℕ) (l : List A) → Each P (take n l) → Each P (drop n l) → Each P l
  each_parts zero l h k = k
  each_parts (suc n) [] h k = tt
  each_parts (suc n) (x ∷ l) h k = (h.0, each_parts n l h.1 k)

  pub each_at : (d : A) (l : List A) (i : ℕ) → i < length l → Each P l → P (get_or l i d)
  each_at d [] i h k = absurd (omega arith)
  each_at d (x ∷ l) zero h k = k.0
  each_at d (x ∷ l) (suc i) h k = each_at d l i (omega arith) k.1

-- ---- upper case

upper_printable : (b : ℕ) → Printable b → Printable (upper b)
unfolding upper
upper_printable b h = go (ltb b 97) refl (ltb 122 b)
  where
    go : (x : Bool) → ltb b 97 ≡ x → (y : Bool) → Printable (cond x b (cond y b (b - 32)))
    go true e y = h
    go false e true = h
    go false e false = record { least = omega (arith, ltb-false b 97 e); most = omega (arith, h.most) }

pub upper_clean : (s : List ℕ) → Clean s → Clean (map upper s)
upper_clean [] h = tt
upper_clean (b ∷ s) h = (upper_printable b h.0, upper_clean s h.1)

-- ---- a template that check 2 let through

-- "each 0x20–0x7E or 0x0A"
abbrev pub Permitted : ℕ → Type 0
Permitted b = belongs Allowed b ≡ true

pub all_permitted : (l : List ℕ) → all_allowed l ≡ true → Each Permitted l
unfolding all_allowed
all_permitted [] h = tt
all_permitted (b ∷ l) h = go (belongs Allowed b) refl h (all_permitted l)
  where
    go : (x : Bool) → belongs Allowed b ≡ x → cond x (all_allowed l) false ≡ true → (all_allowed l ≡ true → Each Permitted l) → Each Permitted (b ∷ l)
    go true e k rest = (e, rest k)
    go false e k rest = absurd (false≢true k)

printable_in : (b : ℕ) → Permitted b → eqb b 10 ≡ false → Printable b
unfolding belongs
printable_in b h e =
    let t = and_true (leb 32 b) (leb b 126) (rw e at h) in
    record { least = leb-true 32 b t.0; most = leb-true b 126 t.1 }

span_clean : (s : List ℕ) → Each Permitted s → Clean (span InLine s)
unfolding span belongs
span_clean [] h = tt
span_clean (b ∷ s) h = go (eqb b 10) refl (span_clean s h.1)
  where
    go : (x : Bool) → eqb b 10 ≡ x → Clean (span InLine s) → Clean (cond (not x) (b ∷ span InLine s) [])
    go true e k = tt
    go false e k = (printable_in b h.0 e, k)

-- A line of such a template, wherever it starts.
pub line_clean : (t : List ℕ) → Each Permitted t → (at : ℕ) → Clean (line_at t at)
line_clean t h at = span_clean (drop at t) (each_drop Permitted at t h)

a_line_end : (b : ℕ) → belongs InLine b ≡ false → Permitted b
unfolding belongs
a_line_end b e = go (eqb b 10) refl e
  where
    go : (x : Bool) → eqb b 10 ≡ x → not x ≡ false → (x || in_range b 32 126) ≡ true
    go true f k = refl
    go false f k = absurd (false≢true (sym k))

-- what stands behind a line, its line end with it
behind_line : (s : List ℕ) → Each Permitted (span InLine s) → Each Permitted (drop (length (span InLine s) + 1) s) → Each Permitted s
unfolding span
behind_line [] h k = tt
behind_line (b ∷ s) h k = go (belongs InLine b) refl h k (behind_line s)
  where
    go : (x : Bool) → belongs InLine b ≡ x → Each Permitted (cond x (b ∷ span InLine s) []) → Each Permitted (drop (length (cond x (b ∷ span InLine s) []) + 1) (b ∷ s)) → (Each Permitted (span InLine s) → Each Permitted (drop (length (span InLine s) + 1) s) → Each Permitted s) → Each Permitted (b ∷ s)
    go true e h k rest =
        let z : suc (length (span InLine s)) + 1 ≡ suc (length (span InLine s) + 1) = omega arith in
        (h.0, rest h.1 (subst (λ (m : ℕ). Each Permitted (drop m (b ∷ s))) z k))
    go false e h k rest = (a_line_end b e, k)

fault_fine : (n : ℕ) → Some n ≡ None → ⊥
fault_fine n e = let z : ◌≡◌ {A = ℕ} 0 1 = cc in omega arith

-- check 2 finds nothing in these lines: all that they are of is permitted
lines_permitted : (n k : ℕ) (t : List ℕ) → length t ≤ n → first_fault line_allowed k (lines_within n t) ≡ None → Each Permitted t
unfolding lines_within first_fault line_allowed
lines_permitted zero k [] h e = tt
lines_permitted zero k (b ∷ t) h e = absurd (omega arith)
lines_permitted (suc n) k [] h e = tt
lines_permitted (suc n) k (b ∷ t) h e =
    go (leb (length (line_of (b ∷ t))) 132) (all_allowed (line_of (b ∷ t))) refl e
    (lines_permitted n (suc k) (drop (length (line_of (b ∷ t)) + 1) (b ∷ t)) (omega (arith, length-drop (length (line_of (b ∷ t)) + 1) (b ∷ t))))
  where
    rest : List ℕ
    rest = drop (length (line_of (b ∷ t)) + 1) (b ∷ t)

    go : (x y : Bool) → all_allowed (line_of (b ∷ t)) ≡ y → cond (x && y) (first_fault line_allowed (suc k) (lines_within n rest)) (Some k) ≡ None → (first_fault line_allowed (suc k) (lines_within n rest) ≡ None → Each Permitted rest) → Each Permitted (b ∷ t)
    go true true f e more = behind_line (b ∷ t) (all_permitted (line_of (b ∷ t)) f) (more e)
    go true false f e more = absurd (fault_fine k e)
    go false y f e more = absurd (fault_fine k e)

-- "A template has at most 32,768 bytes, each 0x20–0x7E or 0x0A."
pub bytes_permitted : (t : List ℕ) → bytes_check t ≡ None → Each Permitted t
unfolding bytes_check lines_of
bytes_permitted t e = go (ltb 32768 (length t)) e
  where
    go : (x : Bool) → cond x (Some 0) (first_fault line_allowed 1 (lines_within (length t) t)) ≡ None → Each Permitted t
    go true e = absurd (fault_fine 0 e)
    go false e = lines_permitted (length t) 1 t (omega arith) e
