-- Every field shows printable bytes.
use Rattle.std.specs.Prelude.{Some, None, Option}
use mathlib.Core.Path.{◌≡◌, refl}
use mathlib.Core.Bool.{Bool, true, false, cond, not, ◌&&◌}
use mathlib.Core.List.{List, [], ◌∷◌, ◌++◌}
use Prim.Native.Nat.{ℕ, zero, suc, ◌+◌, ◌-◌, ◌/◌, ◌%◌, ◌^◌}
use native.Mathlib.Omega.{arith}
use borrow.Author.Tests.{leb-true}
use lib.Dec.{leb, eqb}
use lib.ListN.{length, take, replicate}
use Rattle.numbers.specs.Places.{rounded_to}
use Rattle.fields.specs.Digits.{digits, digit_count}
use Rattle.fields.specs.Field.{space, asterisk, hyphen, point, question_mark, places_of, negative, minus, fraction, unsigned, right_in, left_in, width_allowed, rounded_field, shown, field_of}
use Rattle.values.specs.Worth.{Worth, missing, wrong, number, string}
use Rattle.pages.specs.Shown.{shown_value, or_stars, field_bytes}
use Rattle.output.specs.Printable.{Printable, Clean}
use Rattle.output.proofs.Bytes.{each_take, each_append, each_replicate}

digit_printable : (n : ℕ) → Printable (48 + n % 10)
digit_printable n = record { least = omega arith; most = omega arith }

digits_clean : (k n : ℕ) → Clean (digits k n)
unfolding digits
digits_clean zero n = tt
digits_clean (suc k) n = each_append Printable (digits k (n / 10)) ((48 + n % 10) ∷ []) (digits_clean k (n / 10)) (digit_printable n, tt)

constant : (b : ℕ) → leb 32 b ≡ true → leb b 126 ≡ true → Printable b
constant b h k = record { least = leb-true 32 b h; most = leb-true b 126 k }

minus_clean : (below : Bool) (u : ℕ) → Clean (minus below u)
unfolding minus
minus_clean below u = go (below && not (eqb u 0))
  where
    go : (x : Bool) → Clean (cond x (hyphen ∷ []) [])
    go true = (constant hyphen refl refl, tt)
    go false = tt

fraction_clean : (d u : ℕ) → Clean (fraction d u)
unfolding fraction
fraction_clean zero u = tt
fraction_clean (suc d) u = (constant point refl refl, digits_clean (suc d) u)

unsigned_clean : (d u : ℕ) → Clean (unsigned d u)
unfolding unsigned
unsigned_clean d u = each_append Printable (digits (digit_count (u / 10 ^ d)) (u / 10 ^ d)) (fraction d u) (digits_clean _ _) (fraction_clean d u)

stars_clean : (w : ℕ) → Clean (replicate w asterisk)
stars_clean w = each_replicate Printable w asterisk (constant asterisk refl refl)

right_clean : (w : ℕ) (t : List ℕ) → Clean t → Clean (right_in w t)
unfolding right_in
right_clean w t h = go (leb (length t) w)
  where
    go : (x : Bool) → Clean (cond x (replicate (w - length t) space ++ t) (replicate w asterisk))
    go true = each_append Printable (replicate (w - length t) space) t (each_replicate Printable (w - length t) space (constant space refl refl)) h
    go false = stars_clean w

left_clean : (w : ℕ) (s : List ℕ) → Clean s → Clean (left_in w s)
unfolding left_in
left_clean w s h = each_append Printable (take w s) (replicate (w - length s) space) (each_take Printable w s h) (each_replicate Printable (w - length s) space (constant space refl refl))

-- a field's bytes, where it has some
abbrev Shown : Option (List ℕ) → Type 0
Shown None = Unit {0}
Shown (Some s) = Clean s

rounded_clean : (w d : ℕ) (below : Bool) (r : Option ℕ) → Shown (rounded_field w d below r)
unfolding rounded_field
rounded_clean w d below (Some u) = right_clean w (minus below u ++ unsigned d u) (each_append Printable (minus below u) (unsigned d u) (minus_clean below u) (unsigned_clean d u))
rounded_clean w d below None = tt

question_marks : Clean (question_mark ∷ question_mark ∷ question_mark ∷ [])
question_marks = let q = constant question_mark refl refl in (q, (q, (q, tt)))

-- what an argument is worth, where it is a string
abbrev pub WorthClean : Worth → Type 0
WorthClean missing = Unit {0}
WorthClean wrong = Unit {0}
WorthClean (number q) = Unit {0}
WorthClean (string s) = Clean s

shown_clean : (w : ℕ) (p : Option ℕ) (x : Worth) → WorthClean x → Shown (shown w p (shown_value x))
unfolding shown shown_value
shown_clean w p missing h = left_clean w (question_mark ∷ question_mark ∷ question_mark ∷ []) question_marks
shown_clean w p wrong h = left_clean w (question_mark ∷ question_mark ∷ question_mark ∷ []) question_marks
shown_clean w p (number q) h = rounded_clean w (places_of p q) (negative q) (rounded_to q (places_of p q))
shown_clean w p (string s) h = left_clean w s h

or_stars_law : (w : ℕ) (o : Option (List ℕ)) → Shown o → Clean (or_stars w o)
unfolding or_stars
or_stars_law w None h = stars_clean w
or_stars_law w (Some s) h = h

pub field_clean : (w : ℕ) (p : Option ℕ) (x : Worth) → WorthClean x → Clean (field_bytes w p x)
unfolding field_bytes field_of
field_clean w p x h = go (width_allowed w)
  where
    go : (y : Bool) → Clean (or_stars w (cond y (shown w p (shown_value x)) None))
    go true = or_stars_law w (shown w p (shown_value x)) (shown_clean w p x h)
    go false = or_stars_law w None tt
