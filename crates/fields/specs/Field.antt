-- What a field of width w shows, as document 01 says it under "Fields".
use Rattle.std.specs.Prelude.{Bool, not, cond, ◌&&◌, List, [], ◌∷◌, ◌++◌, ℕ, zero, suc, ◌-◌, ◌/◌, ◌^◌, leb, eqb, pos, length, take, replicate, Some, None, Option}
use Rattle.std.specs.Int.Signed.{lt_z}
use Rattle.meaning.specs.Answer.{Value, number, string}
use Rattle.numbers.specs.declared.Quantity.{Quantity}
use Rattle.numbers.specs.declared.Quantity.TheVariants.{Integer, Decimal}
use Rattle.numbers.specs.Places.{rounded_to}
use Rattle.fields.specs.Digits.{digits, digit_count}

abbrev pub space : ℕ
space = 32

abbrev pub asterisk : ℕ
asterisk = 42

abbrev pub hyphen : ℕ
hyphen = 45

abbrev pub point : ℕ
point = 46

abbrev pub question_mark : ℕ
question_mark = 63

-- "without .d, 0 places for an integer, 6 for a decimal"
unfoldable pub places_of : Option ℕ → Quantity → ℕ
places_of (Some d) q = d
places_of None (Integer n) = 0
places_of None (Decimal m) = 6

unfoldable pub negative : Quantity → Bool
negative (Integer n) = lt_z n (pos 0)
negative (Decimal m) = lt_z m (pos 0)

-- "zero has no minus": zero once it is rounded
unfoldable pub minus : Bool → ℕ → List ℕ
minus below u = cond (below && not (eqb u 0)) (hyphen ∷ []) []

-- "0 places no point"
unfoldable pub fraction : ℕ → ℕ → List ℕ
fraction zero u = []
fraction (suc d) u = point ∷ digits (suc d) u

-- u units of the last of d places: "One digit at least precedes the point"
unfoldable pub unsigned : ℕ → ℕ → List ℕ
unsigned d u = digits (digit_count (u / 10 ^ d)) (u / 10 ^ d) ++ fraction d u

-- "numbers are right-aligned"; "A number too long becomes w asterisks"
unfoldable pub right_in : ℕ → List ℕ → List ℕ
right_in w t = cond (leb (length t) w) (replicate (w - length t) space ++ t) (replicate w asterisk)

-- "Strings are left-aligned, filled with spaces or cut to w"
unfoldable pub left_in : ℕ → List ℕ → List ℕ
left_in w s = take w s ++ replicate (w - length s) space

-- "w 1–32"
unfoldable pub width_allowed : ℕ → Bool
width_allowed w = leb 1 w && leb w 32

-- a number that was rounded to d places; none where the number or d is out of its range
unfoldable pub rounded_field : ℕ → ℕ → Bool → Option ℕ → Option (List ℕ)
rounded_field w d below (Some u) = Some (right_in w (minus below u ++ unsigned d u))
rounded_field w d below None = None

-- A value, or none where it is missing. "Missing prints as `???`, like a string"; "d doesn't touch" strings
unfoldable pub shown : ℕ → Option ℕ → Option Value → Option (List ℕ)
shown w p (Some (number q)) = rounded_field w (places_of p q) (negative q) (rounded_to q (places_of p q))
shown w p (Some (string s)) = Some (left_in w s)
shown w p None = Some (left_in w (question_mark ∷ question_mark ∷ question_mark ∷ []))

-- the w bytes of the field, or none where w, d or a number is out of its limits
unfoldable pub field_of : ℕ → Option ℕ → Option Value → Option (List ℕ)
field_of w p v = cond (width_allowed w) (shown w p v) None
