-- Fields at their limits: antt computes each. The rows of document 01 that are marked * stand in report/specs/Rows, as
-- whole templates.
use Rattle.std.specs.Prelude.{◌≡◌, refl, List, [], ◌∷◌, map, ℕ, pos, negsuc, Some, None, Option}
use Rattle.meaning.specs.Answer.{integer, decimal, string}
use Rattle.numbers.specs.Range.{within}
use Rattle.numbers.specs.Rounding.{rounded}
use Rattle.numbers.specs.Places.{rounded_to}
use Rattle.fields.specs.Digits.{digits, count_within, digit_count}
use Rattle.fields.specs.Field.{space, asterisk, hyphen, point, question_mark, places_of, negative, minus, fraction, unsigned, right_in, left_in, width_allowed, rounded_field, shown, field_of}

-- what the definition gives, and what is expected
pub record Row : Type 0 where
  pub computed : Option (List ℕ)
  pub expected : Option (List ℕ)

infix 70 ◌gives◌
abbrev ◌gives◌ : Option (List ℕ) → Option (List ℕ) → Row
c gives e = record { computed = c; expected = e }

unfoldable pub rows : List Row
rows =
    -- two thirds in 6.2
    field_of 6 (Some 2) (Some (decimal (pos 666667))) gives Some (space ∷ space ∷ 48 ∷ point ∷ 54 ∷ 55 ∷ [])
    -- −0.5 is −1, and the minus counts
    ∷ field_of 2 (Some 0) (Some (decimal (negsuc 499999))) gives Some (hyphen ∷ 49 ∷ [])
    ∷ field_of 1 (Some 0) (Some (decimal (negsuc 499999))) gives Some (asterisk ∷ [])
    -- an integer in 6.2, and a decimal without places
    ∷ field_of 6 (Some 2) (Some (integer (negsuc 6))) gives Some (space ∷ hyphen ∷ 55 ∷ point ∷ 48 ∷ 48 ∷ [])
    ∷ field_of 8 None (Some (decimal (pos 1))) gives Some (48 ∷ point ∷ 48 ∷ 48 ∷ 48 ∷ 48 ∷ 48 ∷ 49 ∷ [])
    -- strings are cut or filled, whatever d, and so is `???`
    ∷ field_of 2 (Some 3) (Some (string (67 ∷ 115 ∷ 45 ∷ []))) gives Some (67 ∷ 115 ∷ [])
    ∷ field_of 4 None None gives Some (question_mark ∷ question_mark ∷ question_mark ∷ space ∷ [])
    -- a width and places out of their limits
    ∷ field_of 33 None None gives None
    ∷ field_of 9 (Some 7) (Some (integer (pos 1))) gives None
    ∷ []

pub rows_hold : map (λ (r : Row). r.computed) rows ≡ map (λ (r : Row). r.expected) rows
unfolding rows field_of shown rounded_field width_allowed left_in right_in unsigned fraction minus negative places_of digits count_within digit_count rounded_to rounded within
rows_hold = refl
