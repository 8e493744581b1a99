-- Rounding to places.
use Rattle.std.specs.Prelude.{ℕ, ◌-◌, ◌^◌, cond, ◌&&◌, leb, nat_abs, Option, Some, None}
use Rattle.numbers.specs.declared.Quantity.{Quantity}
use Rattle.numbers.specs.Range.{decimal_limit, within, millionths}
use Rattle.numbers.specs.Rounding.{rounded}

-- "rounded to d places, halves away from zero", with d 0–6: the magnitude in units of 10^-d
unfoldable pub rounded_to : Quantity → ℕ → Option ℕ
rounded_to q d =
    cond (leb d 6 && within decimal_limit (millionths q)) (Some (rounded (nat_abs (millionths q)) (10 ^ (6 - d)))) None
