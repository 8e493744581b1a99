-- Powers of ten.
use Rattle.std.specs.Prelude.{ℕ, ◌^◌, cond, leb}

-- units of the last of d places in one whole, with d 0–6
unfoldable pub scale_of : ℕ → ℕ
scale_of d = cond (leb d 6) (10 ^ d) 1000000
