-- Signed numbers by sign and magnitude.
use Rattle.std.specs.Prelude.{ℕ, Bool, true, false, not, ℤ, pos, neg_ℤ}
use Rattle.std.specs.Bool.{beq}
use Rattle.std.specs.Int.Signed.{lt_z}

-- minus m where the flag is set, else m
abbrev pub signed : Bool → ℕ → ℤ
signed true m = neg_ℤ (pos m)
signed false m = pos m

-- exactly one of two numbers is below zero
unfoldable pub opposed : ℤ → ℤ → Bool
opposed a b = not (beq (lt_z a (pos 0)) (lt_z b (pos 0)))
