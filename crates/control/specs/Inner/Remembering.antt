-- Jumps that are remembered: a word of their bank is 0, or a place with what is sought from there, and how much is passed over.
use Rattle.std.specs.Prelude.{◌≡◌, List, ℕ, ◌+◌, ◌*◌, ◌/◌, ◌%◌, ◌≤◌, drop}
use Rattle.meaning.specs.Each.{Each}
use Rattle.template.specs.declared.seek.Sought.{Sought}
use Rattle.template.specs.declared.seek.Sought.TheVariants.{Branch, TestEnd, TableEnd}
use Rattle.template.specs.declared.seek.Skip.{Skip}
use Rattle.template.specs.Seek.{skipped}
use Rattle.values.specs.Inner.State.{bank, jumps_in}

-- a place and what is sought from there, as one number that is not 0
unfoldable pub jump_mark : ℕ → Sought → ℕ
jump_mark at Branch = at * 4 + 1
jump_mark at TestEnd = at * 4 + 2
jump_mark at TableEnd = at * 4 + 3

-- from the highest bits down: the mark, 17 bits of bytes, 17 of lines
abbrev pub jump_word : ℕ → Skip → ℕ
jump_word m k = (m * 131072 + k.bytes) * 131072 + k.lines

abbrev pub mark_in : ℕ → ℕ
mark_in w = w / 17179869184

abbrev pub skip_in : ℕ → Skip
skip_in w = record { bytes = w / 131072 % 131072; lines = w % 131072 }

-- what a word holds fits its bits
pub record Holdable (m : ℕ) (k : Skip) : Type 0 where
  pub mark : m ≤ 524288
  pub bytes : k.bytes ≤ 65536
  pub lines : k.lines ≤ 65536

-- a jump that a word holds is the one that the template has
pub record RightJump (t : List ℕ) (w : ℕ) : Type 0 where
  pub skip : (at : ℕ) (q : Sought) → mark_in w ≡ jump_mark at q → skipped (drop at t) q ≡ skip_in w

pub record Remembered (t words : List ℕ) : Type 0 where
  pub jumps : Each (RightJump t) (jumps_in words)

-- behind a jump: those that are remembered are right, and no other register is set
pub record Remembers (t words words' : List ℕ) : Type 0 where
  pub right : Remembered t words'
  pub others : (i k : ℕ) → i + k ≤ 148 → bank i k words' ≡ bank i k words
