-- "its matching `$ELSE`, or `$ENDIF` if there is none", "the matching $ET": by what is open behind each line, as check 4 has it.
use Rattle.std.specs.Prelude.{◌≡◌, List, ◌∷◌, ℕ, ◌+◌, length, Some}
use Rattle.nesting.specs.Nest.{Mark, else_part}
use Rattle.template.specs.declared.seek.Sought.{Sought}
use Rattle.template.specs.declared.seek.Sought.TheVariants.{Branch}
use Rattle.template.specs.Checks.{nest_step}

-- what is open behind the match, where M was open around the test or table: just M, or for a failed test its $ELSE part
pub data Around (M : List Mark) : Sought → List Mark → Type 0 where
  closed : (q : Sought) → Around M q M
  turned : Around M Branch (else_part ∷ M)

-- of some lines, W being open before them, the match is the first behind which that is open: so many bytes, with their line ends,
-- and so many lines reach behind it
pub data MatchedBy (q : Sought) (M : List Mark) : List Mark → List (List ℕ) → ℕ → ℕ → Type 0 where
  this : (W X : List Mark) (l : List ℕ) (ls : List (List ℕ)) → nest_step W l ≡ Some X → Around M q X → MatchedBy q M W (l ∷ ls) (length l + 1) 1
  later : (W X : List Mark) (l : List ℕ) (ls : List (List ℕ)) (bytes lines : ℕ) → nest_step W l ≡ Some X → (Around M q X → ⊥) → MatchedBy q M X ls bytes lines → MatchedBy q M W (l ∷ ls) (length l + 1 + bytes) (1 + lines)
