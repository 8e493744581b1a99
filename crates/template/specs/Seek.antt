-- Where a failed test, an executed $ELSE and a $BT with n below 1 go on.
use Rattle.std.specs.Prelude.{cond, List, [], ◌∷◌, ℕ, zero, suc, ◌+◌, ltb, length, Option, Some, None}
use Rattle.nesting.specs.declared.Shape.{Shape}
use Rattle.nesting.specs.declared.Shape.TheVariants.{Section, Remark, Test, Else, EndTest, Table, EndTable, Plain, NoForm}
use Rattle.template.specs.declared.seek.Sought.{Sought}
use Rattle.template.specs.declared.seek.Sought.TheVariants.{Branch, TestEnd, TableEnd}
use Rattle.template.specs.declared.seek.Role.{Role}
use Rattle.template.specs.declared.seek.Role.TheVariants.{Opens, Closes, Divides, Passes}
use Rattle.template.specs.declared.seek.Skip.{Skip}
use Rattle.template.specs.Lines.{lines_of}
use Rattle.template.specs.Shape.{word_shape}

-- a failed test and an executed $ELSE look among tests, a skipped table among tables
unfoldable pub among_tests : Sought → Role → Role
among_tests Branch r = r
among_tests TestEnd r = r
among_tests TableEnd r = Passes

unfoldable pub among_tables : Sought → Role → Role
among_tables Branch r = Passes
among_tables TestEnd r = Passes
among_tables TableEnd r = r

-- a $ELSE ends the search of a failed test only
unfoldable pub at_else : Sought → Role
at_else Branch = Divides
at_else TestEnd = Passes
at_else TableEnd = Passes

unfoldable pub role_of : Sought → Shape → Role
role_of q Section = Passes
role_of q Remark = Passes
role_of q Test = among_tests q Opens
role_of q Else = at_else q
role_of q EndTest = among_tests q Closes
role_of q Table = among_tables q Opens
role_of q EndTable = among_tables q Closes
role_of q Plain = Passes
role_of q NoForm = Passes

-- behind a line, with d tests or tables open inside: "matching" is what closes or divides none of these
unfoldable pub way_past : Role → ℕ → Option ℕ
way_past Opens d = Some (suc d)
way_past Closes zero = None
way_past Closes (suc d) = Some d
way_past Divides zero = None
way_past Divides (suc d) = Some (suc d)
way_past Passes d = Some d

unfoldable pub or_skip : Option ℕ → (ℕ → Skip) → Skip → Skip
or_skip (Some d) next skip = next d
or_skip None next skip = skip

-- the lines up to the one that matches, each by its word, behind some bytes and n lines, with d open inside
unfoldable pub skip_from : Sought → ℕ → ℕ → ℕ → List (List ℕ) → Skip
skip_from q d at n [] = record { bytes = at; lines = n }
skip_from q d at n (l ∷ ls) =
    or_skip (way_past (role_of q (word_shape l)) d) (λ k. skip_from q k (at + length l + 1) (suc n) ls) (record { bytes = at + length l + 1; lines = suc n })

-- "the last may lack it": no more bytes than the part has
unfoldable pub cut_to : ℕ → Skip → Skip
cut_to most k = cond (ltb most k.bytes) (record { bytes = most; lines = k.lines }) k

-- "A template has at most 32,768 bytes"; nothing of a longer part is passed over
unfoldable pub skipped : List ℕ → Sought → Skip
skipped t q = cond (ltb 32768 (length t)) (record { bytes = 0; lines = 0 }) (cut_to (length t) (skip_from q 0 0 0 (lines_of t)))
