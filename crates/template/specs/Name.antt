-- The names of sections.
use Rattle.std.specs.Prelude.{Bool, cond, ◌&&◌, List, [], ℕ, eqb, length}
use Rattle.scan.specs.Ascii.{ascii}
use Rattle.scan.specs.Line.{window}
use Rattle.scan.specs.Words.{begins}

-- the word and the space before the name
abbrev pub section_word : List ℕ
section_word = ascii "$SEC "

-- "`$SEC name`", "Names are compared by their first eight characters". Empty where the line isn't $SEC. Of the lines that
-- check 3 lets through, just those that begin with `$SEC ` are sections, and nothing stands behind the name
-- (proofs/NameForm)
unfoldable pub name_of : List ℕ → List ℕ
name_of l = cond (begins section_word l) (window l 5 8) []

abbrev pub same_bytes : List ℕ → List ℕ → Bool
same_bytes a b = eqb (length a) (length b) && begins a b
