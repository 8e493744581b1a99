-- The definitions at work: some trees, and what their runs come to.
use mathlib.Core.Path.{◌≡◌, refl}
use mathlib.Core.List.{List, [], ◌∷◌}
use Prim.Native.Nat.{ℕ}
use lib.ListN.{length}
use lib.IntN.{pos}
use Rattle.meaning.specs.Answer.{Answer, cell, integer}
use Rattle.meaning.specs.Event.{line, break, joined, page_from, later_pages, pages_of}
use Rattle.meaning.specs.Tree.{done, stop, ask, print, Run, text_of, run}
use Rattle.meaning.specs.Number.{number_of, line_named}
use Rattle.meaning.specs.Meaning.{Meaning}
use Rattle.meaning.specs.declared.question.Question.{Question}
use Rattle.meaning.specs.declared.refusal.Refusal.{Refusal}
use Rattle.meaning.specs.declared.refusal.Refusal.TheVariants.{MissingArgument}

-- The question for a parameter's cell, and a store in which each such cell holds the parameter's number.
abbrev P : ℕ → Question
P n = record { kind = 1; datasource = 1; parameter = n; «record» = 0; entry = 0 }

abbrev source : Question → Answer
source q = cell (integer (pos q.parameter))

-- Two lines of two bytes each.
abbrev A : List ℕ
A = 65 ∷ 10 ∷ []

abbrev B : List ℕ
B = 66 ∷ 10 ∷ []

abbrev asks_twice : Meaning ℕ
asks_twice = ask (P 1) 5 (λ _. ask (P 2) 6 (λ _. done 0))

abbrev prints_twice : Meaning ℕ
prints_twice = print (line A) 2 (print (line B) 3 (done 0))

-- A break between the lines, with its bytes.
abbrev breaks_once : List ℕ → Meaning ℕ
breaks_once b = print (line A) 2 (print (break b) 3 (print (line B) 4 (done 0)))

abbrev is_refused : Meaning ℕ
is_refused = print (line A) 2 (ask (P 9) 3 (λ _. stop MissingArgument 3))

-- What a run comes to: number, line, pages, text and questions.
pub data Result : Type 0 where
  result : ℕ → ℕ → ℕ → List ℕ → List Question → Result

abbrev result_of : Run Question Refusal ℕ ℕ → Result
result_of x = result (number_of x.end) (line_named x.end) (length (pages_of x.events)) (text_of x) x.asked

abbrev in_space : ℕ → ℕ → Meaning ℕ → Result
in_space places room t = result_of (run source places room t)

-- Results in so many places and so many bytes of room.
abbrev Rows : Type 0
Rows =
    (in_space 2 0 asks_twice ≡ result 0 0 1 [] (P 1 ∷ P 2 ∷ []))
    -- no place for the second question
    × (in_space 1 0 asks_twice ≡ result 9 6 1 [] (P 1 ∷ []))
    × (in_space 0 4 prints_twice ≡ result 0 0 1 (65 ∷ 10 ∷ 66 ∷ 10 ∷ []) [])
    -- one byte short of the second line, of which nothing is printed
    × (in_space 0 3 prints_twice ≡ result 14 3 1 A [])
    -- a break writes a form feed, or nothing under $NOFF, and is a page more either way
    × (in_space 0 5 (breaks_once (12 ∷ [])) ≡ result 0 0 2 (65 ∷ 10 ∷ 12 ∷ 66 ∷ 10 ∷ []) [])
    × (in_space 0 4 (breaks_once []) ≡ result 0 0 2 (65 ∷ 10 ∷ 66 ∷ 10 ∷ []) [])
    -- a form feed alone that doesn't fit is no page more; a break that does stays though the line behind it is refused
    × (in_space 0 2 (breaks_once (12 ∷ [])) ≡ result 14 3 1 A [])
    × (in_space 0 3 (breaks_once (12 ∷ [])) ≡ result 14 4 2 (65 ∷ 10 ∷ 12 ∷ []) [])
    -- what was printed and asked before a refusal stands
    × (in_space 1 2 is_refused ≡ result 10 3 1 A (P 9 ∷ []))
    -- the lines of each page
    × (pages_of (line A ∷ break [] ∷ break [] ∷ line B ∷ line A ∷ []) ≡ (A ∷ []) ∷ [] ∷ (B ∷ A ∷ []) ∷ [])

-- The rows hold.
pub rows : Rows
unfolding run joined page_from later_pages pages_of
rows = (refl, refl, refl, refl, refl, refl, refl, refl, refl, refl)
