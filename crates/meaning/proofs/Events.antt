-- Laws of lists of events: their text, their breaks and their pages.
use mathlib.Core.Path.{◌≡◌, refl, ap}
use mathlib.Core.List.{List, [], ◌∷◌, ◌++◌, append_assoc}
use Prim.Native.Nat.{ℕ, suc, ◌+◌, ◌≤◌}
use native.Mathlib.Omega.{arith}
use lib.ListN.{length}
use Rattle.meaning.specs.Each.{Each}
use Rattle.meaning.specs.Event.{Event, line, break, joined, breaks, page_from, later_pages, pages_of}
use Rattle.meaning.specs.Rule.{AllAllowed, page_limit}

-- The text of one list of events behind another.
pub joined_append : (vs ws : List Event) → joined (vs ++ ws) ≡ joined vs ++ joined ws
unfolding joined
joined_append [] ws = refl
joined_append (v ∷ vs) ws = rw (joined_append vs ws, append_assoc)

-- The breaks of one list of events behind another.
pub breaks_append : (vs ws : List Event) → breaks (vs ++ ws) ≡ breaks vs + breaks ws
unfolding breaks
breaks_append [] ws = omega arith
breaks_append (line b ∷ vs) ws = breaks_append vs ws
breaks_append (break b ∷ vs) ws = omega (arith, breaks_append vs ws)

later_count : (vs : List Event) → length (later_pages vs) ≡ breaks vs
unfolding later_pages breaks
later_count [] = refl
later_count (line b ∷ vs) = later_count vs
later_count (break b ∷ vs) = ap suc (later_count vs)

-- There is one page more than breaks.
pub page_count : (vs : List Event) → length (pages_of vs) ≡ 1 + breaks vs
unfolding pages_of
page_count vs = omega (arith, later_count vs)

abbrev Short : ℕ → List (List ℕ) → Type 0
Short m page = length page ≤ m

limited : (m c : ℕ) (vs : List Event) → c ≤ m → AllAllowed (page_limit m) c vs → (c + length (page_from vs) ≤ m) × Each (Short m) (later_pages vs)
unfolding page_from later_pages
limited m c [] h a = (omega arith, tt)
limited m c (line b ∷ vs) h a = let i = limited m (suc c) vs a.0 a.1 in (omega (arith, i.0), i.1)
limited m c (break b ∷ vs) h a = let i = limited m 0 vs (omega arith) a.1 in (omega arith, (omega (arith, i.0), i.1))

-- Where no line is printed on a page that has m lines, each page has at most m.
pub pages_limited : (m : ℕ) (vs : List Event) → AllAllowed (page_limit m) 0 vs → Each (λ page. length page ≤ m) (pages_of vs)
unfolding pages_of
pages_limited m vs a = let i = limited m 0 vs (omega arith) a in (omega (arith, i.0), i.1)
