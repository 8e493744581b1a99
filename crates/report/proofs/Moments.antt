-- A text line with what comes before it: the page at the moment of each heading, of the blank line behind them and of the text line
-- is in range, and so is all that their fields see.
use mathlib.Core.Path.{◌≡◌, refl}
use mathlib.Core.Bool.{Bool, true, false, cond}
use mathlib.Core.List.{List, [], ◌∷◌}
use Prim.Native.Nat.{ℕ, ◌+◌, ◌≤◌}
use native.Mathlib.Omega.{arith}
use borrow.Author.Tests.{ltb-false}
use lib.Dec.{ltb}
use lib.ListN.{length}
use Rattle.numbers.specs.Range.{integer_limit}
use Rattle.values.specs.Machine.{Machine}
use Rattle.values.proofs.Ranges.{MachineWithin}
use Rattle.pages.specs.declared.page.Page.{Page}
use Rattle.pages.specs.declared.heading.Heading.{Heading}
use Rattle.pages.specs.Page.{broken_of, advanced_of, on}
use Rattle.pages.specs.Inner.Listing.{turned_page, Due, text_due, lines_due}
use Rattle.pages.proofs.Listing.{lines_few}
use Rattle.pages.proofs.Ranges.{on_within}

-- PAGENUM is in range, LINENUM 1–60, and so is the machine that the fields see
pub record Moment (m : Machine) (p : Page) : Type 0 where
  pub number : p.number ≤ integer_limit
  pub least : 1 ≤ p.row
  pub most : p.row ≤ 60
  pub machine : MachineWithin (on m p)

abbrev pub Moments : Machine → List Due → Page → Type 0
Moments m [] p = Unit {0}
Moments m (d ∷ ds) p = Moment m p × Moments m ds (advanced_of p)

module _ (m : Machine) (h : MachineWithin m) where
  moments : (ds : List Due) (p : Page) → p.number ≤ integer_limit → 1 ≤ p.row → p.row + length ds ≤ 61 → Moments m ds p
  moments [] p a b c = tt
  moments (d ∷ ds) p a b c = (record { number = a; least = b; most = omega arith; machine = on_within m p h a (omega arith) }, moments ds (advanced_of p) a (omega arith) (omega arith))

  on_turned : (t : List ℕ) (due : ℕ) (hs : List Heading) (l : List ℕ) (p : Page) → p.number ≤ integer_limit → 1 ≤ p.row → p.row ≤ 60 → Moments m (lines_due t due hs l p) p
  on_turned t due hs l p a b k = moments (lines_due t due hs l p) p a b (lines_few t due hs p (text_due due l) 60 k (omega arith))

  -- At every moment of a step from a page in range, where PAGENUM can rise by one.
  pub step_moments : (t : List ℕ) (due : ℕ) (hs : List Heading) (l : List ℕ) (p : Page) → p.number + 1 ≤ integer_limit → 1 ≤ p.row → Moments m (lines_due t due hs l (turned_page p)) (turned_page p)
  step_moments t due hs l p a b = go (ltb 60 p.row) refl
    where
      go : (x : Bool) → ltb 60 p.row ≡ x → Moments m (lines_due t due hs l (cond x (broken_of p) p)) (cond x (broken_of p) p)
      go true e = on_turned t due hs l (broken_of p) a (omega arith) (omega arith)
      go false e = on_turned t due hs l p (omega arith) b (ltb-false 60 p.row e)
