-- No page holds more than 60 lines, whatever the store answers.
use mathlib.Core.Path.{◌≡◌, refl, ap}
use mathlib.Core.Bool.{Bool, true, false, cond}
use mathlib.Core.List.{List, [], ◌∷◌}
use Prim.Native.Nat.{ℕ, suc, ◌+◌, ◌≤◌, ◌<◌}
use native.Mathlib.Omega.{arith}
use borrow.Author.Tests.{ltb-false}
use lib.Dec.{ltb}
use lib.ListN.{length}
use Rattle.meaning.specs.Tree.{done, bind}
use Rattle.meaning.specs.Rule.{Keeps, page_limit}
use Rattle.meaning.proofs.Keeping.{keeps_bind}
use Rattle.values.specs.Machine.{Machine}
use Rattle.values.proofs.Giving.{Anything, gives_keeps}
use Rattle.pages.specs.declared.page.Page.{Page}
use Rattle.pages.specs.declared.heading.Heading.{Heading}
use Rattle.texts.specs.Pieces.{pieces_of}
use Rattle.pages.specs.Text.{field_values, rendered, any_wrong, printed_unless_wrong, text_meaning}
use Rattle.pages.specs.Page.{advanced_of, on, say_meaning, break_meaning, turn_meaning, top_meaning, line_step}
use Rattle.pages.specs.Inner.Listing.{Due, says_on, text_due, lines_due}
use Rattle.pages.proofs.Listing.{top_says, lines_few}
use Rattle.pages.proofs.Counting.{values_give}

-- ---- a line is one line

text_keeps : (m : Machine) (l : List ℕ) (from n c : ℕ) → c < 60 → Keeps (page_limit 60) (text_meaning m l from n) c (λ _ c'. c' ≡ suc c)
unfolding text_meaning
text_keeps m l from n c h =
    keeps_bind (page_limit 60) (field_values m l n (pieces_of l from)) (λ ws. printed_unless_wrong n (any_wrong ws) (rendered (pieces_of l from) ws)) c (λ ws c'. Anything ws × (c' ≡ c)) (λ _ c'. c' ≡ suc c) (gives_keeps (page_limit 60) (field_values m l n (pieces_of l from)) c Anything (values_give m l n (pieces_of l from)))
    (λ ws c₁ e. go (any_wrong ws) (rendered (pieces_of l from) ws) c₁ e.1)
  where
    go : (w : Bool) (b : List ℕ) (c₁ : ℕ) → c₁ ≡ c → Keeps (page_limit 60) (printed_unless_wrong n w b) c₁ (λ _ c'. c' ≡ suc c)
    go true b c₁ e = tt
    go false b c₁ e = (omega arith, ap suc e)

-- LINENUM is one more than the lines on the page, and so within 1–61; PAGENUM is at most g
pub record On (g : ℕ) (p : Page) (c : ℕ) : Type 0 where
  pub next : p.row ≡ suc c
  pub most : c ≤ 60
  pub number : p.number ≤ g

-- the same, with room for a line
record Open (g : ℕ) (p : Page) (c : ℕ) : Type 0 where
  next : p.row ≡ suc c
  room : c < 60
  number : p.number ≤ g

-- so many lines behind one another
says_keep : (g : ℕ) (m : Machine) (ds : List Due) (p : Page) (c : ℕ) → p.row ≡ suc c → p.number ≤ g → c + length ds ≤ 60 → Keeps (page_limit 60) (says_on m ds p) c (On g)
unfolding say_meaning
says_keep g m [] p c e k h = record { next = e; most = omega arith; number = k }
says_keep g m (d ∷ ds) p c e k h =
    keeps_bind (page_limit 60) (say_meaning m d.bytes d.from d.number p) (λ _. says_on m ds (advanced_of p)) c (λ _ c'. c' ≡ suc c) (On g)
    (keeps_bind (page_limit 60) (text_meaning (on m p) d.bytes d.from d.number) (λ _. done (advanced_of p)) c (λ _ c'. c' ≡ suc c) (λ _ c'. c' ≡ suc c) (text_keeps (on m p) d.bytes d.from d.number c (omega arith)) (λ _ c₁ q. q))
    (λ _ c₁ q. says_keep g m ds (advanced_of p) c₁ (omega arith) k (omega arith))

pub break_keeps : (due g : ℕ) (feeds : Bool) (p : Page) (c : ℕ) → p.number ≤ g → Keeps (page_limit 60) (break_meaning due feeds p) c (On (g + 1))
unfolding break_meaning
break_keeps due g feeds p c h = (tt, record { next = refl; most = omega arith; number = omega arith })

turn_keeps : (due g : ℕ) (feeds : Bool) (p : Page) (c : ℕ) → On g p c → Keeps (page_limit 60) (turn_meaning due feeds p) c (Open (g + 1))
unfolding turn_meaning break_meaning
turn_keeps due g feeds p c i = go (ltb 60 p.row) refl
  where
    go : (b : Bool) → ltb 60 p.row ≡ b → Keeps (page_limit 60) (cond b (break_meaning due feeds p) (done p)) c (Open (g + 1))
    go true q = (tt, record { next = refl; room = omega arith; number = omega (arith, i.number) })
    go false q = record { next = i.next; room = omega (arith, ltb-false 60 p.row q, i.next); number = omega (arith, i.number) }

-- ---- the step

-- A text line with what comes before it keeps a page within 60 lines, and raises PAGENUM by at most one.
pub step_keeps : (m : Machine) (t : List ℕ) (due : ℕ) (feeds : Bool) (hs : List Heading) (l : List ℕ) (g : ℕ) (p : Page) (c : ℕ) → On g p c → Keeps (page_limit 60) (line_step m t due feeds hs l p) c (On (g + 1))
unfolding line_step
step_keeps m t due feeds hs l g p c i =
    keeps_bind (page_limit 60) (turn_meaning due feeds p) (λ p₁. bind (top_meaning m t due hs p₁) (λ p₂. say_meaning m l 0 due p₂)) c (Open (g + 1)) (On (g + 1)) (turn_keeps due g feeds p c i)
    (λ p₁ c₁ h₁. rw (top_says m t due l hs p₁) (says_keep (g + 1) m (lines_due t due hs l p₁) p₁ c₁ h₁.next h₁.number (omega (arith, lines_few t due hs p₁ (text_due due l) 60 (omega (arith, h₁.next, h₁.room)) (omega arith), h₁.next))))
