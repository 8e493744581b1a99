-- PAGENUM is one more than the breaks printed so far: kept by a break, and by a text line with what comes before it, whatever
-- the store answers.
use mathlib.Core.Path.{◌≡◌, sym, ap, ◌∙◌}
use mathlib.Core.Bool.{Bool, true, false, cond}
use mathlib.Core.List.{List, [], ◌∷◌}
use Prim.Native.Nat.{ℕ, suc, ◌+◌}
use native.Mathlib.Omega.{arith}
use lib.Dec.{ltb}
use Rattle.texts.specs.declared.text.Piece.{Piece}
use Rattle.texts.specs.declared.text.Piece.TheVariants.{Byte, Placed}
use Rattle.texts.specs.Pieces.{pieces_of}
use Rattle.meaning.specs.Event.{Event, line, break, breaks}
use Rattle.meaning.specs.Tree.{done, bind}
use Rattle.meaning.specs.Rule.{Rule, state_after, Keeps}
use Rattle.meaning.proofs.Keeping.{keeps_bind}
use Rattle.values.specs.Machine.{Machine}
use Rattle.values.specs.Meanings.{argument_meaning}
use Rattle.values.proofs.Giving.{Gives, Anything, gives_bind, gives_keeps, argument_gives}
use Rattle.pages.specs.Text.{field_values, rendered, any_wrong, printed_unless_wrong, text_meaning}
use Rattle.pages.specs.declared.page.Page.{Page}
use Rattle.pages.specs.declared.heading.Heading.{Heading}
use Rattle.pages.specs.Inner.Listing.{Due, says_on, lines_due}
use Rattle.pages.proofs.Listing.{top_says}
use Rattle.pages.specs.Page.{advanced_of, on, say_meaning, break_meaning, turn_meaning, top_meaning, line_step}

-- ---- breaks are counted

abbrev pub breaks_after : ℕ → Event → ℕ
breaks_after c (line b) = c
breaks_after c (break b) = suc c

abbrev pub counting : Rule ℕ
counting = record { next = breaks_after; allowed = λ c v. Unit {0} }

-- The state behind a list of events.
pub counted : (c : ℕ) (vs : List Event) → state_after counting c vs ≡ c + breaks vs
unfolding breaks
counted c [] = omega arith
counted c (line b ∷ vs) = counted c vs
counted c (break b ∷ vs) = counted (suc c) vs ∙ omega arith

-- PAGENUM is one more than the breaks so far
abbrev pub OnPage : Page → ℕ → Type 0
OnPage p c = p.number ≡ suc c

-- ---- a text line and what comes before it

-- The questions of a line's fields print nothing.
pub values_give : (m : Machine) (l : List ℕ) (n : ℕ) (ps : List Piece) → Gives (field_values m l n ps) Anything
values_give m l n [] = tt
values_give m l n (Byte b ∷ ps) = values_give m l n ps
values_give m l n (Placed f ∷ ps) =
    gives_bind (argument_meaning m l n f.argument) (λ w. bind (field_values m l n ps) (λ ws. done (w ∷ ws))) Anything Anything (argument_gives m l n f.argument)
    (λ w _. gives_bind (field_values m l n ps) (λ ws. done (w ∷ ws)) Anything Anything (values_give m l n ps) (λ ws _. tt))

text_counts : (m : Machine) (l : List ℕ) (from n c : ℕ) → Keeps counting (text_meaning m l from n) c (λ _ c'. c' ≡ c)
unfolding text_meaning
text_counts m l from n c =
    keeps_bind counting (field_values m l n (pieces_of l from)) (λ ws. printed_unless_wrong n (any_wrong ws) (rendered (pieces_of l from) ws)) c (λ ws c'. Anything ws × (c' ≡ c)) (λ _ c'. c' ≡ c) (gives_keeps counting (field_values m l n (pieces_of l from)) c Anything (values_give m l n (pieces_of l from)))
    (λ ws c₁ e. go (any_wrong ws) (rendered (pieces_of l from) ws) c₁ e.1)
  where
    go : (w : Bool) (b : List ℕ) (c₁ : ℕ) → c₁ ≡ c → Keeps counting (printed_unless_wrong n w b) c₁ (λ _ c'. c' ≡ c)
    go true b c₁ e = tt
    go false b c₁ e = (tt, e)

module _ (m : Machine) where
  says_count : (ds : List Due) (p : Page) (c : ℕ) → OnPage p c → Keeps counting (says_on m ds p) c OnPage
  unfolding say_meaning
  says_count [] p c h = h
  says_count (d ∷ ds) p c h =
      keeps_bind counting (say_meaning m d.bytes d.from d.number p) (λ _. says_on m ds (advanced_of p)) c (λ _ c'. c' ≡ c) OnPage
      (keeps_bind counting (text_meaning (on m p) d.bytes d.from d.number) (λ _. done (advanced_of p)) c (λ _ c'. c' ≡ c) (λ _ c'. c' ≡ c) (text_counts (on m p) d.bytes d.from d.number c) (λ _ c₁ e. e))
      (λ _ c₁ e. says_count ds (advanced_of p) c₁ (h ∙ ap suc (sym e)))

pub break_counts : (due : ℕ) (feeds : Bool) (p : Page) (c : ℕ) → OnPage p c → Keeps counting (break_meaning due feeds p) c OnPage
unfolding break_meaning
break_counts due feeds p c h = (tt, omega (arith, h))

pub turn_counts : (due : ℕ) (feeds : Bool) (p : Page) (c : ℕ) → OnPage p c → Keeps counting (turn_meaning due feeds p) c OnPage
unfolding turn_meaning
turn_counts due feeds p c h = go (ltb 60 p.row)
  where
    go : (b : Bool) → Keeps counting (cond b (break_meaning due feeds p) (done p)) c OnPage
    go true = break_counts due feeds p c h
    go false = h

-- A text line with what comes before it.
pub step_counts : (m : Machine) (t : List ℕ) (due : ℕ) (feeds : Bool) (hs : List Heading) (l : List ℕ) (p : Page) (c : ℕ) → OnPage p c → Keeps counting (line_step m t due feeds hs l p) c OnPage
unfolding line_step
step_counts m t due feeds hs l p c h =
    keeps_bind counting (turn_meaning due feeds p) (λ p₁. bind (top_meaning m t due hs p₁) (λ p₂. say_meaning m l 0 due p₂)) c OnPage OnPage (turn_counts due feeds p c h)
    (λ p₁ c₁ h₁. rw (top_says m t due l hs p₁) (says_count m (lines_due t due hs l p₁) p₁ c₁ h₁))
