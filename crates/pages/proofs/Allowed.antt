-- A text line with the break and the headings before it asks only questions within their limits.
use mathlib.Core.Bool.{Bool, true, false, cond}
use mathlib.Core.List.{List, [], ◌∷◌}
use Prim.Native.Nat.{ℕ}
use lib.Dec.{ltb}
use Rattle.meaning.specs.Tree.{done, bind}
use Rattle.meaning.specs.Meaning.{Meaning}
use Rattle.meaning.proofs.Questions.{asks_then}
use Rattle.cells.proofs.Limits.{AnswerWithin}
use Rattle.arguments.proofs.Parsed.{Between}
use Rattle.texts.specs.declared.text.Piece.{Piece}
use Rattle.texts.specs.declared.text.Piece.TheVariants.{Byte, Placed}
use Rattle.texts.specs.Pieces.{pieces_of}
use Rattle.texts.proofs.FieldLaws.{EachLimited, fields_limited}
use Rattle.values.specs.Machine.{Machine}
use Rattle.values.specs.Meanings.{argument_meaning}
use Rattle.values.proofs.Allowed.{Allowed, AsksAllowed, argument_asks}
use Rattle.pages.specs.declared.page.Page.{Page}
use Rattle.pages.specs.declared.heading.Heading.{Heading}
use Rattle.pages.specs.Text.{field_values, rendered, any_wrong, printed_unless_wrong, text_meaning}
use Rattle.pages.specs.Inner.Listing.{Due, says_on, lines_due}
use Rattle.pages.proofs.Listing.{top_says}
use Rattle.pages.specs.Page.{on, advanced_of, say_meaning, break_meaning, turn_meaning, top_meaning, line_step}

values_ask : (m : Machine) → Between 1 35 m.datasource → (l : List ℕ) (line : ℕ) (ps : List Piece) → EachLimited l ps → AsksAllowed (field_values m l line ps)
values_ask m d l line [] k = tt
values_ask m d l line (Byte b ∷ ps) k = values_ask m d l line ps k
values_ask m d l line (Placed f ∷ ps) k =
    asks_then AnswerWithin Allowed (argument_meaning m l line f.argument) (λ w. bind (field_values m l line ps) (λ ws. done (w ∷ ws))) (argument_asks m line d l f.argument k.0.argument) (λ w.
    asks_then AnswerWithin Allowed (field_values m l line ps) (λ ws. done (w ∷ ws)) (values_ask m d l line ps k.1) (λ ws. tt))

printed_asks : (line : ℕ) (b : Bool) (s : List ℕ) → AsksAllowed (printed_unless_wrong line b s)
printed_asks line true s = tt
printed_asks line false s = tt

module _ (m : Machine) (d : Between 1 35 m.datasource) where
  say_asks : (l : List ℕ) (from line : ℕ) (p : Page) → AsksAllowed (say_meaning m l from line p)
  unfolding say_meaning text_meaning
  say_asks l from line p =
      asks_then AnswerWithin Allowed (text_meaning (on m p) l from line) (λ _. done (advanced_of p))
      (asks_then AnswerWithin Allowed (field_values (on m p) l line (pieces_of l from)) (λ ws. printed_unless_wrong line (any_wrong ws) (rendered (pieces_of l from) ws)) (values_ask (on m p) d l line (pieces_of l from) (fields_limited l from)) (λ ws. printed_asks line (any_wrong ws) (rendered (pieces_of l from) ws)))
      (λ _. tt)

  says_ask : (ds : List Due) (p : Page) → AsksAllowed (says_on m ds p)
  says_ask [] p = tt
  says_ask (x ∷ ds) p = asks_then AnswerWithin Allowed (say_meaning m x.bytes x.from x.number p) (λ _. says_on m ds (advanced_of p)) (say_asks x.bytes x.from x.number p) (λ _. says_ask ds (advanced_of p))

  pub step_asks : (t : List ℕ) (due : ℕ) (feeds : Bool) (hs : List Heading) (l : List ℕ) (p : Page) → AsksAllowed (line_step m t due feeds hs l p)
  unfolding line_step turn_meaning break_meaning
  step_asks t due feeds hs l p =
      asks_then AnswerWithin Allowed (turn_meaning due feeds p) (λ p₁. bind (top_meaning m t due hs p₁) (λ p₂. say_meaning m l 0 due p₂)) (go (ltb 60 p.row)) (λ p₁.
      rw (top_says m t due l hs p₁) (says_ask (lines_due t due hs l p₁) p₁))
    where
      go : (b : Bool) → AsksAllowed (cond {A = Meaning Page} b (break_meaning due feeds p) (done p))
      go true = tt
      go false = tt
