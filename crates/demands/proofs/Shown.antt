-- In every state that a run reaches, each field of the text line and of its headings has the bytes that document 01 defines: the
-- asterisks of `or_stars` are not met.
use Rattle.std.specs.Prelude.{Ok, Option, Some, None}
use mathlib.Core.Path.{◌≡◌, refl, ap, ◌∙◌}
use mathlib.Core.Bool.{Bool, true, false, cond, ◌||◌, true≢false}
use mathlib.Core.List.{List, [], ◌∷◌, ◌++◌}
use Prim.Native.Nat.{ℕ, ◌≤◌}
use Rattle.lines.specs.declared.command.Line.TheVariants as form
use Rattle.lines.specs.Readers.Command.{parse_line}
use Rattle.template.specs.declared.Extent.{Extent}
use Rattle.template.specs.Order.{template_checked}
use Rattle.meaning.specs.Answer.{Answer}
use Rattle.meaning.specs.Tree.{done, bind, finished, run}
use Rattle.meaning.specs.Meaning.{Meaning}
use Rattle.meaning.specs.declared.question.Question.{Question}
use Rattle.meaning.proofs.Yielding.{Yields, yields_bind, yields_more, yields_end}
use Rattle.cells.proofs.Limits.{AnswerWithin}
use Rattle.texts.specs.declared.text.Field.{Field}
use Rattle.texts.specs.declared.text.Piece.{Piece}
use Rattle.texts.specs.declared.text.Piece.TheVariants.{Byte, Placed}
use Rattle.texts.specs.Pieces.{pieces_of}
use Rattle.texts.proofs.FieldLaws.{Limited, EachLimited, fields_limited}
use Rattle.fields.specs.Field.{field_of}
use Rattle.values.specs.Machine.{Machine}
use Rattle.values.specs.Source.{answers}
use Rattle.values.specs.Worth.{Worth}
use Rattle.values.specs.Meanings.{argument_meaning}
use Rattle.values.proofs.Ranges.{WorthWithin, MachineWithin, argument_within, answers_within}
use Rattle.pages.specs.declared.page.Page.{Page}
use Rattle.pages.specs.Shown.{shown_value, field_bytes}
use Rattle.pages.specs.Text.{field_values, rendered, is_wrong, any_wrong}
use Rattle.pages.specs.Page.{advanced_of, line_step}
use Rattle.pages.specs.Inner.Listing.{turned_page, Due}
use Rattle.pages.proofs.Listing.{step_says}
use Rattle.pages.proofs.Ranges.{field_shown}
use Rattle.control.specs.State.{State, seen, with_page}
use Rattle.control.specs.Line.{form_meaning, line_meaning}
use Rattle.report.specs.Report.{start_of}
use Rattle.report.specs.Inner.Stretch.{stretch}
use Rattle.report.proofs.Moments.{Moments}
use Rattle.report.proofs.Ranges.{store_in_range}
use Rattle.demands.specs.Due.{bytes_due, on_next}
use Rattle.demands.specs.Shown.{bytes_in, both, defined, Shown, AllShown, due_in, TextShown}
use Rattle.demands.proofs.Due.{line_means}

-- what is printed is defined, if no kind is wrong
abbrev Defined : List Piece → List Worth → Type 0
Defined ps ws = any_wrong ws ≡ false → defined ps ws ≡ Some (rendered ps ws)

both_some : {x y : Option (List ℕ)} (a b : List ℕ) → x ≡ Some a → y ≡ Some b → both x y ≡ Some (a ++ b)
unfolding both
both_some a b e k = rw (e, k)

module _ (l : List ℕ) (f : Field) (ps : List Piece) where
  field_defined : (w : Worth) (ws : List Worth) → Limited l f → WorthWithin w → Defined ps ws → Defined (Placed f ∷ ps) (w ∷ ws)
  unfolding defined bytes_in
  field_defined w ws h k d = by (is_wrong w) refl
    where
      by : (b : Bool) → is_wrong w ≡ b → (b || any_wrong ws) ≡ false → both (cond b None (field_of f.width f.places (shown_value w))) (defined ps ws) ≡ Some (field_bytes f.width f.places w ++ rendered ps ws)
      by true e z = absurd (true≢false z)
      by false e z = both_some (field_bytes f.width f.places w) (rendered ps ws) (field_shown l f w h k) (d z)

module _ (m : Machine) (h : MachineWithin m) (l : List ℕ) (line : ℕ) where
  pieces_defined : (ps : List Piece) → EachLimited l ps → Yields AnswerWithin (field_values m l line ps) (Defined ps)
  unfolding defined both
  pieces_defined [] k = λ _. refl
  pieces_defined (Byte b ∷ ps) k = yields_more AnswerWithin (field_values m l line ps) (Defined ps) (Defined (Byte b ∷ ps)) (pieces_defined ps k) (λ ws d z. both_some (b ∷ []) (rendered ps ws) refl (d z))
  pieces_defined (Placed f ∷ ps) k =
      yields_bind AnswerWithin (argument_meaning m l line f.argument) (λ w. bind (field_values m l line ps) (λ ws. done (w ∷ ws))) WorthWithin (Defined (Placed f ∷ ps)) (argument_within m line h l f.argument k.0.argument) (λ w i.
      yields_bind AnswerWithin (field_values m l line ps) (λ ws. done (w ∷ ws)) (Defined ps) (Defined (Placed f ∷ ps)) (pieces_defined ps k.1) (λ ws j. field_defined l f ps w ws k.0 i j))

module _ (source : Question → Answer) (every : (q : Question) → AnswerWithin (source q)) (m : Machine) where
  line_shown : (d : Due) → MachineWithin m → Shown source m d
  line_shown d h places room ws e = yields_end AnswerWithin source every (Defined (pieces_of d.bytes d.from)) places room (field_values m d.bytes d.number (pieces_of d.bytes d.from)) ws (pieces_defined m h d.bytes d.number (pieces_of d.bytes d.from) (fields_limited d.bytes d.from)) e

lines_shown : (source : Question → Answer) → ((q : Question) → AnswerWithin (source q)) → (m : Machine) (ds : List Due) (p : Page) → Moments m ds p → AllShown source m ds p
lines_shown source every m [] p h = tt
lines_shown source every m (d ∷ ds) p h = (line_shown source every _ d h.0.machine, lines_shown source every m ds (advanced_of p) h.1)

text_means : (t : List ℕ) (s : State) → parse_line (bytes_due t s) ≡ Some form.Text → line_meaning t s ≡ bind (line_step (seen s) t s.position.line s.layout.form_feeds s.layout.headings (bytes_due t s) s.page) (λ p. done (with_page (on_next t s) p))
unfolding form_meaning
text_means t s e = line_means t s form.Text e

-- A text line that is due after any number of lines of an accepted template's run, on any store.
pub run_fields_shown : (t name : List ℕ) (r : Extent) → template_checked t name ≡ Ok r → (b : List ℕ) (n places room k : ℕ) → k ≤ 50000 → (s : State) → (run (answers b n) places room (stretch k t r.until (start_of r))).end ≡ finished s → parse_line (bytes_due t s) ≡ Some form.Text → TextShown (answers b n) t s
run_fields_shown t name r e b n places room k h s f i =
    let w = store_in_range t name r e b n places room k h s f in
    record {
      means = text_means t s i ∙ ap (λ (x : Meaning Page). bind x (λ p. done (with_page (on_next t s) p))) (step_says (seen s) t s.position.line (bytes_due t s) s.layout.form_feeds s.layout.headings s.page);
      fields_shown = lines_shown (answers b n) (answers_within b n) (seen s) (due_in t s) (turned_page s.page) (w.moments t s.position.line (bytes_due t s));
    }
