-- Where a run of two trees, one behind the other, was refused or cut off; and trees that print nothing, or no break.
use mathlib.Core.Path.{◌≡◌, refl, sym, ap, ◌∙◌}
use mathlib.Core.List.{List, [], ◌∷◌, ◌++◌}
use Prim.Native.Nat.{ℕ, ◌-◌}
use lib.ListN.{length}
use Rattle.meaning.specs.Answer.{Answer}
use Rattle.meaning.specs.Event.{Event, line, break, breaks}
use Rattle.meaning.specs.Tree.{bind, Cause, End, finished, halted, Run, text_of, run}
use Rattle.meaning.specs.Rule.{Rule, AllAllowed}
use Rattle.meaning.specs.Meaning.{Meaning}
use Rattle.meaning.specs.declared.question.Question.{Question}
use Rattle.meaning.specs.declared.refusal.Refusal.{Refusal}
use Rattle.meaning.proofs.Binding.{behind, and_then, onward, run_bind}
use Rattle.meaning.proofs.Keeping.{keeps_run}
use Rattle.values.proofs.Giving.{Gives, gives_keeps}

module _ (source : Question → Answer) where
  -- the places and the room that a run leaves
  abbrev pub places_behind : {A : Type 0} → ℕ → ℕ → Meaning A → ℕ
  places_behind p r m = p - length (run source p r m).asked

  abbrev pub room_behind : {A : Type 0} → ℕ → ℕ → Meaning A → ℕ
  room_behind p r m = r - length (text_of (run source p r m))

  -- in the first tree, or in the second
  pub data HaltedIn {A B : Type 0} (m : Meaning A) (f : A → Meaning B) (p r : ℕ) (c : Cause Refusal) (l : ℕ) : Type 0 where
    first : (run source p r m).end ≡ halted c l → (run source p r (bind m f)).events ≡ (run source p r m).events → HaltedIn m f p r c l
    second : (a : A) → (run source p r m).end ≡ finished a → (run source (places_behind p r m) (room_behind p r m) (f a)).end ≡ halted c l
        → (run source p r (bind m f)).events ≡ (run source p r m).events ++ (run source (places_behind p r m) (room_behind p r m) (f a)).events → HaltedIn m f p r c l

  module _ {A B : Type 0} (m : Meaning A) (f : A → Meaning B) (p r : ℕ) where
    -- the run of both, by the end of the first
    by_first : (e : End Refusal ℕ A) → (run source p r m).end ≡ e → run source p r (bind m f) ≡ and_then e (run source p r m).asked (run source p r m).events (onward source f (places_behind p r m) (room_behind p r m))
    by_first e h = run_bind source f p r m ∙ ap (λ (x : End Refusal ℕ A). and_then x (run source p r m).asked (run source p r m).events (onward source f (places_behind p r m) (room_behind p r m))) h

    pub finished_then : (a : A) → (run source p r m).end ≡ finished a → run source p r (bind m f) ≡ behind (run source p r m).asked (run source p r m).events (run source (places_behind p r m) (room_behind p r m) (f a))
    finished_then a h = by_first (finished a) h

    pub halted_first : (c : Cause Refusal) (l : ℕ) → (run source p r m).end ≡ halted c l → (run source p r (bind m f)).end ≡ halted c l
    halted_first c l h = ap (λ (x : Run Question Refusal ℕ B). x.end) (by_first (halted c l) h)

    pub halted_in : (c : Cause Refusal) (l : ℕ) → (run source p r (bind m f)).end ≡ halted c l → HaltedIn m f p r c l
    halted_in c l h = go (run source p r m).end refl
      where
        -- the same end, of a run that yields another type
        restated : End Refusal ℕ B → End Refusal ℕ A
        restated (finished b) = halted c l
        restated (halted c₁ l₁) = halted c₁ l₁

        go : (e : End Refusal ℕ A) → (run source p r m).end ≡ e → HaltedIn m f p r c l
        go (finished a) e =
            second a e (sym (ap (λ (x : Run Question Refusal ℕ B). x.end) (finished_then a e)) ∙ h) (ap (λ (x : Run Question Refusal ℕ B). x.events) (finished_then a e))
        go (halted c' l') e =
            first (e ∙ ap restated (sym (ap (λ (x : Run Question Refusal ℕ B). x.end) (by_first (halted c' l') e)) ∙ h)) (ap (λ (x : Run Question Refusal ℕ B). x.events) (by_first (halted c' l') e))

-- ---- what isn't printed

abbrev silent : Rule (Unit {0})
silent = record { next = λ s v. s; allowed = λ s v. ⊥ }

-- A tree that only asks prints nothing.
pub gives_nothing : {A : Type 0} (source : Question → Answer) (p r : ℕ) (m : Meaning A) (Φ : A → Type 0) → Gives m Φ → (run source p r m).events ≡ []
gives_nothing source p r m Φ g = go (run source p r m).events (keeps_run silent source p r m tt (λ a s. Φ a × (s ≡ tt)) (gives_keeps silent m tt Φ g))
  where
    go : (vs : List Event) → AllAllowed silent tt vs → vs ≡ []
    go [] h = refl
    go (v ∷ vs) h = absurd h.0

abbrev NoBreak : Event → Type 0
NoBreak (line b) = Unit {0}
NoBreak (break b) = ⊥

-- lines may be printed, and no break
abbrev pub lines_only : Rule (Unit {0})
lines_only = record { next = λ s v. s; allowed = λ s v. NoBreak v }

pub no_breaks : (vs : List Event) → AllAllowed lines_only tt vs → breaks vs ≡ 0
unfolding breaks
no_breaks [] h = refl
no_breaks (line b ∷ vs) h = no_breaks vs h.1
no_breaks (break b ∷ vs) h = absurd h.0
