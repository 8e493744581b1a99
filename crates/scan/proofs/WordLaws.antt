-- Laws of fixed byte strings, and of the loop that compares them.
use Rattle.std.specs.Prelude.{Option, Some, None, map}
use Rattle.std.specs.Option.{is_some}
use mathlib.Core.Path.{◌≡◌, refl, sym, ap, ◌∙◌}
use mathlib.Core.Bool.{Bool, true, false, cond, false≢true}
use mathlib.Core.List.{List, [], ◌∷◌}
use Prim.Native.Nat.{ℕ, suc, ◌+◌, ◌<◌, ◌≤◌}
use lib.Dec.{eqb}
use lib.ListN.{length, get_or, drop}
use lib.Seq.{drop-cons}
use native.Mathlib.Numerals.{add-one}
use Rattle.std.proofs.Common.{drop_of_length-le}
use Rattle.std.specs.Prelude.{nat_eq, ◌&&◌}
use Rattle.std.specs.List.{starts_with}
use Rattle.scan.specs.Words.{begins, stands_at, Spelled, first_of}
use Rattle.scan.specs.Inner.Tables.{word_at, word_else, word_or}
use Rattle.scan.proofs.TestLaws.{picked}

-- the front of a list is compared with the word
pub begins_front : (w s : List ℕ) → starts_with nat_eq s w ≡ begins w s
unfolding begins
begins_front [] s = refl
begins_front (a ∷ w) [] = refl
begins_front (a ∷ w) (b ∷ s) = go (eqb a b) (begins_front w s)
  where
    go : (t : Bool) → starts_with nat_eq s w ≡ begins w s → (t && starts_with nat_eq s w) ≡ cond t (begins w s) false
    go true h = h
    go false h = refl

-- some words, each with what it begins
unfoldable pub spelled : {A B : Type 0} → (A → List ℕ → ℕ → B) → List (List ℕ × A) → List (Spelled B)
spelled act [] = []
spelled act (e ∷ es) = record { word = e.0; form = act e.1 } ∷ spelled act es

-- what a word is for finds what the word begins
pub by_kind : {A B : Type 0} (none : B) (act : A → List ℕ → ℕ → B) (es : List (List ℕ × A)) (l : List ℕ) (at : ℕ) → first_of none (spelled act es) l at ≡ word_or none (word_at es l at) (λ k next. act k l next)
unfolding spelled word_at first_of
by_kind none act [] l at = refl
by_kind {A} none act (e ∷ es) l at = go (stands_at e.0 l at) (by_kind none act es l at)
  where
    go : (b : Bool) → first_of none (spelled act es) l at ≡ word_or none (word_at es l at) (λ k next. act k l next) → cond b (act e.1 l (at + length e.0)) (first_of none (spelled act es) l at) ≡ word_or none (cond {A = Option (A × ℕ)} b (Some (e.1, at + length e.0)) (word_at es l at)) (λ k next. act k l next)
    go true q = refl
    go false q = q

-- ---- what the words of a table begin

-- P holds of what each word begins in the line
infixr 5 ◌besides◌
pub data EachForm {A : Type 0} (P : A → Type 0) (l : List ℕ) : List (Spelled A) → Type 0 where
  all : EachForm P l []
  ◌besides◌ : {e : Spelled A} {es : List (Spelled A)} → ((at : ℕ) → P (e.form l at)) → EachForm P l es → EachForm P l (e ∷ es)

-- then it holds of what is found, and of none where it holds of that
pub found_form : {A : Type 0} (P : A → Type 0) (none : A) (es : List (Spelled A)) (l : List ℕ) (at : ℕ) → P none → EachForm P l es → P (first_of none es l at)
unfolding first_of
found_form P none [] l at x all = x
found_form P none (e ∷ es) l at x (h besides hs) =
    picked P (stands_at e.word l at) (h (at + length e.word)) (found_form P none es l at x hs)

-- ---- a search among some words, from one to the next

module _ {A B : Type 0} (f : B → List ℕ × A) (ws : List B) (l : List ℕ) (at i : ℕ) {w : Option (A × ℕ)} (left : word_at (map f (drop i ws)) l at ≡ w) where
  pub search_end : length ws ≤ i → None ≡ w
  unfolding word_at
  search_end h = ap (λ (s : List B). word_at (map f s) l at) (sym (drop_of_length-le ws h)) ∙ left

  module _ (x : B) (same : x ≡ get_or ws i x) (inside : i < length ws) {r : Option (A × ℕ)} (e : r ≡ word_else (f x).0 l at (f x).1 None) where
    here : word_else (f x).0 l at (f x).1 (word_at (map f (drop (i + 1) ws)) l at) ≡ w
    unfolding word_at
    here = rw (add-one i) (ap (λ (y : B). word_at (map f (y ∷ drop (suc i) ws)) l at) same ∙ ap (λ (s : List B). word_at (map f s) l at) (sym (drop-cons ws i x inside)) ∙ left)

    pub search_found : is_some r ≡ true → r ≡ w
    search_found = go (stands_at (f x).0 l at) e here
      where
        go : (b : Bool) → r ≡ cond b (Some ((f x).1, at + length (f x).0)) None → cond b (Some ((f x).1, at + length (f x).0)) (word_at (map f (drop (i + 1) ws)) l at) ≡ w → is_some r ≡ true → r ≡ w
        go true q k t = q ∙ k
        go false q k t = absurd (false≢true (sym (ap is_some q) ∙ t))

    pub search_more : is_some r ≡ false → word_at (map f (drop (i + 1) ws)) l at ≡ w
    search_more = go (stands_at (f x).0 l at) e here
      where
        go : (b : Bool) → r ≡ cond b (Some ((f x).1, at + length (f x).0)) None → cond b (Some ((f x).1, at + length (f x).0)) (word_at (map f (drop (i + 1) ws)) l at) ≡ w → is_some r ≡ false → word_at (map f (drop (i + 1) ws)) l at ≡ w
        go true q k t = absurd (false≢true (sym t ∙ ap is_some q))
        go false q k t = k
