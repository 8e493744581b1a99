-- What holds of every answer holds of what is fetched, and so of what a cell is worth.
use mathlib.Core.Bool.{Bool, true, false, cond}
use mathlib.Core.List.{List, [], ◌∷◌}
use Prim.Native.Nat.{ℕ, ◌+◌}
use lib.Dec.{leb}
use Rattle.meaning.specs.Each.{Each}
use Rattle.meaning.specs.Answer.{Answer}
use Rattle.meaning.specs.Tree.{done, stop, ask, bind}
use Rattle.meaning.specs.Meaning.{Meaning, asks_each}
use Rattle.meaning.specs.declared.question.Question.{Question}
use Rattle.meaning.specs.declared.refusal.Refusal.TheVariants.{BadIndex}
use Rattle.meaning.proofs.Yielding.{Yields, yields_bind, yields_any}
use Rattle.arguments.specs.declared.index.Index.{Index}
use Rattle.values.specs.declared.fetch.Along.{Along}
use Rattle.values.specs.Machine.{Machine}
use Rattle.values.specs.Indexes.{index_number, index_value}
use Rattle.values.specs.Asking.{question, asks, cell_meaning}
use Rattle.values.specs.Fetching.{element_question, element_questions, count_value, first_along, asks_elements, fetch_meaning}
use Rattle.values.specs.Worth.{Worth, answered}
use Rattle.values.specs.Meanings.{worth_of}

module _ (P : Answer → Type 0) where
  pub cell_has : (W : Worth → Type 0) → ((a : Answer) → P a → W (answered a)) → (m : Machine) (line kind p : ℕ) (i j : Index) → Yields P (worth_of (cell_meaning m line kind p i j)) W
  unfolding worth_of cell_meaning asks
  cell_has W g m line kind p i j =
      yields_bind P (cell_meaning m line kind p i j) (λ a. done (answered a)) P W
      (yields_bind P (index_value m line i) (λ r. bind (index_value m line j) (λ e. ask (question kind m.datasource p r e) line (λ a. done a))) (λ _. Unit {0}) P (yields_any P (index_value m line i)) (λ r h.
      yields_bind P (index_value m line j) (λ e. ask (question kind m.datasource p r e) line (λ a. done a)) (λ _. Unit {0}) P (yields_any P (index_value m line j)) (λ e k a w. w)))
      (λ a h. g a h)

  each_has : (line : ℕ) (qs : List Question) → Yields P (asks_each line qs) (Each P)
  unfolding asks_each
  each_has line [] = tt
  each_has line (q ∷ qs) =
      λ r p. yields_bind P (asks_each line qs) (λ rest. done (r ∷ rest)) (Each P) (Each P) (each_has line qs) (λ l h. (p, h))

  pub fetch_has : (m : Machine) (line : ℕ) (along : Along) (p : ℕ) (i j c : Index) → Yields P (fetch_meaning m line along p i j c) (Each P)
  unfolding fetch_meaning asks_elements
  fetch_has m line along p i j c =
      yields_bind P (index_value m line i) _ (λ _. Unit {0}) (Each P) (yields_any P (index_value m line i)) (λ r h.
      yields_bind P (index_value m line j) _ (λ _. Unit {0}) (Each P) (yields_any P (index_value m line j)) (λ e k.
      yields_bind P (count_value line (index_number m.variables.integers m.counter c)) _ (λ _. Unit {0}) (Each P) (yields_any P (count_value line (index_number m.variables.integers m.counter c))) (λ n l.
      by (leb (first_along along r e + n) 1000) (asks_each line (element_questions (element_question m.datasource along p r e) 0 n)) (each_has line _))))
    where
      by : (b : Bool) (t : Meaning (List Answer)) → Yields P t (Each P) → Yields P (cond b t (stop BadIndex line)) (Each P)
      by true t h = h
      by false t h = tt
