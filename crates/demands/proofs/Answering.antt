-- What `ask` hands back means the answer: a string's bytes stand in the store where it says.
use mathlib.Core.Path.{◌≡◌, refl, ap}
use mathlib.Core.List.{List}
use Prim.Native.Nat.{ℕ}
use Rattle.numbers.specs.declared.Quantity.TheVariants as Q
use Rattle.meaning.specs.Answer as A
use Rattle.meaning.specs.Answer.{string, Answer, missing, cell, highest}
use Rattle.meaning.specs.declared.question.Question.{Question}
use Rattle.cells.specs.Store.{cells_held}
use Rattle.cells.specs.Asking.{ask_of, string_start, handed, asked_of, meant}
use Rattle.cells.proofs.Places.{Stands, string_stands}

handed_means : (b : List ℕ) (n i : ℕ) (a : Answer) → Stands b n i a → meant b (handed i a) ≡ a
unfolding handed meant
handed_means b n i missing h = refl
handed_means b n i (cell (A.number (Q.Integer z))) h = refl
handed_means b n i (cell (A.number (Q.Decimal z))) h = refl
handed_means b n i (cell (string s)) h = ap (λ (x : List ℕ). cell (string x)) h.0
handed_means b n i (highest k) h = refl

-- for every store of any bytes and every question
pub answer_meant : (b : List ℕ) (n : ℕ) (q : Question) → meant b (asked_of b n q).answer ≡ (ask_of b n q).answer
unfolding asked_of
answer_meant b n q = handed_means b n (string_start q (cells_held b n)) (ask_of b n q).answer (string_stands b n q)
