-- Rows of zeros, and the machine that they stand for.
use mathlib.Core.Path.{◌≡◌, refl, sym, ap, ◌∙◌}
use mathlib.Core.List.{List, [], ◌∷◌, ◌++◌, map}
use Prim.Native.Nat.{ℕ, zero, suc, ◌+◌, ◌-◌, ◌≤◌}
use native.Mathlib.Omega.{arith}
use lib.ListN.{drop, replicate, take}
use lib.Seq.{drop-drop}
use Rattle.meaning.specs.Answer.{Answer}
use Rattle.meaning.specs.declared.question.Question.{Question}
use Rattle.values.specs.declared.fetch.Along.{Along}
use Rattle.values.specs.Inner.State.{bank, texts, words_from, fetched}

-- a part of a row that begins with zeros
take_zeros : {A : Type 0} (x : A) (l : List A) (k n : ℕ) → k ≤ n → take k (replicate n x ++ l) ≡ replicate k x
take_zeros x l zero n h = refl
take_zeros x l (suc k) zero h = absurd (omega arith)
take_zeros {A} x l (suc k) (suc n) h = ap (λ (r : List A). x ∷ r) (take_zeros x l k n (omega arith))

zeros_part : {A : Type 0} (x : A) (l : List A) (i k n : ℕ) → i + k ≤ n → take k (drop i (replicate n x ++ l)) ≡ replicate k x
zeros_part x l zero k n h = take_zeros x l k n (omega arith)
zeros_part x l (suc i) k zero h = absurd (omega arith)
zeros_part x l (suc i) k (suc n) h = zeros_part x l i k n (omega arith)

pub zeros_bank : {A : Type 0} (x : A) (l : List A) (i k n : ℕ) → i + k ≤ n → bank i k (replicate n x ++ l) ≡ replicate k x
unfolding bank
zeros_bank x l i k n h = zeros_part x l i k n h

drop_zeros : {A : Type 0} (x : A) (l : List A) (n : ℕ) → drop n (replicate n x ++ l) ≡ l
drop_zeros x l zero = refl
drop_zeros x l (suc n) = drop_zeros x l n

-- what lies behind the zeros stays
pub zeros_behind : {A : Type 0} (x : A) (l : List A) (n i k : ℕ) → n ≤ i → bank i k (replicate n x ++ drop n l) ≡ bank i k l
unfolding bank
zeros_behind x l n i k h =
    let e : i ≡ n + (i - n) = omega arith in
    ap (λ (j : ℕ). take k (drop j (replicate n x ++ drop n l))) e
    ∙ ap (take k) (sym (drop-drop (i - n) n (replicate n x ++ drop n l)) ∙ ap (drop (i - n)) (drop_zeros x (drop n l) n) ∙ drop-drop (i - n) n l)
    ∙ ap (λ (j : ℕ). take k (drop j l)) (sym e)

-- SV1 to SV99 of length 0 are empty.
pub texts_cleared : (rows : List (List ℕ)) (k n : ℕ) → texts rows k (replicate n 0) ≡ replicate n []
unfolding texts
texts_cleared rows k zero = refl
texts_cleared rows k (suc n) = ap (λ (l : List (List ℕ)). [] ∷ l) (texts_cleared rows (suc k) n)

-- R1 to R10 and T1 to T10 of 0 have no elements.
pub fetched_cleared : (source : Question → Answer) (along : Along) (n : ℕ) → map (fetched source along) (replicate n 0) ≡ replicate n []
unfolding fetched words_from
fetched_cleared source along zero = refl
fetched_cleared source along (suc n) = ap (λ (l : List (List Answer)). [] ∷ l) (fetched_cleared source along n)
