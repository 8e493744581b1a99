-- Laws of digits, and of the loops that count and write them.
use mathlib.Core.Path.{◌≡◌, refl, sym, ap, ◌∙◌}
use mathlib.Core.Bool.{Bool, true, false}
use mathlib.Core.List.{List, [], ◌∷◌}
use Prim.Native.Nat.{ℕ, zero, suc, ◌+◌, ◌-◌, ◌/◌, ◌%◌, ◌^◌, ◌≤◌, ◌<◌}
use native.Mathlib.Nat.{pow-suc, div-lt_iff_lt-mul}
use native.Mathlib.Omega.{arith}
use borrow.Author.Tests.{lt-ltb, le-ltb, ltb-true, ltb-false}
use lib.Dec.{ltb}
use lib.ListN.{length, set, length-append}
use lib.Seq.{sets}
use Rattle.buffers.proofs.Laws.{sets_append, sets_behind}
use Rattle.fields.specs.Digits.{digits, count_within, digit_count}

pub length_digits : (k n : ℕ) → length (digits k n) ≡ k
unfolding digits
length_digits zero n = refl
length_digits (suc k) n = length-append (digits k (n / 10)) ((48 + n % 10) ∷ []) ∙ omega (arith, length_digits k (n / 10))

-- one digit, or one more than a tenth has
within_one : (f n : ℕ) → n < 10 → count_within f n ≡ 1
unfolding count_within
within_one zero n h = refl
within_one (suc f) n h = rw (lt-ltb n 10 h, count_within)

within_more : (f n : ℕ) → 10 ≤ n → count_within (suc f) n ≡ suc (count_within f (n / 10))
unfolding count_within
within_more f n h = rw (le-ltb n 10 h, count_within)

-- more steps than n change nothing
enough_more : (f g n : ℕ) (t : Bool) → ltb n 10 ≡ t → (10 ≤ n → count_within f (n / 10) ≡ count_within g (n / 10)) → count_within (suc f) n ≡ count_within (suc g) n
enough_more f g n true e more = let h = ltb-true n 10 e in within_one (suc f) n h ∙ sym (within_one (suc g) n h)
enough_more f g n false e more = let h = ltb-false n 10 e in within_more f n h ∙ ap suc (more h) ∙ sym (within_more g n h)

enough : (f g n : ℕ) → n ≤ f → n ≤ g → count_within f n ≡ count_within g n
enough zero g n h h' = within_one zero n (omega arith) ∙ sym (within_one g n (omega arith))
enough (suc f) zero n h h' = within_one (suc f) n (omega arith) ∙ sym (within_one zero n (omega arith))
enough (suc f) (suc g) n h h' = enough_more f g n (ltb n 10) refl (λ l. enough f g (n / 10) (omega arith) (omega arith))

pub count_one : (n : ℕ) → n < 10 → digit_count n ≡ 1
unfolding digit_count
count_one n h = within_one n n h

pub count_more : (n : ℕ) → 10 ≤ n → digit_count n ≡ suc (digit_count (n / 10))
unfolding digit_count
count_more n h =
    let e : n ≡ suc (n - 1) = omega arith in
    ap (λ (f : ℕ). count_within f n) e ∙ within_more (n - 1) n h ∙ ap suc (enough (n - 1) (n / 10) (n / 10) (omega arith) (omega arith))

-- what is below 10 ^ (k + 1) has at most k + 1 digits
bound_more : (k n : ℕ) (t : Bool) → ltb n 10 ≡ t → (10 ≤ n → digit_count (n / 10) ≤ suc k) → digit_count n ≤ suc (suc k)
bound_more k n true e more = omega (arith, count_one n (ltb-true n 10 e))
bound_more k n false e more = let h = ltb-false n 10 e in omega (arith, count_more n h, more h)

pub count_bound : (k n : ℕ) → n < 10 ^ suc k → digit_count n ≤ suc k
count_bound zero n h = omega (arith, count_one n h)
count_bound (suc k) n h =
    let l : n / 10 < 10 ^ suc k = (div-lt_iff_lt-mul {k = 10} (omega arith)).1 (rw (pow-suc 10 (suc k)) at h) in
    bound_more k n (ltb n 10) refl (λ m. count_bound k (n / 10) l)

-- counting: from m and a count so far, what n has
pub counted_more : (n m k : ℕ) → k + digit_count m ≡ 1 + digit_count n → 10 ≤ m → k + 1 + digit_count (m / 10) ≡ 1 + digit_count n
counted_more n m k inv h = omega (arith, count_more m h)

pub counted_all : (n m k : ℕ) → k + digit_count m ≡ 1 + digit_count n → m < 10 → k ≡ digit_count n
counted_all n m k inv h = omega (arith, count_one m h)

-- writing: what is still to be written to d gives what b gets in all
last_first : (d : List ℕ) (at j m : ℕ) → sets d at (digits (suc j) m) ≡ sets (set d (at + j) (48 + m % 10)) at (digits j (m / 10))
unfolding digits
last_first d at j m =
    let l : length (digits j (m / 10)) ≡ j = length_digits j (m / 10) in
    rw (sets_append (digits j (m / 10)) d at ((48 + m % 10) ∷ []), l) (sym (sets_behind (digits j (m / 10)) d (at + j) at (48 + m % 10) (omega arith)))

pub digit_put : (d b : List ℕ) (at k n j m : ℕ) → sets d at (digits (k - j) m) ≡ sets b at (digits k n) → j < k → sets (set d (at + k - 1 - j) (48 + m % 10)) at (digits (k - (j + 1)) (m / 10)) ≡ sets b at (digits k n)
digit_put d b at k n j m inv h =
    let e : k - j ≡ suc (k - (j + 1)) = omega arith in
    let i : at + k - 1 - j ≡ at + (k - (j + 1)) = omega arith in
    rw i (sym (last_first d at (k - (j + 1)) m) ∙ ap (λ (i : ℕ). sets d at (digits i m)) (sym e) ∙ inv)

pub digits_put : (d b : List ℕ) (at k n j m : ℕ) → sets d at (digits (k - j) m) ≡ sets b at (digits k n) → k ≤ j → d ≡ sets b at (digits k n)
unfolding digits
digits_put d b at k n j m inv h =
    let z : k - j ≡ 0 = omega arith in
    rw z at inv
