-- Strings as the rows and lengths of SV1 to SV99: one law for each return of the code.
use Rattle.std.specs.Prelude.{Result, Ok}
use mathlib.Core.Path.{◌≡◌, refl, sym, ap, ◌∙◌}
use mathlib.Core.Bool.{Bool, true, false}
use mathlib.Core.List.{List, [], ◌∷◌}
use Prim.Native.Nat.{ℕ, zero, suc, ◌+◌, ◌-◌, ◌≤◌, ◌<◌, min}
use native.Mathlib.Omega.{arith}
use borrow.Author.Tests.{leb-true, leb-false}
use lib.Dec.{leb}
use lib.ListN.{length, take, drop, get_or, set, length-set, length-take}
use lib.Seq.{sets, sets-eq, take_all, take_at, length-take-le}
use Rattle.values.specs.Inner.Registers.{Puts}
use Rattle.values.specs.Machine.{set_numbered}
use Rattle.meaning.specs.declared.refusal.Refusal.{Refusal}
use Rattle.buffers.proofs.Laws.{copied_more}
use Rattle.values.specs.declared.string.Text.{Text}
use Rattle.values.specs.Letters.{letter}
use Rattle.values.specs.Inner.Texts.{zeros, row_for, chosen, Strings, strings, cased}
use Rattle.values.proofs.Texts.{text_is, length_cased}
use Rattle.values.specs.Inner.State.{texts, bank, lengths_in}
use Rattle.values.specs.declared.worth.Worth.{Worth}
use Rattle.values.proofs.Keeping.{strings_kept}
use Rattle.commands.specs.Setting.{as_variable, string_new}
use Rattle.commands.specs.Inner.Taking.{TakesText}
use Rattle.commands.specs.Inner.Assigning.{Rowed, PutsString, StoresString}
use Rattle.values.proofs.Puts.{put_none, put_in, put_past}

-- ---- a copy of at most 16 bytes

get_or_cased : (u : Bool) (s : List ℕ) (j : ℕ) → j < length s → get_or (cased u s) j 0 ≡ letter u (get_or s j 0)
unfolding cased
get_or_cased true [] j h = absurd (omega arith)
get_or_cased true (b ∷ s) zero h = refl
get_or_cased true (b ∷ s) (suc j) h = get_or_cased true s j (omega arith)
get_or_cased false s j h = refl

module _ (s : List ℕ) (u : Bool) (row : List ℕ) (j : ℕ) (h : row ≡ sets zeros 0 (take j (cased u s))) where
  -- a byte more, and all
  pub copy_next : j < length (take 16 s) → (b : ℕ) → b ≡ letter u (get_or s j 0) → set row j b ≡ sets zeros 0 (take (j + 1) (cased u s))
  copy_next k b e =
      let z : 0 + j ≡ j = omega arith in
      let l : j < length s = omega (arith, length-take 16 s) in
      rw (e, ← (get_or_cased u s j l)) (rw z at (copied_more row zeros (cased u s) 0 j h 0 (omega (arith, length_cased u s))))

  pub copy_all : j ≡ length (take 16 s) → row ≡ sets zeros 0 (take 16 (cased u s))
  copy_all e = h ∙ ap (sets zeros 0) (same_front (leb 16 (length s)) refl)
    where
      same_front : (t : Bool) → leb 16 (length s) ≡ t → take j (cased u s) ≡ take 16 (cased u s)
      same_front true q =
          let l : j ≡ 16 = omega (arith, e, length-take-le 16 s (leb-true 16 (length s) q)) in
          ap (λ (n : ℕ). take n (cased u s)) l
      same_front false q =
          let l : length (cased u s) ≤ j = omega (arith, e, length_cased u s, length-take 16 s, leb-false 16 (length s) q) in
          take_all j (cased u s) l ∙ sym (take_all 16 (cased u s) (omega (arith, length_cased u s, leb-false 16 (length s) q)))

take_most : (n : ℕ) (l : List ℕ) → length (take n l) ≤ n
take_most zero l = omega arith
take_most (suc n) [] = omega arith
take_most (suc n) (x ∷ l) = omega (arith, take_most n l)

same_count : (u : Bool) (s : List ℕ) → length (take 16 s) ≡ length (take 16 (cased u s))
same_count u s = length-take 16 s ∙ ap (min 16) (sym (length_cased u s)) ∙ sym (length-take 16 (cased u s))

-- the first bytes of a row, as many as were put there
front : (l : List ℕ) (n : ℕ) → length l ≤ 16 → n ≡ length l → take n (sets zeros 0 l) ≡ l
front l n h e = rw (e, sets-eq l zeros 0 (omega arith)) (take_at l _ (length l) refl)

copy_is : (s : List ℕ) (u : Bool) (row : List ℕ) (n : ℕ) → row ≡ sets zeros 0 (take 16 (cased u s)) → n ≡ length (take 16 s) → take n row ≡ take 16 (cased u s)
copy_is s u row n e k = ap (take n) e ∙ front (take 16 (cased u s)) n (take_most 16 (cased u s)) (k ∙ same_count u s)

-- ---- SVn

length_texts : (rows : List (List ℕ)) (k : ℕ) (ns : List ℕ) → length (texts rows k ns) ≡ length ns
unfolding texts
length_texts rows k [] = refl
length_texts rows k (n ∷ ns) = ap suc (length_texts rows (suc k) ns)

module _ (rows : List (List ℕ)) (words : List ℕ) (n : ℕ) (row : List ℕ) (count : ℕ) (h : Rowed rows) where
  pub string_none : n < 1 → PutsString rows words n (take count row) rows words
  string_none l = record { put = put_none _ _ n l; held = h; above = λ i k g. refl }

  pub string_in_law : 1 ≤ n → n - 1 < 99 → (words' : List ℕ) → Puts words 0 99 n count words' → PutsString rows words n (take count row) (set rows (n - 1) row) words'
  string_in_law k l words' d = record {
    put = ap (texts (set rows (n - 1) row) 0) (d.own ∙ sym (put_in (lengths_in words) count n count k refl)) ∙ strings_kept rows (lengths_in words) (n - 1) row count l (omega (arith, h.rows_held)) ∙ put_in (texts rows 0 (lengths_in words)) (take count row) n _ k refl;
    held = record { rows_held = length-set rows (n - 1) row ∙ h.rows_held };
    above = λ i j g. d.above i j (omega arith);
  }

  pub string_past : 1 ≤ n → 99 ≤ n - 1 → PutsString rows words n (take count row) rows words
  unfolding bank
  string_past k l = record { put = put_past _ _ n k (omega (arith, length_texts rows 0 (take 99 (drop 0 words)), length-take 99 (drop 0 words))); held = h; above = λ i k g. refl }

-- ---- a value in hand

module _ (line store : List ℕ) (rows : List (List ℕ)) (words : List ℕ) (n : ℕ) (w : Worth) (k : Rowed rows) (phrase : Result Text Refusal) (d : TakesText w phrase) where
  abbrev Here : Strings
  Here = strings line store rows

  module _ (t : Text) (h : phrase ≡ Ok t) (row found : List ℕ) (r : row ≡ row_for rows t.source) (f : found ≡ take t.count (drop t.at (chosen line store row t.source))) where
    pub string_stored : (copy : List ℕ) (count : ℕ) → copy ≡ sets zeros 0 (take 16 (cased t.upper found)) → count ≡ length (take 16 found) → (rows' : List (List ℕ)) (words' : List ℕ) → PutsString rows words n (take count copy) rows' words' → StoresString line store rows words n w rows' words' (Ok tt)
    unfolding as_variable string_new
    string_stored copy count e l rows' words' p = record {
      same = rw (← (d.same Here), h) (ap Ok (sym (p.put ∙ ap (λ (s : List ℕ). set_numbered (texts rows 0 (lengths_in words)) n s) (copy_is found t.upper copy count e l ∙ ap (take 16) (text_is Here t row found r f)))));
      held = p.held;
      above = p.above;
    }
