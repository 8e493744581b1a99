-- Runs of cells: their bytes give back the cells, and only they do.
use Rattle.std.specs.Prelude.{Option, Some, None}
use Rattle.std.proofs.Common.{◌≡◌, ℕ, zero, suc, ◌<◌, ◌≤◌, Bool, true, false, cond, List, [], ◌∷◌, ◌++◌, length, drop, sym, refl, ap, ◌∙◌, subst, arith, length-append}
use lib.Seq.{drop-append_seam}
use Rattle.cells.specs.Cell.{Cell, cell_allowed, cell_bytes, front}
use Rattle.cells.specs.Store.{encode, cells_allowed, rising, with_first, cell_run, ordered, cells}
use Rattle.cells.proofs.BigEndian.{and_true, both}
use Rattle.cells.proofs.CellForm.{front_cell, Front, front_some}

-- cells within the limits, with rising keys
pub record Valid (cs : List Cell) : Type 0 where
  pub allowed : cells_allowed cs ≡ true
  pub rising : rising cs ≡ true

-- the run s is that of the cells cs
pub record Holds (s : List ℕ) (cs : List Cell) : Type 0 where
  pub bytes : encode cs ≡ s
  pub valid : Valid cs

-- ---- one cell after another

abbrev continued : ℕ → List ℕ → Option Cell → Option (List Cell)
continued n s None = None
continued n s (Some c) = with_first c (cell_run n (drop (length (cell_bytes c)) s))

run_step : (n b : ℕ) (t : List ℕ) → cell_run (suc n) (b ∷ t) ≡ continued n (b ∷ t) (front (b ∷ t))
unfolding cell_run
run_step n b t = go (front (b ∷ t))
  where
    go : (o : Option Cell) → elim o [ None ↦ None | Some c ↦ with_first c (cell_run n (drop (length (cell_bytes c)) (b ∷ t))) ] ≡ continued n (b ∷ t) o
    go None = refl
    go (Some c) = refl

run_cell : (c : Cell) (s : List ℕ) (n : ℕ) → cell_allowed c ≡ true → cell_run (suc n) (cell_bytes c ++ s) ≡ with_first c (cell_run n s)
unfolding cell_bytes
run_cell c s n e =
    run_step n _ _ ∙ ap (continued n (cell_bytes c ++ s)) (front_cell c s e) ∙ ap (λ (x : List ℕ). with_first c (cell_run n x)) (drop-append_seam (cell_bytes c) s)

pub cell_some : (c : Cell) → 0 < length (cell_bytes c)
unfolding cell_bytes
cell_some c = omega arith

run_encode : (cs : List Cell) (n : ℕ) → length (encode cs) ≤ n → cells_allowed cs ≡ true → cell_run n (encode cs) ≡ Some cs
unfolding encode cells_allowed with_first cell_run
run_encode [] zero h e = refl
run_encode [] (suc n) h e = refl
run_encode (c ∷ cs) zero h e = absurd (omega (arith, length-append (cell_bytes c) (encode cs), cell_some c))
run_encode (c ∷ cs) (suc n) h e =
    let t = and_true (cell_allowed c) (cells_allowed cs) e in
    run_cell c (encode cs) n t.0 ∙ ap (with_first c) (run_encode cs n (omega (arith, length-append (cell_bytes c) (encode cs), cell_some c)) t.1)

abbrev Found : List ℕ → List Cell → Type 0
Found s cs = (encode cs ≡ s) × (cells_allowed cs ≡ true)

pub some_inj : {A : Type 0} {x y : A} → Some x ≡ Some y → x ≡ y
some_inj e = cc

pub none_some : {A : Type 0} {x : A} → None ≡ Some x → ⊥
none_some e = let z : ◌≡◌ {A = ℕ} 0 1 = cc in omega arith

run_stop : (s : List ℕ) (cs : List Cell) → cell_run zero s ≡ Some cs → Found s cs
unfolding cell_run encode cells_allowed
run_stop [] cs e = subst (Found []) (some_inj e) (refl, refl)
run_stop (b ∷ t) cs e = absurd (none_some e)

run_more : (n : ℕ) → ((s : List ℕ) (cs : List Cell) → cell_run n s ≡ Some cs → Found s cs) → (s : List ℕ) (cs : List Cell) → cell_run (suc n) s ≡ Some cs → Found s cs
unfolding cell_run encode cells_allowed with_first
run_more n ih [] cs e = subst (Found []) (some_inj e) (refl, refl)
run_more n ih (b ∷ t) cs e = go (front (b ∷ t)) refl (sym (run_step n b t) ∙ e)
  where
    behind : (c : Cell) → Front (b ∷ t) c → (o : Option (List Cell)) → cell_run n (drop (length (cell_bytes c)) (b ∷ t)) ≡ o → with_first c o ≡ Some cs → Found (b ∷ t) cs
    behind c f None r x = absurd (none_some x)
    behind c f (Some ds) r x =
        let g = ih (drop (length (cell_bytes c)) (b ∷ t)) ds r in
        subst (Found (b ∷ t)) (some_inj x) (ap (λ (y : List ℕ). cell_bytes c ++ y) g.0 ∙ sym f.bytes, both f.allowed g.1)

    go : (o : Option Cell) → front (b ∷ t) ≡ o → continued n (b ∷ t) o ≡ Some cs → Found (b ∷ t) cs
    go None q x = absurd (none_some x)
    go (Some c) q x = behind c (front_some (b ∷ t) c q) (cell_run n (drop (length (cell_bytes c)) (b ∷ t))) refl x

run_some : (n : ℕ) (s : List ℕ) (cs : List Cell) → cell_run n s ≡ Some cs → Found s cs
run_some zero = run_stop
run_some (suc n) = run_more n (run_some n)

-- `cells (encode cs) ≡ some cs` for cells in form and order
pub cells_encode : (cs : List Cell) → Valid cs → cells (encode cs) ≡ Some cs
unfolding cells ordered
cells_encode cs v = rw (run_encode cs (length (encode cs)) (omega arith) v.allowed, v.rising)

-- and back
pub cells_some : (s : List ℕ) (cs : List Cell) → cells s ≡ Some cs → Holds s cs
unfolding cells ordered
cells_some s cs e = go (cell_run (length s) s) refl e
  where
    kept : (ds : List Cell) (t : Bool) → rising ds ≡ t → Found s ds → cond t (Some ds) None ≡ Some cs → Holds s cs
    kept ds true r g x = subst (Holds s) (some_inj x) (record { bytes = g.0; valid = record { allowed = g.1; rising = r } })
    kept ds false r g x = absurd (none_some x)

    go : (o : Option (List Cell)) → cell_run (length s) s ≡ o → ordered o ≡ Some cs → Holds s cs
    go None q f = let z : ◌≡◌ {A = ℕ} 0 1 = cc in absurd (omega arith)
    go (Some ds) q f = kept ds (rising ds) refl (run_some (length s) s ds q) f
