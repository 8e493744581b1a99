-- Laws of the row of names: a name came before where it stands at its position.
use mathlib.Core.Path.{◌≡◌, refl, sym, ap, ◌∙◌}
use mathlib.Core.Bool.{Bool, true, false, cond, false≢true}
use mathlib.Core.List.{List, [], ◌∷◌}
use Prim.Native.Nat.{ℕ, zero, suc, ◌+◌, ◌-◌, ◌*◌, ◌<◌, ◌≤◌}
use native.Mathlib.Numerals.{add-one}
use native.Mathlib.Omega.{arith}
use borrow.Author.Tests.{ltb-true, ltb-false, eqb-true, eqb-false}
use lib.Dec.{eqb, ltb}
use lib.ListN.{length, get_or, take, drop, length-drop}
use lib.Seq.{drop-drop, length-take-le}
use Rattle.scan.proofs.RunLaws.{length_span}
use Rattle.scan.specs.declared.run.Class.TheVariants.{InLine}
use Rattle.scan.specs.Line.{line_of, line_at, next_line, window}
use Rattle.template.specs.Name.{name_of, same_bytes}
use Rattle.template.specs.Lines.{lines_of}
use Rattle.template.specs.Checks.{has_name}
use Rattle.std.specs.List.Sorted.{IsPartitionedBy, IsPartitionPoint}
use Rattle.std.proofs.lemmas.List.{get_or-take, get_or_default}
use Rattle.template.specs.Inner.Sorted.{is_below, eight_at, name_in, Sorted, Position, stands_in, Inserted}
use Rattle.template.proofs.SectionNames.{section_length, name_in_place, below_self, above_below, neither_below, not_below, same_name, same_self}
use Rattle.template.proofs.LineLaws.{lines_more}

-- ---- a position

-- whether the name at a place is below a name
abbrev pub below_at : List ℕ → List ℕ → ℕ → Bool
below_at t name place = is_below (line_of (window t place 8)) name

module _ (t places : List ℕ) (count : ℕ) (name : List ℕ) (sorted : Sorted t places count) where
  -- with a name those before it are below
  before : (i j : ℕ) → i ≤ j → j < count → is_below (name_in t places j) name ≡ true → is_below (name_in t places i) name ≡ true
  before i j k l h = go (is_below (name_in t places i) name) refl
    where
      go : (p : Bool) → is_below (name_in t places i) name ≡ p → is_below (name_in t places i) name ≡ true
      go true y = y
      go false y = absurd (false≢true (sym (not_below (name_in t places j) (name_in t places i) name (sorted.ordered i j k l) y) ∙ h))

  pub past_last : (rest : List ℕ) → rest ≡ eight_at t places (count - 1) → (b : Bool) → b ≡ is_below (line_of rest) name → b ≡ true → 0 < count → Position t places count name count
  past_last rest e b q x h =
      let here : is_below (name_in t places (count - 1)) name ≡ true = sym (q ∙ ap (λ (s : List ℕ). is_below (line_of s) name) e) ∙ x in
      record { within = omega arith; lower = λ i k. before i (count - 1) (omega arith) (omega arith) here; higher = λ i k l. absurd (omega arith) }

  -- the part of the row that is used
  counted : length (take count places) ≡ count
  counted = length-take-le count places sorted.room

  taken : (i d : ℕ) → i < count → get_or (take count places) i d ≡ get_or places i 0
  taken i d h = get_or-take count places i d h ∙ get_or_default places i d 0 (omega (arith, sorted.room))

  pub parted : IsPartitionedBy (below_at t name) (take count places)
  parted i j d k l h =
      let m : j < count = omega (arith, counted) in
      ap (below_at t name) (taken i d (omega arith)) ∙ before i j k m (ap (below_at t name) (sym (taken j d m)) ∙ h)

  pub point_found : (r : ℕ) → r ≤ length (take count places) → IsPartitionPoint (λ y. below_at t name y ≡ true) (λ y. below_at t name y ≡ false) (take count places) r → Position t places count name r
  point_found r u p =
      record {
        within = omega (arith, counted);
        lower = λ i k. ap (below_at t name) (sym (taken i 0 (omega (arith, counted)))) ∙ p.0 i 0 (omega arith) k;
        higher = λ i k l. ap (below_at t name) (sym (taken i 0 l)) ∙ p.1 i 0 k (omega (arith, counted));
      }

-- ---- the lines before, and one more

one_more : (name : List ℕ) (n : ℕ) (ls : List (List ℕ)) (l : List ℕ) (rest : List (List ℕ)) → drop n ls ≡ l ∷ rest → has_name name (take (suc n) ls) ≡ cond (has_name name (take n ls)) true (same_bytes name (name_of l))
unfolding has_name
one_more name zero ls l rest e = rw e (same (same_bytes name (name_of l)))
  where
    same : (p : Bool) → cond p true false ≡ p
    same true = refl
    same false = refl
one_more name (suc n) [] l rest e = absurd (empty e)
  where
    empty : ◌≡◌ {A = List (List ℕ)} [] (l ∷ rest) → ⊥
    empty k = let x : ◌≡◌ {A = ℕ} 0 1 = cc in omega arith
one_more name (suc n) (x ∷ ls) l rest e = go (same_bytes name (name_of x)) refl (one_more name n ls l rest e)
  where
    go : (p : Bool) → same_bytes name (name_of x) ≡ p → has_name name (take (suc n) ls) ≡ cond (has_name name (take n ls)) true (same_bytes name (name_of l)) → has_name name (x ∷ take (suc n) ls) ≡ cond (has_name name (x ∷ take n ls)) true (same_bytes name (name_of l))
    go true k more = rw k
    go false k more = rw k more

-- ---- the names of some lines stand in the row

pub record Listed (t places : List ℕ) (count : ℕ) (ls : List (List ℕ)) : Type 0 where
  pub size : length places ≡ 4681
  pub sorted : Sorted t places count
  pub known : (i : ℕ) → i < count → has_name (name_in t places i) ls ≡ true
  pub unseen : (name : List ℕ) → (length name ≡ 0 → ⊥) → ((i : ℕ) → i < count → name ≡ name_in t places i → ⊥) → has_name name ls ≡ false

pub listed_start : (t places : List ℕ) → length places ≡ 4681 → Listed t places 0 []
unfolding has_name
listed_start t places h =
    record { size = h; sorted = record { room = omega arith; ordered = λ i j k l. absurd (omega arith) }; known = λ i k. absurd (omega arith); unseen = λ name k l. refl }

not_same : (a b : List ℕ) → (a ≡ b → ⊥) → same_bytes a b ≡ false
not_same a b n = go (same_bytes a b) refl
  where
    go : (p : Bool) → same_bytes a b ≡ p → same_bytes a b ≡ false
    go true q = absurd (n (same_name a b q))
    go false q = q

module _ (t places : List ℕ) (count : ℕ) (ls : List (List ℕ)) (listed : Listed t places count ls) (name : List ℕ) (r : ℕ) (position : Position t places count name r) (named : length name ≡ 0 → ⊥) where
  pub stands_before : (b : Bool) → b ≡ stands_in t places count r name → b ≡ has_name name ls
  unfolding stands_in
  stands_before b q = q ∙ go (ltb r count) refl (same_bytes name (name_in t places r)) refl
    where
      absent : ((r < count) → name ≡ name_in t places r → ⊥) → (i : ℕ) → i < count → name ≡ name_in t places i → ⊥
      absent n i h e = side (ltb i r) refl
        where
          side : (p : Bool) → ltb i r ≡ p → ⊥
          side true q = false≢true (sym (below_self name) ∙ ap (λ (s : List ℕ). is_below s name) e ∙ position.lower i (ltb-true i r q))
          side false q =
              let k = ltb-false i r q in
              n (omega arith) (neither_below name (name_in t places r) (ap (λ (s : List ℕ). is_below s (name_in t places r)) e ∙ listed.sorted.ordered r i k h) (position.higher r (omega arith) (omega arith)))

      go : (p : Bool) → ltb r count ≡ p → (s : Bool) → same_bytes name (name_in t places r) ≡ s → stands_in t places count r name ≡ has_name name ls
      go true p true s = rw (p, s) (sym (ap (λ (x : List ℕ). has_name x ls) (same_name name (name_in t places r) s) ∙ listed.known r (ltb-true r count p)))
      go true p false s = rw (p, s) (sym (listed.unseen name named (absent (λ h e. false≢true (sym s ∙ ap (same_bytes name) (sym e) ∙ same_self name)))))
      go false p s q = rw p (sym (listed.unseen name named (absent (λ h e. absurd (omega (arith, ltb-false r count p))))))

-- ---- check 5's loop, from one line to the next

-- a section's line has six bytes and its end, so the row has room for it
pub room_left : (t line : List ℕ) (at : ℕ) → line ≡ line_at t at → (name : List ℕ) → name ≡ name_of line → (length name ≡ 0 → ⊥) → length t ≤ 32768 → (places : List ℕ) (count : ℕ) → length places ≡ 4681 → count * 7 ≤ at → count < length places
room_left t line at e name o n h places count size k =
    omega (arith, section_length line name o n, ap length e, length_span InLine (drop at t), length-drop at t)

module _ (t line : List ℕ) (at n : ℕ) (on : drop n (lines_of t) ≡ lines_of (drop at t)) (inside : at < length t) (e : line ≡ line_at t at) where
  pub lines_on_law : drop (n + 1) (lines_of t) ≡ lines_of (drop (at + (length line + 1)) t)
  lines_on_law =
      let l : at + (length line + 1) ≡ next_line t at = omega (arith, ap length e) in
      rw l (sym (drop-drop 1 n (lines_of t)) ∙ ap (drop 1) (on ∙ lines_more t at inside))

  module _ (places : List ℕ) (count : ℕ) (listed : Listed t places count (take n (lines_of t))) (name : List ℕ) (o : name ≡ name_of line) where
    this : name ≡ name_of (line_at t at)
    this = o ∙ ap name_of e

    one_later : (other : List ℕ) → has_name other (take (suc n) (lines_of t)) ≡ cond (has_name other (take n (lines_of t))) true (same_bytes other name)
    one_later other = one_more other n (lines_of t) (line_at t at) _ (on ∙ lines_more t at inside) ∙ ap (λ (x : List ℕ). cond (has_name other (take n (lines_of t))) true (same_bytes other x)) (sym this)

    still : (other : List ℕ) → has_name other (take n (lines_of t)) ≡ true → has_name other (take (suc n) (lines_of t)) ≡ true
    still other h = one_later other ∙ rw h

    no_more : (other : List ℕ) → has_name other (take n (lines_of t)) ≡ false → (other ≡ name → ⊥) → has_name other (take (suc n) (lines_of t)) ≡ false
    no_more other h d = one_later other ∙ rw (h, not_same other name d)

    last : has_name name (take (suc n) (lines_of t)) ≡ true
    last = one_later name ∙ go (has_name name (take n (lines_of t)))
      where
        go : (p : Bool) → cond p true (same_bytes name name) ≡ true
        go true = refl
        go false = same_self name

    pub listed_same : length name ≡ 0 → Listed t places count (take (n + 1) (lines_of t))
    listed_same z =
        rw (add-one n)
        (record { size = listed.size; sorted = listed.sorted; known = λ i h. still (name_in t places i) (listed.known i h); unseen = λ other k h. no_more other (listed.unseen other k h) (λ d. k (ap length d ∙ z)) })

    pub listed_more : (length name ≡ 0 → ⊥) → (r : ℕ) → Position t places count name r → (after : List ℕ) → Inserted places count r (at + 5) after → count < length places → Listed t after (count + 1) (take (n + 1) (lines_of t))
    listed_more named r position after ins room =
        rw (add-one n)
        (record { size = ins.size ∙ listed.size; sorted = record { room = omega (arith, ins.size); ordered = ordered }; known = known; unseen = unseen })
      where
        old : (i : ℕ) → i < r → name_in t after i ≡ name_in t places i
        old i h = ap (λ (x : ℕ). line_of (window t x 8)) (ins.lower i h)

        new : (i : ℕ) → i ≡ r → name_in t after i ≡ name
        new i h = ap (name_in t after) h ∙ ap (λ (x : ℕ). line_of (window t x 8)) ins.here ∙ sym (name_in_place t line name at e o named)

        later : (i : ℕ) → r < i → i < count + 1 → name_in t after i ≡ name_in t places (i - 1)
        later i h k =
            let f : i ≡ i - 1 + 1 = omega arith in
            ap (λ (x : ℕ). name_in t after x) f ∙ ap (λ (x : ℕ). line_of (window t x 8)) (ins.higher (i - 1) (omega arith) (omega arith))

        ordered : (i j : ℕ) → i ≤ j → j < count + 1 → is_below (name_in t after j) (name_in t after i) ≡ false
        ordered i j h k = go (ltb j r) refl (eqb j r) refl (ltb i r) refl (eqb i r) refl
          where
            go : (a : Bool) → ltb j r ≡ a → (b : Bool) → eqb j r ≡ b → (c : Bool) → ltb i r ≡ c → (d : Bool) → eqb i r ≡ d → is_below (name_in t after j) (name_in t after i) ≡ false
            go true a b b' c c' d d' =
                let x = ltb-true j r a in
                rw (old j x, old i (omega arith)) (listed.sorted.ordered i j h (omega (arith, position.within)))
            go false a true b true c d d' =
                rw (new j (eqb-true j r b), old i (ltb-true i r c)) (above_below _ _ (position.lower i (ltb-true i r c)))
            go false a true b false c d d' =
                let x = eqb-true j r b in
                let y = ltb-false i r c in
                rw (new j x, new i (omega arith)) (below_self name)
            go false a false b true c d d' =
                let x = ltb-false j r a in
                let y = eqb-false j r b in
                let z = ltb-true i r c in
                rw (later j (omega (arith, y)) k, old i z) (listed.sorted.ordered i (j - 1) (omega (arith, y)) (omega (arith, y)))
            go false a false b false c true d =
                let x = ltb-false j r a in
                let y = eqb-false j r b in
                rw (later j (omega (arith, y)) k, new i (eqb-true i r d)) (position.higher (j - 1) (omega (arith, y)) (omega (arith, y)))
            go false a false b false c false d =
                let x = ltb-false j r a in
                let y = eqb-false j r b in
                let z = ltb-false i r c in
                let w = eqb-false i r d in
                rw (later j (omega (arith, y)) k, later i (omega (arith, w)) (omega arith)) (listed.sorted.ordered (i - 1) (j - 1) (omega arith) (omega (arith, y)))

        known : (i : ℕ) → i < count + 1 → has_name (name_in t after i) (take (suc n) (lines_of t)) ≡ true
        known i h = go (ltb i r) refl (eqb i r) refl
          where
            go : (a : Bool) → ltb i r ≡ a → (b : Bool) → eqb i r ≡ b → has_name (name_in t after i) (take (suc n) (lines_of t)) ≡ true
            go true a b b' =
                let x = ltb-true i r a in
                rw (old i x) (still _ (listed.known i (omega (arith, position.within))))
            go false a true b =
                rw (new i (eqb-true i r b)) last
            go false a false b =
                let x = ltb-false i r a in
                let y = eqb-false i r b in
                rw (later i (omega (arith, y)) h) (still _ (listed.known (i - 1) (omega (arith, y))))

        unseen : (other : List ℕ) → (length other ≡ 0 → ⊥) → ((i : ℕ) → i < count + 1 → other ≡ name_in t after i → ⊥) → has_name other (take (suc n) (lines_of t)) ≡ false
        unseen other k h =
            no_more other (listed.unseen other k (λ i l. go i l (ltb i r) refl)) (λ d. h r (omega (arith, position.within)) (d ∙ sym (new r refl)))
          where
            go : (i : ℕ) → i < count → (p : Bool) → ltb i r ≡ p → other ≡ name_in t places i → ⊥
            go i l true p d = h i (omega arith) (d ∙ sym (old i (ltb-true i r p)))
            go i l false p d = h (i + 1) (omega arith) (d ∙ sym (ap (λ (x : ℕ). line_of (window t x 8)) (ins.higher i (ltb-false i r p) l)))
