-- A text line with what comes before it is a list of lines due, and the code finds each of them.
use mathlib.Core.Path.{◌≡◌, refl, sym, ap, ◌∙◌}
use mathlib.Core.Bool.{Bool, true, false, cond}
use mathlib.Core.List.{List, [], ◌∷◌, ◌++◌}
use Prim.Native.Nat.{ℕ, zero, suc, ◌+◌, ◌≤◌, ◌<◌}
use native.Mathlib.Omega.{arith}
use borrow.Author.Tests.{le-ltb, lt-ltb, eq-eqb, ne_eqb, eqb-true, leb-true, leb-false}
use lib.Dec.{ltb, eqb, leb}
use lib.ListN.{length, take, get_or, length-append}
use lib.Seq.{get_or-append_seam, length-take-le}
use Rattle.meaning.specs.Event.{break}
use Rattle.meaning.specs.Tree.{done, print, bind}
use Rattle.meaning.specs.Meaning.{Meaning}
use Rattle.meaning.proofs.Binding.{bind_assoc}
use Rattle.values.specs.Machine.{Machine}
use Rattle.pages.specs.Text.{text_meaning}
use Rattle.pages.specs.declared.page.Page.{Page}
use Rattle.pages.specs.declared.heading.Heading.{Heading}
use Rattle.pages.specs.Heading.{no_heading}
use Rattle.pages.specs.Page.{broken_of, advanced_of, on, say_meaning, head_line, head_from, head_number, head_meaning, heads_meaning, highest_defined, break_meaning, turn_meaning, top_meaning, line_step}
use Rattle.pages.specs.Inner.Listing.{turned_page, Due, says_on, heads_due, shown, heads_on, top_due, text_due, lines_due, bytes_of, due_of, lines_on, lead_of, heading_due, line_due}
use Rattle.pages.proofs.Highest.{highest_most, highest_inside, highest_over}

-- ---- a step is a break, if one is due, and these lines

module _ (m : Machine) where
  say_then : (l : List ℕ) (from n : ℕ) (p : Page) (f : Page → Meaning Page) → bind (say_meaning m l from n p) f ≡ bind (say_meaning m l from n p) (λ _. f (advanced_of p))
  unfolding say_meaning
  say_then l from n p f =
      bind_assoc (text_meaning (on m p) l from n) (λ _. done (advanced_of p)) f
      ∙ sym (bind_assoc (text_meaning (on m p) l from n) (λ _. done (advanced_of p)) (λ _. f (advanced_of p)))

  say_last : (l : List ℕ) (from n : ℕ) (p : Page) → say_meaning m l from n p ≡ bind (say_meaning m l from n p) (λ _. done (advanced_of p))
  unfolding say_meaning
  say_last l from n p = sym (bind_assoc (text_meaning (on m p) l from n) (λ _. done (advanced_of p)) (λ _. done (advanced_of p)))

  -- lines see the page of their moment, whatever page the machine is on
  pub says_same : (q : Page) (ds : List Due) (p : Page) → says_on (on m q) ds p ≡ says_on m ds p
  unfolding say_meaning
  says_same q [] p = refl
  says_same q (d ∷ ds) p = ap (λ (x : Meaning Page). bind (say_meaning m d.bytes d.from d.number p) (λ _. x)) (says_same q ds (advanced_of p))

  module _ (t : List ℕ) (due : ℕ) (l : List ℕ) where
    heads_say : (hs : List Heading) (p : Page) → bind (heads_meaning m t due hs p) (λ q. say_meaning m l 0 due q) ≡ says_on m (heads_due t due hs ++ (text_due due l ∷ [])) p
    unfolding head_meaning
    heads_say [] p =
        say_then [] 0 due p (λ q. say_meaning m l 0 due q)
        ∙ ap (λ (x : Meaning Page). bind (say_meaning m [] 0 due p) (λ _. x)) (say_last l 0 due (advanced_of p))
    heads_say (h ∷ hs) p =
        bind_assoc (head_meaning m t due h p) (heads_meaning m t due hs) (λ q. say_meaning m l 0 due q)
        ∙ say_then (head_line t h) (head_from h) (head_number due h) p (λ q. bind (heads_meaning m t due hs q) (λ q'. say_meaning m l 0 due q'))
        ∙ ap (λ (x : Meaning Page). bind (head_meaning m t due h p) (λ _. x)) (heads_say hs (advanced_of p))

    -- the headings where they are due, and the text line
    pub top_says : (hs : List Heading) (p : Page) → bind (top_meaning m t due hs p) (λ q. say_meaning m l 0 due q) ≡ says_on m (lines_due t due hs l p) p
    unfolding top_meaning
    top_says hs p = go (eqb p.row 1) (eqb (highest_defined hs 9) 0)
      where
        go : (a b : Bool) → bind (cond a (cond b (done p) (heads_meaning m t due (take (highest_defined hs 9) hs) p)) (done p)) (λ q. say_meaning m l 0 due q) ≡ says_on m (cond (cond a (cond b false true) false) (shown t due hs) [] ++ (text_due due l ∷ [])) p
        go true true = say_last l 0 due p
        go true false = heads_say (take (highest_defined hs 9) hs) p
        go false b = say_last l 0 due p

    pub step_says : (feeds : Bool) (hs : List Heading) (p : Page) → line_step m t due feeds hs l p ≡ bind (turn_meaning due feeds p) (λ _. says_on m (lines_due t due hs l (turned_page p)) (turned_page p))
    unfolding line_step turn_meaning break_meaning
    step_says feeds hs p = go (ltb 60 p.row)
      where
        go : (x : Bool) → bind (cond x (break_meaning due feeds p) (done p)) (λ q. bind (top_meaning m t due hs q) (λ q'. say_meaning m l 0 due q')) ≡ bind (cond x (break_meaning due feeds p) (done p)) (λ _. says_on m (lines_due t due hs l (cond x (broken_of p) p)) (cond x (broken_of p) p))
        go true = ap (print (break (cond feeds (12 ∷ []) [])) due) (top_says hs (broken_of p))
        go false = top_says hs p

-- ---- the list, by its two cases

heads_few : (t : List ℕ) (due : ℕ) (hs : List Heading) → length (heads_due t due hs) ≡ length hs + 1
heads_few t due [] = refl
heads_few t due (x ∷ hs) = omega (arith, heads_few t due hs)

module _ (t : List ℕ) (due : ℕ) (hs : List Heading) where
  shown_count : length (shown t due hs) ≡ highest_defined hs 9 + 1
  shown_count = omega (arith, heads_few t due (take (highest_defined hs 9) hs), length-take-le (highest_defined hs 9) hs (highest_inside hs 9))

  pub lines_by : (p : Page) (d : Due) (P : List Due → Type 0) → P (d ∷ []) → (p.row ≡ 1 → P (shown t due hs ++ (d ∷ []))) → P (top_due t due hs p ++ (d ∷ []))
  lines_by p d P a b = go (eqb p.row 1) refl (eqb (highest_defined hs 9) 0)
    where
      go : (x : Bool) → eqb p.row 1 ≡ x → (y : Bool) → P (cond (cond x (cond y false true) false) (shown t due hs) [] ++ (d ∷ []))
      go true e true = a
      go true e false = b (eqb-true p.row 1 e)
      go false e y = a

  -- at most nine headings, the blank line and the text line, and those only on a page without a line
  pub lines_few : (p : Page) (d : Due) (n : ℕ) → p.row ≤ n → 11 ≤ n → p.row + length (top_due t due hs p ++ (d ∷ [])) ≤ n + 1
  lines_few p d n h k = lines_by p d (λ ds. p.row + length ds ≤ n + 1) (omega arith) (λ e. omega (arith, e, length-append (shown t due hs) (d ∷ []), shown_count, highest_most hs 9))

-- ---- the k-th line

head_due : (t : List ℕ) (due : ℕ) (h : Heading) → due_of t (heading_due due h) ≡ record { bytes = head_line t h; from = head_from h; number = head_number due h }
unfolding heading_due head_line head_from head_number
head_due t due h = go (eqb h.number 0)
  where
    go : (b : Bool) → due_of t (cond b (record { start = 0; length = 0; from = 0; number = due }) h) ≡ record { bytes = cond b [] (bytes_of t h); from = cond b 0 h.from; number = cond b due h.number }
    go true = refl
    go false = refl

-- the one behind the highest is the blank line
heads_at : (t : List ℕ) (due : ℕ) (hs : List Heading) (n k : ℕ) (R : List Due) (d : Due) → n ≤ length hs → (get_or hs n no_heading).number ≡ 0 → k ≤ n → get_or (heads_due t due (take n hs) ++ R) k d ≡ due_of t (heading_due due (get_or hs k no_heading))
unfolding heading_due
heads_at t due hs zero zero R d f e h = rw (eq-eqb (get_or hs 0 no_heading).number 0 e)
heads_at t due hs zero (suc k) R d f e h = absurd (omega arith)
heads_at t due [] (suc n) k R d f e h = absurd (omega arith)
heads_at t due (x ∷ hs) (suc n) zero R d f e h = sym (head_due t due x)
heads_at t due (x ∷ hs) (suc n) (suc k) R d f e h = heads_at t due hs n k R d (omega arith) e (omega arith)

module _ (t : List ℕ) (hs : List Heading) (line : Heading) (p : Page) where
  abbrev most : ℕ
  most = highest_defined hs 9

  abbrev heads : List Due
  heads = shown t line.number hs

  pub lines_count : length (lines_on t hs line p) ≡ lead_of hs p + 1
  unfolding lead_of
  lines_count = go (heads_on hs p)
    where
      go : (b : Bool) → length (cond b heads [] ++ (due_of t line ∷ [])) ≡ cond b (most + 1) 0 + 1
      go true = omega (arith, length-append heads (due_of t line ∷ []), shown_count t line.number hs)
      go false = refl

  pub line_at : length hs ≤ 9 → (k : ℕ) (d : Due) → k ≤ lead_of hs p → get_or (lines_on t hs line p) k d ≡ due_of t (line_due hs (lead_of hs p) k line)
  unfolding lead_of line_due
  line_at nine k d = go k (heads_on hs p)
    where
      behind : (k : ℕ) → k ≤ most + 1 → (b : Bool) → leb k most ≡ b → get_or (heads ++ (due_of t line ∷ [])) k d ≡ due_of t (cond (ltb k (most + 1)) (heading_due line.number (get_or hs k no_heading)) line)
      behind k h true e = rw (lt-ltb k (most + 1) (omega (arith, leb-true k most e))) (heads_at t line.number hs most k (due_of t line ∷ []) d (highest_inside hs 9) (highest_over hs 9 nine) (leb-true k most e))
      behind k h false e =
          let q : k ≡ length heads = omega (arith, leb-false k most e, shown_count t line.number hs) in
          rw (le-ltb k (most + 1) (omega (arith, leb-false k most e)), q) (get_or-append_seam heads (due_of t line) [] d)

      go : (k : ℕ) (b : Bool) → k ≤ cond b (most + 1) 0 → get_or (cond b heads [] ++ (due_of t line ∷ [])) k d ≡ due_of t (cond (ltb k (cond b (most + 1) 0)) (heading_due line.number (get_or hs k no_heading)) line)
      go k true h = behind k h (leb k most) refl
      go zero false h = refl
      go (suc k) false h = absurd (omega arith)

module _ (hs : List Heading) (lead k : ℕ) (line : Heading) where
  pub due_text : lead ≤ k → line ≡ line_due hs lead k line
  unfolding line_due
  due_text h = rw (le-ltb k lead h)

  pub due_blank : (x : Heading) → k < lead → x ≡ get_or hs k no_heading → x.number ≡ 0 → record { start = 0; length = 0; from = 0; number = line.number } ≡ line_due hs lead k line
  unfolding line_due heading_due
  due_blank x h e z = rw (lt-ltb k lead h, ← e, eq-eqb x.number 0 z)

  pub due_heading : (x : Heading) → k < lead → x ≡ get_or hs k no_heading → (x.number ≡ 0 → ⊥) → x ≡ line_due hs lead k line
  unfolding line_due heading_due
  due_heading x h e z = rw (lt-ltb k lead h, ← e, ne_eqb x.number 0 z)
