-- Arguments with their filters: what is spelled is read, and what is read is spelled.
use Rattle.std.specs.Prelude.{Option, Some, None}
use mathlib.Core.Path.{◌≡◌, refl, sym, ap, ◌∙◌, subst}
use mathlib.Core.Bool.{true, false}
use mathlib.Core.List.{List, [], ◌∷◌, ◌++◌, append_assoc, append-nil}
use Prim.Native.Char.{code}
use Prim.Native.Nat.{ℕ, ◌+◌}
use native.Mathlib.Omega.{arith}
use borrow.Author.Tests.{eqb-true, ne_eqb, eq-eqb}
use lib.ListN.{length, get_or, drop, length-append}
use Rattle.scan.specs.declared.run.Class.TheVariants.{Digit}
use Rattle.scan.specs.Ascii.{ascii}
use Rattle.scan.specs.Run.{belongs}
use Rattle.scan.specs.Line.{byte_at, byte_is}
use Rattle.scan.specs.Words.{begins, stands_at, first_of}
use Rattle.arguments.specs.declared.operand.Operand.{Operand}
use Rattle.arguments.specs.declared.argument.Filter.{Filter}
use Rattle.arguments.specs.declared.argument.Filter.TheVariants.{Unfiltered, Absolute, Truncated, UpperCase, Length, RecordCount, EntryCount}
use Rattle.arguments.specs.declared.argument.Argument.{Argument}
use Rattle.arguments.specs.Readers.Operand.{operand_at}
use Rattle.arguments.specs.Admitted.{count_of, admits}
use Rattle.arguments.specs.Readers.Argument.{filtered_at, filters, argument_of, argument_at}
use Rattle.grammar.specs.Number.{point}
use Rattle.grammar.specs.Argument.{OperandSpelled, filter_bytes, ArgumentSpelled, with_filter}
use Rattle.grammar.proofs.Standing.{tested, Found, byte_is_law, onward, past, byte_stands, stands_says, no_more, ◌or◌, found_word}
use Rattle.grammar.proofs.Literals.{Ends}
use Rattle.grammar.proofs.Operands.{operand_read, operand_spelled}

abbrev bar : ℕ
bar = code "|"

-- nothing that goes on with an argument follows
abbrev pub Closes : List ℕ → Type 0
Closes [] = Unit {0}
Closes (b ∷ r) = (belongs Digit b ≡ false) × (b ≡ point → ⊥) × (b ≡ bar → ⊥)

closes_ends : (r : List ℕ) → Closes r → Ends r
closes_ends [] t = tt
closes_ends (b ∷ r) t = (t.0, t.1)

closes_bar : (r : List ℕ) → Closes r → get_or r 0 0 ≡ bar → ⊥
closes_bar [] t e = omega arith
closes_bar (b ∷ r) t e = t.2 e

-- ---- what is spelled is read

module _ (l : List ℕ) (at : ℕ) (o : Operand) (s r : List ℕ) (k : OperandSpelled at o s) where
  plain_read : drop at l ≡ s ++ r → Closes r → argument_at l at ≡ Some (record { operand = o; filter = Unfiltered }, at + length s)
  unfolding argument_at argument_of
  plain_read e t =
      rw (operand_read l at o s r k e (closes_ends r t), ne_eqb (byte_at l (at + length s)) bar (λ q. closes_bar r t (sym (byte_is_law l (at + length s) r (onward l at s r e)) ∙ q)))

  -- behind a bar the filter is looked up
  filter_read : (w : List ℕ) → drop at l ≡ s ++ (bar ∷ (w ++ r)) → argument_at l at ≡ first_of None (filters o) l (at + length s + 1)
  unfolding argument_at argument_of belongs
  filter_read w e =
      rw (operand_read l at o s (bar ∷ (w ++ r)) k e (refl, λ q. omega arith), eq-eqb (byte_at l (at + length s)) bar (byte_is_law l (at + length s) (bar ∷ (w ++ r)) (onward l at s (bar ∷ (w ++ r)) e)))

  word_behind : (w : List ℕ) → drop at l ≡ s ++ (bar ∷ (w ++ r)) → drop (at + length s + 1) l ≡ w ++ r
  word_behind w e = past l (at + length s) bar (w ++ r) (onward l at s (bar ∷ (w ++ r)) e)

  -- an argument with a filter, where the filters have its word
  filter_is : (a : Argument) (w : List ℕ) → drop at l ≡ (s ++ (bar ∷ w)) ++ r → (drop (at + length s + 1) l ≡ w ++ r → first_of None (filters o) l (at + length s + 1) ≡ Some (a, at + length s + 1 + length w)) → argument_at l at ≡ Some (a, at + length (s ++ (bar ∷ w)))
  filter_is a w e h =
      let f = e ∙ append_assoc s (bar ∷ w) r in
      filter_read w f ∙ h (word_behind w f) ∙ ap (λ (next : ℕ). Some (a, next)) (omega (arith, length-append s (bar ∷ w)))

pub argument_read : (l : List ℕ) (at : ℕ) (a : Argument) (s r : List ℕ) → ArgumentSpelled at a s → drop at l ≡ s ++ r → Closes r → argument_at l at ≡ Some (a, at + length s)
unfolding filters filtered_at first_of stands_at begins
argument_read l at a x r (with_filter o Unfiltered s k h) e t =
    plain_read l at o s r k (e ∙ ap (λ (y : List ℕ). y ++ r) (append-nil s)) t ∙ ap (λ (next : ℕ). Some (a, next)) (omega (arith, length-append s []))
argument_read l at a x r (with_filter o Absolute s k h) e t = filter_is l at o s r k a (ascii "ABS") e (λ f. rw (f, h))
argument_read l at a x r (with_filter o Truncated s k h) e t = filter_is l at o s r k a (ascii "INT") e (λ f. rw (f, h))
argument_read l at a x r (with_filter o UpperCase s k h) e t = filter_is l at o s r k a (ascii "UPPER") e (λ f. rw (f, h))
argument_read l at a x r (with_filter o Length s k h) e t = filter_is l at o s r k a (ascii "LEN") e (λ f. rw (f, h))
argument_read l at a x r (with_filter o RecordCount s k h) e t = filter_is l at o s r k a (ascii "RECCNT") e (λ f. rw (f, h))
argument_read l at a x r (with_filter o EntryCount s k h) e t = filter_is l at o s r k a (ascii "ENTCNT") e (λ f. rw (f, h))

-- ---- what is read is spelled

abbrev ArgumentFound : List ℕ → ℕ → Option (Argument × ℕ) → Type 0
ArgumentFound l at (Some (a, next)) = Found (ArgumentSpelled at a) l at next
ArgumentFound l at None = Unit {0}

filter_sound : (l : List ℕ) (at m : ℕ) (o : Operand) (f : Filter) (w : List ℕ) → filter_bytes f ≡ bar ∷ w → Found (OperandSpelled at o) l at m → drop m l ≡ bar ∷ drop (m + 1) l → stands_at w l (m + 1) ≡ true → ArgumentFound l at (filtered_at o f l (m + 1 + length w))
unfolding filtered_at
filter_sound l at m o f w q g e h =
    tested (ArgumentFound l at) (admits f (count_of o))
    (λ d. record {
      bytes = g.bytes ++ filter_bytes f;
      spelled = with_filter o f g.bytes g.spelled d;
      here = g.here ∙ ap (λ (x : List ℕ). g.bytes ++ x) (e ∙ ap (λ (x : List ℕ). bar ∷ x) (stands_says w l (m + 1) h) ∙ ap (λ (x : List ℕ). x ++ drop (m + 1 + length w) l) (sym q)) ∙ sym (append_assoc g.bytes (filter_bytes f) (drop (m + 1 + length w) l));
      behind = omega (arith, g.behind, length-append g.bytes (filter_bytes f), ap length q);
    })
    (λ d. tt)

argument_sound : (l : List ℕ) (at : ℕ) → ArgumentFound l at (argument_at l at)
unfolding argument_at argument_of filters admits
argument_sound l at = go (operand_at l at) refl
  where
    go : (x : Option (Operand × ℕ)) → operand_at l at ≡ x → ArgumentFound l at (argument_of l x)
    go (Some (o, m)) h =
        let g = operand_spelled l at o m h in
        tested (ArgumentFound l at) (byte_is l m "|")
        (λ q.
        let e = byte_stands l m bar (eqb-true (byte_at l m) bar q) (omega arith) in
        found_word (ArgumentFound l at) None (filters o) l (m + 1) tt (
        (λ w. filter_sound l at m o Absolute (ascii "ABS") refl g e w)
        or (λ w. filter_sound l at m o Truncated (ascii "INT") refl g e w)
        or (λ w. filter_sound l at m o UpperCase (ascii "UPPER") refl g e w)
        or (λ w. filter_sound l at m o Length (ascii "LEN") refl g e w)
        or (λ w. filter_sound l at m o RecordCount (ascii "RECCNT") refl g e w)
        or (λ w. filter_sound l at m o EntryCount (ascii "ENTCNT") refl g e w)
        or no_more
        ))
        (λ q. record {
          bytes = g.bytes ++ [];
          spelled = with_filter o Unfiltered g.bytes g.spelled refl;
          here = g.here ∙ ap (λ (x : List ℕ). x ++ drop m l) (sym (append-nil g.bytes));
          behind = omega (arith, g.behind, length-append g.bytes []);
        })
    go None h = tt

pub argument_spelled : (l : List ℕ) (at : ℕ) (a : Argument) (next : ℕ) → argument_at l at ≡ Some (a, next) → Found (ArgumentSpelled at a) l at next
argument_spelled l at a next e = subst (ArgumentFound l at) e (argument_sound l at)
