-- Lines: what is read is spelled; and the law of the grammar.
use Rattle.std.specs.Prelude.{Some, None, Option}
use mathlib.Core.Path.{◌≡◌, refl, sym, ap, ◌∙◌, subst}
use mathlib.Core.Bool.{Bool, true, false, cond, false≢true}
use mathlib.Core.List.{List, [], ◌∷◌, ◌++◌, append-nil}
use Prim.Native.Nat.{ℕ, ◌+◌, ◌≤◌}
use native.Mathlib.Omega.{arith}
use borrow.Author.Tests.{eqb-true, eqb-false, leb-true, ltb-false}
use lib.Dec.{leb, ltb, eqb}
use lib.ListN.{length, take, drop, length-drop, length-take, drop_of_length-le}
use Rattle.scan.specs.declared.run.Class.TheVariants.{InName}
use Rattle.scan.specs.Ascii.{ascii}
use Rattle.scan.specs.Run.{span}
use Rattle.scan.specs.Line.{byte_at, byte_is}
use Rattle.scan.specs.Readers.Digits.{number_at}
use Rattle.scan.specs.Words.{stands_at, first_of}
use Rattle.scan.proofs.RunLaws.{length_span}
use Rattle.arguments.specs.declared.index.Index.{Index}
use Rattle.arguments.specs.declared.operand.Operand.{Operand}
use Rattle.arguments.specs.declared.argument.Argument.{Argument}
use Rattle.arguments.specs.Readers.Index.{index_at}
use Rattle.arguments.specs.Readers.Operand.{operand_at}
use Rattle.arguments.specs.Readers.Argument.{argument_at}
use Rattle.texts.specs.declared.text.Piece.{Piece}
use Rattle.texts.specs.Width.{total_width}
use Rattle.texts.specs.Readers.Text.{pieces_within, text_pieces, fits_behind, text_fits}
use Rattle.lines.specs.declared.command.Operation.{Operation}
use Rattle.lines.specs.declared.command.Operation.TheVariants.{Assign, Add, Subtract, Multiply, Divide}
use Rattle.lines.specs.declared.command.Target.{Target}
use Rattle.lines.specs.declared.command.Target.TheVariants.{IntegerTarget, DecimalTarget, StringTarget}
use Rattle.lines.specs.declared.command.Comparison.{Comparison}
use Rattle.lines.specs.declared.command.Comparison.TheVariants.{SameString, SameLetters, Equal, NotEqual, Less, AtMost, Greater, AtLeast}
use Rattle.lines.specs.declared.command.Fetch.{Fetch}
use Rattle.lines.specs.declared.command.Line.{Line}
use Rattle.lines.specs.declared.command.Line.TheVariants.{Section, Set, IfNot, If, Compare, Else, EndIf, BeginTable, EndTable, Records, Entries, Datasource, NoFormFeed, NewPage, Heading, NoHeading, Remark}
use Rattle.lines.specs.Readers.Reading.{argument_or, index_or, numeral_or}
use Rattle.lines.specs.Readers.Behind.{behind_space, ending}
use Rattle.lines.specs.Readers.Set.{string_target, target_of, operand_or, target_or, set_at, datasource_at}
use Rattle.lines.specs.Readers.Compare.{compare_at}
use Rattle.lines.specs.Readers.Simple.{single_at, bare_at, optional_at}
use Rattle.lines.specs.Readers.Fetch.{parameter_at, fetched_at, fetch_or, fetch_at}
use Rattle.lines.specs.Readers.Title.{name_at, section_at, heading_of, heading_at, remark_at}
use Rattle.lines.specs.Readers.Command.{commands, parse_line}
use Rattle.lines.proofs.EndLaws.{no_number, no_parameter, no_index, no_operand, no_argument, no_name}
use Rattle.grammar.specs.Number.{Several, Numbered, IndexSpelled}
use Rattle.grammar.specs.Argument.{OperandSpelled, number_literal, string_literal, integer_variable, decimal_variable, string_variable, page_number, line_number, loop_counter, record_element, entry_element, parameter, record_of, entry_cell_of, ArgumentSpelled}
use Rattle.grammar.specs.Text.{TextSpelled}
use Rattle.grammar.specs.Line.{space, TargetSpelled, integer_target, decimal_target, string_as_target, OptionalSpelled, absent, present, FetchSpelled, fetch, HeadingWord, bare_word, numbered_word, Spells, text, section_form, set, if_not, if, compare, «else», end_if, begin_table, end_table, records_form, entries_form, datasource, no_form_feed, new_page_line, heading, no_heading_line, remark, remark_text}
use Rattle.grammar.proofs.Standing.{tested, Found, byte_stands, stands_says, span_all, span_here, no_more, ◌or◌, found_word}
use Rattle.grammar.proofs.Numbers.{number_spelled}
use Rattle.grammar.proofs.Literals.{index_spelled}
use Rattle.grammar.proofs.Operands.{operand_spelled}
use Rattle.grammar.proofs.Arguments.{argument_spelled}
use Rattle.grammar.proofs.Texts.{text_spelled}
use Rattle.grammar.proofs.Commands.{spelled_is_read}

-- a line that was read has no form, or spells the one that was read
data Sound (l : List ℕ) : Option Line → Type 0 where
  nothing : Sound l None
  as_spelled : {f : Line} → Spells f l → Sound l (Some f)

-- ---- the line, put together from its end

-- the line begins with w, which ends at a place
record Fronted (l : List ℕ) (at : ℕ) (w : List ℕ) : Type 0 where
  whole : l ≡ w ++ drop at l
  size : length w ≡ at

module _ (l : List ℕ) where
  line_is : {at : ℕ} {w : List ℕ} (r : List ℕ) → Fronted l at w → drop at l ≡ r → w ++ r ≡ l
  line_is {w = w} r f e = ap (λ (x : List ℕ). w ++ x) (sym e) ∙ sym f.whole

  ended : (at : ℕ) → ltb at (length l) ≡ false → drop at l ≡ []
  ended at e = drop_of_length-le l (ltb-false at (length l) e)

  found_then : {P : List ℕ → Type 0} {at m : ℕ} (r : List ℕ) (f : Found P l at m) → drop m l ≡ r → drop at l ≡ f.bytes ++ r
  found_then r f e = f.here ∙ ap (λ (x : List ℕ). f.bytes ++ x) e

  found_last : {P : List ℕ → Type 0} {at m : ℕ} (f : Found P l at m) → ltb m (length l) ≡ false → drop at l ≡ f.bytes
  found_last {m = m} f e = found_then [] f (ended m e) ∙ append-nil f.bytes

  space_then : (at : ℕ) (r : List ℕ) → byte_is l at " " ≡ true → drop (at + 1) l ≡ r → drop at l ≡ space ∷ r
  space_then at r e h = byte_stands l at space (eqb-true (byte_at l at) space e) (omega arith) ∙ ap (λ (x : List ℕ). space ∷ x) h

  -- an argument behind a space, and what follows it; the line's end stands for a missing space
  argument_sound : (at : ℕ) (g : Argument → ℕ → Option Line) → ((a : Argument) (next : ℕ) → byte_is l at " " ≡ true → Found (ArgumentSpelled (at + 1) a) l (at + 1) next → Sound l (g a next)) → Sound l (argument_or None (argument_at l (behind_space l at)) g)
  unfolding behind_space
  argument_sound at g h = go (byte_is l at " ") refl
    where
      found : (x : Option (Argument × ℕ)) → argument_at l (at + 1) ≡ x → byte_is l at " " ≡ true → Sound l (argument_or None x g)
      found (Some (a, next)) q e = h a next e (argument_spelled l (at + 1) a next q)
      found None q e = nothing

      go : (t : Bool) → byte_is l at " " ≡ t → Sound l (argument_or None (argument_at l (cond t (at + 1) (length l))) g)
      go true e = found (argument_at l (at + 1)) refl e
      go false e = rw (no_argument l (length l) (omega arith)) nothing

  index_sound : {A : Type 0} (P : A → Type 0) (lack : A) → P lack → (at : ℕ) (g : Index → ℕ → A) → ((i : Index) (next : ℕ) → byte_is l at " " ≡ true → Found (IndexSpelled i) l (at + 1) next → P (g i next)) → P (index_or lack (index_at l (behind_space l at)) g)
  unfolding behind_space
  index_sound P lack z at g h = go (byte_is l at " ") refl
    where
      found : (x : Option (Index × ℕ)) → index_at l (at + 1) ≡ x → byte_is l at " " ≡ true → P (index_or lack x g)
      found (Some (i, next)) q e = h i next e (index_spelled l (at + 1) i next q)
      found None q e = z

      go : (t : Bool) → byte_is l at " " ≡ t → P (index_or lack (index_at l (cond t (at + 1) (length l))) g)
      go true e = found (index_at l (at + 1)) refl e
      go false e = rw (no_index l (length l) (omega arith)) z

  -- nothing stands behind the last
  ending_sound : (at : ℕ) (form : Line) → (ltb at (length l) ≡ false → Spells form l) → Sound l (ending l at form)
  ending_sound at form h = tested (Sound l) (ltb at (length l)) (λ e. nothing) (λ e. as_spelled (h e))

  -- ---- the commands

  module _ {at : ℕ} {w : List ℕ} (f : Fronted l at w) where
    single_sound : (form : Argument → Line) → ((a : Argument) (s : List ℕ) → ArgumentSpelled (at + 1) a s → Spells (form a) (w ++ (space ∷ s))) → Sound l (single_at form l at)
    unfolding single_at
    single_sound form h =
        argument_sound at (λ a end. ending l end (form a)) (λ a end e g.
        ending_sound end (form a) (λ z. subst (Spells (form a)) (line_is _ f (space_then at _ e (found_last g z))) (h a g.bytes g.spelled)))

    bare_sound : (form : Line) → Spells form w → Sound l (bare_at form l at)
    unfolding bare_at
    bare_sound form h = ending_sound at form (λ z. subst (Spells form) (sym (append-nil w) ∙ line_is [] f (ended at z)) h)

    optional_sound : (form : Option Argument → Line) → ((k : Option Argument) (s : List ℕ) → OptionalSpelled at k s → Spells (form k) (w ++ s)) → Sound l (optional_at form l at)
    unfolding optional_at
    optional_sound form h =
        tested (Sound l) (leb (length l) at)
        (λ b. as_spelled (subst (Spells (form None)) (line_is [] f (drop_of_length-le l (leb-true (length l) at b))) (h None [] absent)))
        (λ b. argument_sound at (λ a end. ending l end (form (Some a))) (λ a end e g.
        ending_sound end (form (Some a)) (λ z. subst (Spells (form (Some a))) (line_is _ f (space_then at _ e (found_last g z))) (h (Some a) (space ∷ g.bytes) (present a g.bytes g.spelled)))))

    compare_sound : (c : Comparison) → ((a : Argument) (x : List ℕ) (b : Argument) (y : List ℕ) → ArgumentSpelled (at + 1) a x → ArgumentSpelled (at + 1 + length x + 1) b y → Spells (Compare c a b) (w ++ (space ∷ (x ++ (space ∷ y))))) → Sound l (compare_at c l at)
    unfolding compare_at
    compare_sound c h =
        argument_sound at _ (λ a m e g.
        argument_sound m (λ b end. ending l end (Compare c a b)) (λ b end d k.
        ending_sound end (Compare c a b) (λ z.
        subst (Spells (Compare c a b)) (line_is _ f (space_then at _ e (found_then _ g (space_then m _ d (found_last k z)))))
        (h a g.bytes b k.bytes g.spelled (subst (λ (i : ℕ). ArgumentSpelled (i + 1) b k.bytes) g.behind k.spelled)))))

    datasource_sound : ((i : Index) (s : List ℕ) → IndexSpelled i s → Spells (Datasource i) (w ++ (space ∷ s))) → Sound l (datasource_at l at)
    unfolding datasource_at
    datasource_sound h =
        index_sound (Sound l) None nothing at (λ i end. ending l end (Datasource i)) (λ i end e g.
        ending_sound end (Datasource i) (λ z. subst (Spells (Datasource i)) (line_is _ f (space_then at _ e (found_last g z))) (h i g.bytes g.spelled)))

-- ---- $SET.

no_target : {t : Target} → None ≡ Some t → ⊥
no_target e = let z : ◌≡◌ {A = ℕ} 0 1 = cc in omega arith

string_spelled : (n : ℕ) (s : List ℕ) (o : Operation) (t : Target) → Numbered 99 n s → string_target n o ≡ Some t → TargetSpelled o t (ascii "SV" ++ s)
unfolding string_target
string_spelled n s Assign t k e = let q : StringTarget n ≡ t = cc in subst (λ (x : Target). TargetSpelled Assign x (ascii "SV" ++ s)) q (string_as_target n s k)
string_spelled n s Add t k e = absurd (no_target e)
string_spelled n s Subtract t k e = absurd (no_target e)
string_spelled n s Multiply t k e = absurd (no_target e)
string_spelled n s Divide t k e = absurd (no_target e)

-- the operands that may be set, and where
target_spelled : (at : ℕ) (p : Operand) (x : List ℕ) (o : Operation) (t : Target) → OperandSpelled at p x → target_of p o ≡ Some t → TargetSpelled o t x
unfolding target_of
target_spelled at p x o t (number_literal k) e = absurd (no_target e)
target_spelled at p x o t (string_literal s k) e = absurd (no_target e)
target_spelled at p x o t (integer_variable n s k) e = let q : IntegerTarget n ≡ t = cc in subst (λ (y : Target). TargetSpelled o y (ascii "IV" ++ s)) q (integer_target o n s k)
target_spelled at p x o t (decimal_variable n s k) e = let q : DecimalTarget n ≡ t = cc in subst (λ (y : Target). TargetSpelled o y (ascii "FV" ++ s)) q (decimal_target o n s k)
target_spelled at p x o t (string_variable n s k) e = string_spelled n s o t k e
target_spelled at p x o t page_number e = absurd (no_target e)
target_spelled at p x o t line_number e = absurd (no_target e)
target_spelled at p x o t loop_counter e = absurd (no_target e)
target_spelled at p x o t (record_element n s k) e = absurd (no_target e)
target_spelled at p x o t (entry_element n s k) e = absurd (no_target e)
target_spelled at p x o t (parameter n s k) e = absurd (no_target e)
target_spelled at p x o t (record_of n s r y k i) e = absurd (no_target e)
target_spelled at p x o t (entry_cell_of n s r y j z k i h) e = absurd (no_target e)

module _ (l : List ℕ) {at : ℕ} {w : List ℕ} (f : Fronted l at w) where
  set_sound : (o : Operation) → ((t : Target) (x : List ℕ) (a : Argument) (y : List ℕ) → TargetSpelled o t x → ArgumentSpelled (at + 1 + length x + 1) a y → Spells (Set o t a) (w ++ (space ∷ (x ++ (space ∷ y))))) → Sound l (set_at o l at)
  unfolding set_at behind_space
  set_sound o h = go (byte_is l at " ") refl
    where
      rest : Operand → ℕ → Option Line
      rest p next = target_or (target_of p o) (λ t. argument_or None (argument_at l (behind_space l next)) (λ a end. ending l end (Set o t a)))

      known : (p : Operand) (m : ℕ) → byte_is l at " " ≡ true → Found (OperandSpelled (at + 1) p) l (at + 1) m → (x : Option Target) → target_of p o ≡ x → Sound l (target_or x (λ t. argument_or None (argument_at l (behind_space l m)) (λ a end. ending l end (Set o t a))))
      known p m e g (Some t) q =
          argument_sound l m (λ a end. ending l end (Set o t a)) (λ a end d k.
          ending_sound l end (Set o t a) (λ z.
          subst (Spells (Set o t a)) (line_is l _ f (space_then l at _ e (found_then l _ g (space_then l m _ d (found_last l k z)))))
          (h t g.bytes a k.bytes (target_spelled (at + 1) p g.bytes o t g.spelled q) (subst (λ (i : ℕ). ArgumentSpelled (i + 1) a k.bytes) g.behind k.spelled))))
      known p m e g None q = nothing

      found : (x : Option (Operand × ℕ)) → operand_at l (at + 1) ≡ x → byte_is l at " " ≡ true → Sound l (operand_or x rest)
      found (Some (p, m)) q e = known p m e (operand_spelled l (at + 1) p m q) (target_of p o) refl
      found None q e = nothing

      go : (t : Bool) → byte_is l at " " ≡ t → Sound l (operand_or (operand_at l (cond t (at + 1) (length l))) rest)
      go true e = found (operand_at l (at + 1)) refl e
      go false e = rw (no_operand l (length l) (omega arith)) nothing

  -- ---- $REC and $TBL

  -- a fetch that was read behind its number and its parameter, where the line ends behind it
  abbrev FetchFound : (Fetch → Line) → Option (Fetch × ℕ) → Type 0
  FetchFound form (Some (g, end)) = ltb end (length l) ≡ false → Spells (form g) l
  FetchFound form None = Unit {0}

  number_sound : (at limit : ℕ) (g : ℕ → ℕ → Option Line) → ((n next : ℕ) → byte_is l at " " ≡ true → Found (Numbered limit n) l (at + 1) next → Sound l (g n next)) → Sound l (numeral_or None (number_at l (behind_space l at) limit) g)
  unfolding behind_space
  number_sound at limit g h = go (byte_is l at " ") refl
    where
      found : (x : Option (ℕ × ℕ)) → number_at l (at + 1) limit ≡ x → byte_is l at " " ≡ true → Sound l (numeral_or None x g)
      found (Some (n, next)) q e = h n next e (number_spelled l (at + 1) limit n next q)
      found None q e = nothing

      go : (t : Bool) → byte_is l at " " ≡ t → Sound l (numeral_or None (number_at l (cond t (at + 1) (length l)) limit) g)
      go true e = found (number_at l (at + 1) limit) refl e
      go false e = rw (no_number l (length l) (omega arith) limit) nothing

  parameter_sound : (at : ℕ) (g : ℕ → ℕ → Option Line) → ((m next : ℕ) → byte_is l at " " ≡ true → drop (at + 1) l ≡ 80 ∷ drop (at + 1 + 1) l → Found (Numbered 65535 m) l (at + 1 + 1) next → Sound l (g m next)) → Sound l (numeral_or None (parameter_at l (behind_space l at)) g)
  unfolding behind_space parameter_at
  parameter_sound at g h = go (byte_is l at " ") refl
    where
      found : (x : Option (ℕ × ℕ)) → number_at l (at + 1 + 1) 65535 ≡ x → byte_is l at " " ≡ true → drop (at + 1) l ≡ 80 ∷ drop (at + 1 + 1) l → Sound l (numeral_or None x g)
      found (Some (n, next)) q e d = h n next e d (number_spelled l (at + 1 + 1) 65535 n next q)
      found None q e d = nothing

      named : (t : Bool) → byte_is l (at + 1) "P" ≡ t → byte_is l at " " ≡ true → Sound l (numeral_or None (cond t (number_at l (at + 1 + 1) 65535) None) g)
      named true q e = found (number_at l (at + 1 + 1) 65535) refl e (byte_stands l (at + 1) 80 (eqb-true (byte_at l (at + 1)) 80 q) (omega arith))
      named false q e = nothing

      go : (t : Bool) → byte_is l at " " ≡ t → Sound l (numeral_or None (parameter_at l (cond t (at + 1) (length l))) g)
      go true e = named (byte_is l (at + 1) "P") refl e
      go false e = rw (no_parameter l (length l) (omega arith)) nothing

  fetch_sound : (form : Fetch → Line) → ((g : Fetch) (s : List ℕ) → FetchSpelled g s → Spells (form g) (w ++ (space ∷ s))) → Sound l (fetch_at form l at)
  unfolding fetch_at fetched_at
  fetch_sound form h =
      number_sound at 10 _ (λ n i e a.
      parameter_sound i _ (λ m j d p b.
      finish (fetched_at l j n m) (
      index_sound l (FetchFound form) None tt j _ (λ r k y u.
      index_sound l (FetchFound form) None tt k _ (λ t o x v.
      index_sound l (FetchFound form) None tt o _ (λ c end z q.
      λ last.
      subst (Spells (form _)) (line_is l _ f (space_then l at _ e (found_then l _ a (space_then l i _ d (p ∙ ap (λ (g : List ℕ). 80 ∷ g) (found_then l _ b (space_then l j _ y (found_then l _ u (space_then l k _ x (found_then l _ v (space_then l o _ z (found_last l q last))))))))))))
      (h _ _ (fetch n a.bytes m b.bytes r u.bytes t v.bytes c q.bytes a.spelled b.spelled u.spelled v.spelled q.spelled))))))))
    where
      finish : (x : Option (Fetch × ℕ)) → FetchFound form x → Sound l (fetch_or x (λ g end. ending l end (form g)))
      finish (Some (g, end)) q = ending_sound l end (form g) q
      finish None q = nothing

-- ---- $SEC, $PH, $REM, texts

-- what a text that fits is made of
record Fitting (l : List ℕ) (at : ℕ) : Type 0 where
  pieces : List Piece
  spelled : TextSpelled at pieces (drop at l)
  fits : at + total_width pieces ≤ 132

fitting : (l : List ℕ) (at : ℕ) → text_fits l at ≡ true → Fitting l at
unfolding text_fits fits_behind text_pieces
fitting l at e = go (pieces_within (length l) l at) refl e
  where
    go : (o : Option (List Piece)) → pieces_within (length l) l at ≡ o → fits_behind at o ≡ true → Fitting l at
    go (Some ps) h e = record { pieces = ps; spelled = text_spelled (length l) l at ps (omega (arith, length-drop at l)) h; fits = leb-true (at + total_width ps) 132 e }
    go None h e = absurd (false≢true e)

module _ (l : List ℕ) {at : ℕ} {w : List ℕ} (f : Fronted l at w) where
  heading_of_sound : (n : ℕ) → HeadingWord n w → Sound l (heading_of l at n)
  unfolding heading_of
  heading_of_sound n h =
      tested (Sound l) (leb (length l) at)
      (λ b. as_spelled (subst (Spells (NoHeading n)) (sym (append-nil w) ∙ line_is l [] f (drop_of_length-le l (leb-true (length l) at b))) (no_heading_line n w h)))
      (λ b. tested (Sound l) (byte_is l at " ")
      (λ e. tested (Sound l) (text_fits l (at + 1))
      (λ t.
      let k = fitting l (at + 1) t in
      as_spelled (subst (λ (i : ℕ). Spells (Heading n (i + 1)) l) f.size
      (subst (Spells (Heading n (length w + 1))) (line_is l _ f (space_then l at _ e refl))
      (heading n w k.pieces (drop (at + 1) l) h (subst (λ (i : ℕ). TextSpelled (i + 1) k.pieces (drop (at + 1) l)) (sym f.size) k.spelled) (subst (λ (i : ℕ). i + 1 + total_width k.pieces ≤ 132) (sym f.size) k.fits)))))
      (λ t. nothing))
      (λ e. nothing))

  remark_sound : Spells Remark w → ((s : List ℕ) → Spells Remark (w ++ (space ∷ s))) → Sound l (remark_at l at)
  unfolding remark_at
  remark_sound g h =
      tested (Sound l) (leb (length l) at)
      (λ b. as_spelled (subst (Spells Remark) (sym (append-nil w) ∙ line_is l [] f (drop_of_length-le l (leb-true (length l) at b))) g))
      (λ b. tested (Sound l) (byte_is l at " ") (λ e. as_spelled (subst (Spells Remark) (line_is l _ f (space_then l at _ e refl)) (h (drop (at + 1) l)))) (λ e. nothing))

  name_sound : byte_is l at " " ≡ true → ((name : List ℕ) → Several InName 1 16 name → Spells (Section (at + 1) (at + 1 + length name)) (w ++ (space ∷ name))) → Sound l (name_at l (at + 1))
  unfolding name_at
  name_sound e h =
      let s : List ℕ = span InName (take 16 (drop (at + 1) l)) in
      tested (Sound l) (eqb (length s) 0) (λ z. nothing) (λ z.
      ending_sound l (at + 1 + length s) (Section (at + 1) (at + 1 + length s)) (λ y.
      let r : Several InName 1 16 s = record { all = span_all InName (take 16 (drop (at + 1) l)); enough = omega (arith, eqb-false (length s) 0 z); few = omega (arith, length_span InName (take 16 (drop (at + 1) l)), length-take 16 (drop (at + 1) l)) } in
      let g : drop (at + 1) l ≡ s = span_here InName l (at + 1) 16 ∙ ap (λ (x : List ℕ). s ++ x) (ended l (at + 1 + length s) y) ∙ append-nil s in
      subst (Spells (Section (at + 1) (at + 1 + length s))) (line_is l _ f (space_then l at _ e g)) (h s r)))

  section_sound : ((name : List ℕ) → Several InName 1 16 name → Spells (Section (at + 1) (at + 1 + length name)) (w ++ (space ∷ name))) → Sound l (section_at l at)
  unfolding section_at behind_space
  section_sound h = go (byte_is l at " ") refl
    where
      go : (t : Bool) → byte_is l at " " ≡ t → Sound l (name_at l (cond t (at + 1) (length l)))
      go true e = name_sound e h
      go false e = rw (no_name l (length l) (omega arith)) nothing

-- the word of a command stands behind the `$`
fronted : (l word : List ℕ) → byte_at l 0 ≡ 36 → stands_at word l 1 ≡ true → Fronted l (1 + length word) (36 ∷ word)
fronted l word e h = record { whole = byte_stands l 0 36 e (omega arith) ∙ ap (λ (x : List ℕ). 36 ∷ x) (stands_says word l 1 h); size = omega arith }

heading_sound : (l : List ℕ) → Fronted l 3 (ascii "$PH") → Sound l (heading_at l 3)
unfolding heading_at
heading_sound l f = go (number_at l 3 9) refl
  where
    go : (x : Option (ℕ × ℕ)) → number_at l 3 9 ≡ x → Sound l (numeral_or (heading_of l 3 1) x (λ n next. heading_of l next n))
    go (Some (n, next)) h =
        let g = number_spelled l 3 9 n next h in
        heading_of_sound l (record { whole = f.whole ∙ ap (λ (x : List ℕ). ascii "$PH" ++ x) g.here; size = omega (arith, g.behind) }) n (numbered_word n g.bytes g.spelled)
    go None h = heading_of_sound l f 1 bare_word

moved : {a : Argument} {s : List ℕ} {m n : ℕ} → m ≡ n → ArgumentSpelled m a s → ArgumentSpelled n a s
moved {a} {s} e k = subst (λ (i : ℕ). ArgumentSpelled i a s) e k

command_sound : (l : List ℕ) → byte_at l 0 ≡ 36 → Sound l (first_of None commands l 1)
unfolding commands
command_sound l e =
    let front : (word : List ℕ) → stands_at word l 1 ≡ true → Fronted l (1 + length word) (36 ∷ word) = λ word. fronted l word e in
    found_word (Sound l) None commands l 1 nothing (
    (λ h. datasource_sound l (front (ascii "SETDS") h) datasource)
    or (λ h. set_sound l (front (ascii "SETE") h) Assign (λ t x a y u v. set Assign t x a y u (moved (omega arith) v)))
    or (λ h. set_sound l (front (ascii "SETA") h) Add (λ t x a y u v. set Add t x a y u (moved (omega arith) v)))
    or (λ h. set_sound l (front (ascii "SETS") h) Subtract (λ t x a y u v. set Subtract t x a y u (moved (omega arith) v)))
    or (λ h. set_sound l (front (ascii "SETM") h) Multiply (λ t x a y u v. set Multiply t x a y u (moved (omega arith) v)))
    or (λ h. set_sound l (front (ascii "SETD") h) Divide (λ t x a y u v. set Divide t x a y u (moved (omega arith) v)))
    or (λ h. compare_sound l (front (ascii "IFEQSS") h) SameString (compare SameString))
    or (λ h. compare_sound l (front (ascii "IFEQSI") h) SameLetters (compare SameLetters))
    or (λ h. compare_sound l (front (ascii "IFEQ") h) Equal (compare Equal))
    or (λ h. compare_sound l (front (ascii "IFNE") h) NotEqual (compare NotEqual))
    or (λ h. compare_sound l (front (ascii "IFLT") h) Less (compare Less))
    or (λ h. compare_sound l (front (ascii "IFLE") h) AtMost (compare AtMost))
    or (λ h. compare_sound l (front (ascii "IFGT") h) Greater (compare Greater))
    or (λ h. compare_sound l (front (ascii "IFGE") h) AtLeast (compare AtLeast))
    or (λ h. single_sound l (front (ascii "IFNOT") h) IfNot if_not)
    or (λ h. single_sound l (front (ascii "IF") h) If if)
    or (λ h. single_sound l (front (ascii "BT") h) BeginTable begin_table)
    or (λ h. bare_sound l (front (ascii "ELSE") h) Else «else»)
    or (λ h. bare_sound l (front (ascii "ENDIF") h) EndIf end_if)
    or (λ h. bare_sound l (front (ascii "NOFF") h) NoFormFeed no_form_feed)
    or (λ h. optional_sound l (front (ascii "ET") h) EndTable end_table)
    or (λ h. optional_sound l (front (ascii "NP") h) NewPage new_page_line)
    or (λ h. fetch_sound l (front (ascii "REC") h) Records records_form)
    or (λ h. fetch_sound l (front (ascii "TBL") h) Entries entries_form)
    or (λ h. section_sound l (front (ascii "SEC") h) section_form)
    or (λ h. heading_sound l (front (ascii "PH") h))
    or (λ h. remark_sound l (front (ascii "REM") h) remark remark_text)
    or no_more
    )

line_sound : (l : List ℕ) → Sound l (parse_line l)
unfolding parse_line
line_sound l =
    tested (Sound l) (byte_is l 0 "$")
    (λ e. command_sound l (eqb-true (byte_at l 0) 36 e))
    (λ e. tested (Sound l) (text_fits l 0)
    (λ t. let k = fitting l 0 t in as_spelled (text k.pieces l (eqb-false (byte_at l 0) 36 e) k.spelled (omega (arith, k.fits))))
    (λ t. nothing))

-- ---- the law of the grammar

sound_spells : (l : List ℕ) (f : Line) (x : Option Line) → x ≡ Some f → Sound l x → Spells f l
sound_spells l f x e nothing = cc
sound_spells l f x e (as_spelled {f = g} s) = let q : g ≡ f = cc in subst (λ (h : Line). Spells h l) q s

-- For every line and every form: the line is read as the form exactly if it spells it.
pub reads_what_is_spelled : (f : Line) (l : List ℕ) → (parse_line l ≡ Some f → Spells f l) × (Spells f l → parse_line l ≡ Some f)
reads_what_is_spelled f l = (λ e. sound_spells l f (parse_line l) e (line_sound l), spelled_is_read f l)

-- No line spells two forms: the grammar is unambiguous.
pub spells_one : (f g : Line) (l : List ℕ) → Spells f l → Spells g l → f ≡ g
spells_one f g l s t = let q : Some f ≡ Some g = sym (spelled_is_read f l s) ∙ spelled_is_read g l t in cc

sound_none : (l : List ℕ) (x : Option Line) → ((g : Line) → Spells g l → ⊥) → Sound l x → x ≡ None
sound_none l x h nothing = refl
sound_none l x h (as_spelled {f} s) = absurd (h f s)

-- A line has no form exactly if it spells none.
pub nothing_spelled : (l : List ℕ) → (parse_line l ≡ None → (f : Line) → Spells f l → ⊥) × (((f : Line) → Spells f l → ⊥) → parse_line l ≡ None)
nothing_spelled l = (λ e f s. let q : None ≡ Some f = sym e ∙ spelled_is_read f l s in cc, λ h. sound_none l (parse_line l) h (line_sound l))
