-- Lines: what is spelled is read.
use Rattle.std.specs.Prelude.{Option, Some, None}
use mathlib.Core.Path.{◌≡◌, refl, sym, ap, ◌∙◌, subst}
use mathlib.Core.Bool.{true, false}
use mathlib.Core.List.{List, [], ◌∷◌, ◌++◌, append-nil}
use Prim.Native.Nat.{ℕ, ◌+◌, ◌≤◌}
use native.Mathlib.Omega.{arith}
use borrow.Author.Tests.{ne_eqb, eq-eqb, le-leb, lt-leb, le-ltb}
use lib.Dec.{leb, ltb}
use lib.ListN.{length, take, drop, length-drop}
use Rattle.scan.specs.declared.run.Class.TheVariants.{Digit, InName}
use Rattle.scan.specs.Run.{belongs, span}
use Rattle.scan.specs.Line.{byte_at, byte_is}
use Rattle.scan.specs.Readers.Digits.{number_at}
use Rattle.scan.specs.Words.{begins, stands_at, first_of}
use Rattle.arguments.specs.declared.index.Index.{Index}
use Rattle.arguments.specs.declared.operand.Operand.{Operand}
use Rattle.arguments.specs.declared.operand.Operand.TheVariants.{IntegerVariable, DecimalVariable, StringVariable}
use Rattle.arguments.specs.declared.argument.Argument.{Argument}
use Rattle.arguments.specs.Readers.Index.{index_at}
use Rattle.arguments.specs.Readers.Operand.{operand_at}
use Rattle.arguments.specs.Readers.Argument.{argument_at}
use Rattle.texts.specs.declared.text.Piece.{Piece}
use Rattle.texts.specs.Width.{total_width}
use Rattle.texts.specs.Readers.Text.{text_pieces, fits_behind, text_fits}
use Rattle.lines.specs.declared.command.Operation.{Operation}
use Rattle.lines.specs.declared.command.Operation.TheVariants.{Assign, Add, Subtract, Multiply, Divide}
use Rattle.lines.specs.declared.command.Target.{Target}
use Rattle.lines.specs.declared.command.Comparison.{Comparison}
use Rattle.lines.specs.declared.command.Comparison.TheVariants.{SameString, SameLetters, Equal, NotEqual, Less, AtMost, Greater, AtLeast}
use Rattle.lines.specs.declared.command.Fetch.{Fetch}
use Rattle.lines.specs.declared.command.Line.{Line}
use Rattle.lines.specs.declared.command.Line.TheVariants.{Section, Set, IfNot, If, Compare, Else, EndIf, BeginTable, EndTable, Records, Entries, Datasource, NoFormFeed, NewPage, Heading, NoHeading}
use Rattle.lines.specs.Readers.Behind.{behind_space}
use Rattle.lines.specs.Readers.Set.{string_target, target_of, set_at, datasource_at}
use Rattle.lines.specs.Readers.Compare.{compare_at}
use Rattle.lines.specs.Readers.Simple.{single_at, bare_at, optional_at}
use Rattle.lines.specs.Readers.Fetch.{parameter_at, fetched_at, fetch_at}
use Rattle.lines.specs.Readers.Title.{name_at, section_at, heading_of, heading_at, remark_at}
use Rattle.lines.specs.Readers.Command.{commands, parse_line}
use Rattle.grammar.specs.Number.{Several, IndexSpelled}
use Rattle.grammar.specs.Argument.{OperandSpelled, ArgumentSpelled, integer_variable, decimal_variable, string_variable}
use Rattle.grammar.specs.Text.{TextSpelled}
use Rattle.grammar.specs.Line.{space, TargetSpelled, integer_target, decimal_target, string_as_target, OptionalSpelled, absent, present, FetchSpelled, fetch, bare_word, numbered_word, Spells, text, section_form, set, if_not, if, compare, «else», end_if, begin_table, end_table, records_form, entries_form, datasource, no_form_feed, new_page_line, heading, no_heading_line, remark, remark_text}
use Rattle.grammar.proofs.Standing.{tested, byte_is_law, onward, past, Stops, span_exact}
use Rattle.grammar.proofs.Numbers.{number_read}
use Rattle.grammar.proofs.Literals.{no_digits, index_read}
use Rattle.grammar.proofs.Operands.{operand_read}
use Rattle.grammar.proofs.Arguments.{Closes, argument_read}
use Rattle.grammar.proofs.Texts.{text_read}

-- ---- a space, and what follows it

module _ (l : List ℕ) (at : ℕ) where
  pub space_read : (r : List ℕ) → drop at l ≡ space ∷ r → behind_space l at ≡ at + 1
  unfolding behind_space
  space_read r e = rw (eq-eqb (byte_at l at) space (byte_is_law l at (space ∷ r) e))

  -- nothing stands behind
  at_end : drop at l ≡ [] → ltb at (length l) ≡ false
  at_end e = le-ltb at (length l) (omega (arith, ap length e, length-drop at l))

  not_end : (b : ℕ) (r : List ℕ) → drop at l ≡ b ∷ r → leb (length l) at ≡ false
  not_end b r e = lt-leb (length l) at (omega (arith, ap length e, length-drop at l))

  behind_argument : (a : Argument) (s r : List ℕ) → drop at l ≡ space ∷ (s ++ r) → ArgumentSpelled (at + 1) a s → Closes r → argument_at l (behind_space l at) ≡ Some (a, at + 1 + length s)
  behind_argument a s r e k t = rw (space_read (s ++ r) e) (argument_read l (at + 1) a s r k (past l at space (s ++ r) e) t)

  behind_index : (i : Index) (s r : List ℕ) → drop at l ≡ space ∷ (s ++ r) → IndexSpelled i s → Stops Digit r → index_at l (behind_space l at) ≡ Some (i, at + 1 + length s)
  behind_index i s r e k t = rw (space_read (s ++ r) e) (index_read l (at + 1) i s r k (past l at space (s ++ r) e) t)

  after : (s r : List ℕ) → drop at l ≡ space ∷ (s ++ r) → drop (at + 1 + length s) l ≡ r
  after s r e = onward l (at + 1) s r (past l at space (s ++ r) e)

last : (s : List ℕ) → space ∷ s ≡ space ∷ (s ++ [])
last s = ap (λ (x : List ℕ). space ∷ x) (sym (append-nil s))

-- ---- the commands

single_read : (form : Argument → Line) (l : List ℕ) (at : ℕ) (a : Argument) (s : List ℕ) → drop at l ≡ space ∷ s → ArgumentSpelled (at + 1) a s → single_at form l at ≡ Some (form a)
unfolding single_at
single_read form l at a s e k =
    let f = e ∙ last s in
    rw (behind_argument l at a s [] f k tt, at_end l (at + 1 + length s) (after l at s [] f))

bare_read : (form : Line) (l : List ℕ) (at : ℕ) → drop at l ≡ [] → bare_at form l at ≡ Some form
unfolding bare_at
bare_read form l at e = rw (at_end l at e)

optional_read : (form : Option Argument → Line) (l : List ℕ) (at : ℕ) (k : Option Argument) (s : List ℕ) → drop at l ≡ s → OptionalSpelled at k s → optional_at form l at ≡ Some (form k)
unfolding optional_at
optional_read form l at k s e absent = rw (le-leb (length l) at (omega (arith, ap length e, length-drop at l)))
optional_read form l at k x e (present a s u) =
    let f = e ∙ last s in
    rw (not_end l at space s e, behind_argument l at a s [] f u tt, at_end l (at + 1 + length s) (after l at s [] f))

-- a space closes an argument
closed : (r : List ℕ) → Closes (space ∷ r)
unfolding belongs
closed r = (refl, λ q. omega arith, λ q. omega arith)

compare_read : (c : Comparison) (l : List ℕ) (at : ℕ) (a : Argument) (x : List ℕ) (b : Argument) (y : List ℕ) → drop at l ≡ space ∷ (x ++ (space ∷ y)) → ArgumentSpelled (at + 1) a x → ArgumentSpelled (at + 1 + length x + 1) b y → compare_at c l at ≡ Some (Compare c a b)
unfolding compare_at
compare_read c l at a x b y e u v =
    let k : ℕ = at + 1 + length x in
    let f = after l at x (space ∷ y) e ∙ last y in
    rw (behind_argument l at a x (space ∷ y) e u (closed y), behind_argument l k b y [] f v tt, at_end l (k + 1 + length y) (after l k y [] f))

-- the variable is an operand that may stand there
set_by : (o : Operation) (t : Target) (p : Operand) (l : List ℕ) (at : ℕ) (x : List ℕ) (a : Argument) (y : List ℕ) → drop at l ≡ space ∷ (x ++ (space ∷ y)) → OperandSpelled (at + 1) p x → target_of p o ≡ Some t → ArgumentSpelled (at + 1 + length x + 1) a y → set_at o l at ≡ Some (Set o t a)
unfolding set_at belongs
set_by o t p l at x a y e u q v =
    let k : ℕ = at + 1 + length x in
    let f = after l at x (space ∷ y) e ∙ last y in
    let g : operand_at l (behind_space l at) ≡ Some (p, k) = rw (space_read l at (x ++ (space ∷ y)) e) (operand_read l (at + 1) p x (space ∷ y) u (past l at space (x ++ (space ∷ y)) e) (refl, λ z. omega arith)) in
    rw (g, q, behind_argument l k a y [] f v tt, at_end l (k + 1 + length y) (after l k y [] f))

set_read : (o : Operation) (t : Target) (l : List ℕ) (at : ℕ) (x : List ℕ) (a : Argument) (y : List ℕ) → drop at l ≡ space ∷ (x ++ (space ∷ y)) → TargetSpelled o t x → ArgumentSpelled (at + 1 + length x + 1) a y → set_at o l at ≡ Some (Set o t a)
unfolding target_of string_target
set_read o t l at x a y e (integer_target o' n s k) v = set_by o t (IntegerVariable n) l at x a y e (integer_variable n s k) refl v
set_read o t l at x a y e (decimal_target o' n s k) v = set_by o t (DecimalVariable n) l at x a y e (decimal_variable n s k) refl v
set_read o t l at x a y e (string_as_target n s k) v = set_by o t (StringVariable n) l at x a y e (string_variable n s k) refl v

datasource_read : (l : List ℕ) (at : ℕ) (i : Index) (s : List ℕ) → drop at l ≡ space ∷ s → IndexSpelled i s → datasource_at l at ≡ Some (Datasource i)
unfolding datasource_at
datasource_read l at i s e k =
    let f = e ∙ last s in
    rw (behind_index l at i s [] f k tt, at_end l (at + 1 + length s) (after l at s [] f))

-- ---- $REC and $TBL

fetched_read : (l : List ℕ) (at n m : ℕ) (r : Index) (u : List ℕ) (e : Index) (v : List ℕ) (c : Index) (w : List ℕ) → drop at l ≡ space ∷ (u ++ (space ∷ (v ++ (space ∷ w)))) → IndexSpelled r u → IndexSpelled e v → IndexSpelled c w → fetched_at l at n m ≡ Some (record { number = n; parameter = m; «record» = r; entry = e; count = c }, at + 1 + length u + 1 + length v + 1 + length w)
unfolding fetched_at belongs
fetched_read l at n m r u e v c w h a b d =
    let j : ℕ = at + 1 + length u in
    let k : ℕ = j + 1 + length v in
    let f : drop j l ≡ space ∷ (v ++ (space ∷ w)) = after l at u (space ∷ (v ++ (space ∷ w))) h in
    let g : drop k l ≡ space ∷ (w ++ []) = after l j v (space ∷ w) f ∙ last w in
    rw (behind_index l at r u (space ∷ (v ++ (space ∷ w))) h a refl, behind_index l j e v (space ∷ w) f b refl, behind_index l k c w [] g d tt)

fetch_read : (form : Fetch → Line) (l : List ℕ) (at : ℕ) (f : Fetch) (s : List ℕ) → drop at l ≡ space ∷ s → FetchSpelled f s → fetch_at form l at ≡ Some (form f)
unfolding fetch_at parameter_at belongs
fetch_read form l at f s h (fetch n x m y r u e v c w a b i j k) =
    let rest : List ℕ = space ∷ (u ++ (space ∷ (v ++ (space ∷ w)))) in
    let p : ℕ = at + 1 + length x in
    let g : drop p l ≡ space ∷ (80 ∷ (y ++ rest)) = after l at x (space ∷ (80 ∷ (y ++ rest))) h in
    let t : drop (p + 1) l ≡ 80 ∷ (y ++ rest) = past l p space (80 ∷ (y ++ rest)) g in
    let d : drop (p + 1 + 1) l ≡ y ++ rest = past l (p + 1) 80 (y ++ rest) t in
    let q : ℕ = p + 1 + 1 + length y in
    let z : drop q l ≡ rest = onward l (p + 1 + 1) y rest d in
    let o : ℕ = q + 1 + length u + 1 + length v + 1 + length w in
    let end : drop o l ≡ [] = after l (q + 1 + length u + 1 + length v) w [] (after l (q + 1 + length u) v (space ∷ w) (after l q u (space ∷ (v ++ (space ∷ w))) z) ∙ last w) in
    rw (space_read l at (x ++ (space ∷ (80 ∷ (y ++ rest)))) h, number_read l (at + 1) 10 n x (space ∷ (80 ∷ (y ++ rest))) (omega arith) (past l at space (x ++ (space ∷ (80 ∷ (y ++ rest)))) h) a refl, space_read l p (80 ∷ (y ++ rest)) g, eq-eqb (byte_at l (p + 1)) 80 (byte_is_law l (p + 1) (80 ∷ (y ++ rest)) t), number_read l (p + 1 + 1) 65535 m y rest (omega arith) d b refl, fetched_read l q n m r u e v c w z i j k, at_end l o end)

-- ---- $SEC, $PH, texts

section_read : (l : List ℕ) (at : ℕ) (name : List ℕ) → drop at l ≡ space ∷ name → Several InName 1 16 name → section_at l at ≡ Some (Section (at + 1) (at + 1 + length name))
unfolding section_at name_at
section_read l at name e w =
    let f = e ∙ last name in
    let g : drop (at + 1) l ≡ name ++ [] = past l at space (name ++ []) f in
    let q : span InName (take 16 (drop (at + 1) l)) ≡ name = ap (λ (x : List ℕ). span InName (take 16 x)) g ∙ span_exact InName name [] 16 w.all w.few tt in
    rw (space_read l at (name ++ []) f, q, ne_eqb (length name) 0 (λ z. omega (arith, w.enough)), at_end l (at + 1 + length name) (after l at name [] f))

text_fits_law : (l : List ℕ) (at : ℕ) (ps : List Piece) (s : List ℕ) → drop at l ≡ s → TextSpelled at ps s → at + total_width ps ≤ 132 → text_fits l at ≡ true
unfolding text_fits fits_behind text_pieces
text_fits_law l at ps s e t h =
    rw (text_read (length l) l at ps s t e (omega (arith, ap length e, length-drop at l))) (le-leb (at + total_width ps) 132 h)

heading_of_law : (l : List ℕ) (at n : ℕ) (ps : List Piece) (s : List ℕ) → drop at l ≡ space ∷ s → TextSpelled (at + 1) ps s → at + 1 + total_width ps ≤ 132 → heading_of l at n ≡ Some (Heading n (at + 1))
unfolding heading_of
heading_of_law l at n ps s e t h =
    rw (not_end l at space s e, eq-eqb (byte_at l at) space (byte_is_law l at (space ∷ s) e), text_fits_law l (at + 1) ps s (past l at space s e) t h)

no_heading_of : (l : List ℕ) (at n : ℕ) → drop at l ≡ [] → heading_of l at n ≡ Some (NoHeading n)
unfolding heading_of
no_heading_of l at n e = rw (le-leb (length l) at (omega (arith, ap length e, length-drop at l)))

no_number : (l : List ℕ) (at limit : ℕ) (r : List ℕ) → drop at l ≡ r → Stops Digit r → number_at l at limit ≡ None
unfolding number_at
no_number l at limit r e t = rw (no_digits l at 5 r (omega arith) e t) (tested (λ (x : Option (ℕ × ℕ)). x ≡ None) (byte_is l at "0") (λ z. refl) (λ z. refl))

-- ---- the whole line

moved : (a : Argument) (y : List ℕ) {m n : ℕ} → m ≡ n → ArgumentSpelled m a y → ArgumentSpelled n a y
moved a y e k = subst (λ (i : ℕ). ArgumentSpelled i a y) e k

-- Every line that is spelled is read so.
pub spelled_is_read : (f : Line) (l : List ℕ) → Spells f l → parse_line l ≡ Some f
unfolding parse_line commands first_of stands_at begins byte_at heading_at remark_at belongs
spelled_is_read f l (text ps l' h t w) = rw (ne_eqb (byte_at l 0) 36 h, text_fits_law l 0 ps l refl t (omega (arith, w)))
spelled_is_read f l (section_form name w) = section_read l 4 name refl w
spelled_is_read f l (set Assign t x a y u v) = set_read Assign t l 5 x a y refl u (moved a y (omega arith) v)
spelled_is_read f l (set Add t x a y u v) = set_read Add t l 5 x a y refl u (moved a y (omega arith) v)
spelled_is_read f l (set Subtract t x a y u v) = set_read Subtract t l 5 x a y refl u (moved a y (omega arith) v)
spelled_is_read f l (set Multiply t x a y u v) = set_read Multiply t l 5 x a y refl u (moved a y (omega arith) v)
spelled_is_read f l (set Divide t x a y u v) = set_read Divide t l 5 x a y refl u (moved a y (omega arith) v)
spelled_is_read f l (if_not a s k) = single_read IfNot l 6 a s refl k
spelled_is_read f l (if a s k) = single_read If l 3 a s refl k
spelled_is_read f l (compare SameString a x b y u v) = compare_read SameString l 7 a x b y refl u v
spelled_is_read f l (compare SameLetters a x b y u v) = compare_read SameLetters l 7 a x b y refl u v
spelled_is_read f l (compare Equal a x b y u v) = compare_read Equal l 5 a x b y refl u v
spelled_is_read f l (compare NotEqual a x b y u v) = compare_read NotEqual l 5 a x b y refl u v
spelled_is_read f l (compare Less a x b y u v) = compare_read Less l 5 a x b y refl u v
spelled_is_read f l (compare AtMost a x b y u v) = compare_read AtMost l 5 a x b y refl u v
spelled_is_read f l (compare Greater a x b y u v) = compare_read Greater l 5 a x b y refl u v
spelled_is_read f l (compare AtLeast a x b y u v) = compare_read AtLeast l 5 a x b y refl u v
spelled_is_read f l «else» = bare_read Else l 5 refl
spelled_is_read f l end_if = bare_read EndIf l 6 refl
spelled_is_read f l (begin_table a s k) = single_read BeginTable l 3 a s refl k
spelled_is_read f l (end_table k s u) = optional_read EndTable l 3 k s refl u
spelled_is_read f l (records_form r s u) = fetch_read Records l 4 r s refl u
spelled_is_read f l (entries_form r s u) = fetch_read Entries l 4 r s refl u
spelled_is_read f l (datasource i s u) = datasource_read l 6 i s refl u
spelled_is_read f l no_form_feed = bare_read NoFormFeed l 5 refl
spelled_is_read f l (new_page_line k s u) = optional_read NewPage l 3 k s refl u
spelled_is_read f l (heading n w ps s bare_word t h) = rw (no_number l 3 9 (space ∷ s) refl refl) (heading_of_law l 3 1 ps s refl t h)
spelled_is_read f l (heading n w ps s (numbered_word n' x k) t h) =
    rw (number_read l 3 9 n x (space ∷ s) (omega arith) refl k refl)
    (heading_of_law l (3 + length x) n ps s (onward l 3 x (space ∷ s) refl) (subst (λ (i : ℕ). TextSpelled i ps s) (omega arith) t) (omega (arith, h)) ∙ ap (λ (at : ℕ). Some (Heading n at)) (omega arith))
spelled_is_read f l (no_heading_line n w bare_word) = rw (no_number l 3 9 [] refl tt) (no_heading_of l 3 1 refl)
spelled_is_read f l (no_heading_line n w (numbered_word n' x k)) =
    rw (number_read l 3 9 n x [] (omega arith) (sym (append-nil x)) k tt) (no_heading_of l (3 + length x) n (onward l 3 x [] (sym (append-nil x))))
spelled_is_read f l remark = refl
spelled_is_read f l (remark_text s) = rw (not_end l 4 space s refl)
