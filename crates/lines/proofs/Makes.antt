-- What a command's word can make: whatever holds of no form, and of each form that the word makes, holds of the line. A form
-- is made of what was read within its limits, and of a heading that fits.
use Rattle.std.specs.Prelude.{Option, Some, None}
use mathlib.Core.Path.{◌≡◌, refl}
use mathlib.Core.Bool.{Bool, true, false, cond}
use mathlib.Core.List.{List}
use Prim.Native.Nat.{ℕ, ◌+◌, ◌≤◌, ◌<◌}
use native.Mathlib.Omega.{arith}
use borrow.Author.Tests.{leb-false}
use lib.Dec.{ltb, leb, eqb}
use lib.ListN.{length}
use Rattle.scan.specs.Line.{byte_is}
use Rattle.scan.specs.Readers.Digits.{number_at}
use Rattle.scan.proofs.TestLaws.{picked}
use Rattle.scan.proofs.NumberLaws.{Within, number_within}
use Rattle.arguments.specs.declared.argument.Argument.{Argument}
use Rattle.arguments.specs.declared.index.Index.{Index}
use Rattle.arguments.specs.declared.operand.Operand.{Operand}
use Rattle.arguments.specs.declared.operand.Operand.TheVariants as O
use Rattle.arguments.specs.Readers.Index.{index_at}
use Rattle.arguments.specs.Readers.Operand.{operand_at}
use Rattle.arguments.specs.Readers.Argument.{argument_at}
use Rattle.arguments.proofs.Parsed.{Between, IndexWithin, OperandWithin, ArgumentWithin, index_bounded, operand_bounded, argument_bounded}
use Rattle.texts.specs.Readers.Text.{text_fits}
use Rattle.lines.specs.declared.command.Operation.{Operation}
use Rattle.lines.specs.declared.command.Operation.TheVariants.{Assign, Add, Subtract, Multiply, Divide}
use Rattle.lines.specs.declared.command.Comparison.{Comparison}
use Rattle.lines.specs.declared.command.Target.{Target}
use Rattle.lines.specs.declared.command.Target.TheVariants.{IntegerTarget, DecimalTarget, StringTarget}
use Rattle.lines.specs.declared.command.Fetch.{Fetch}
use Rattle.lines.specs.declared.command.Line.{Line}
use Rattle.lines.specs.declared.command.Line.TheVariants.{Section, Set, Compare, Datasource, Heading, NoHeading, Remark}
use Rattle.lines.specs.Readers.Reading.{argument_or, index_or, numeral_or}
use Rattle.lines.specs.Readers.Behind.{behind_space, ending}
use Rattle.lines.specs.Readers.Set.{string_target, target_of, operand_or, target_or, set_at, datasource_at}
use Rattle.lines.specs.Readers.Compare.{compare_at}
use Rattle.lines.specs.Readers.Simple.{single_at, bare_at, optional_at}
use Rattle.lines.specs.Readers.Fetch.{parameter_at, fetched_at, fetch_or, fetch_at}
use Rattle.lines.specs.Readers.Title.{name_length, name_at, section_at, heading_of, heading_at, remark_at}

abbrev pub OptionalWithin : List ℕ → Option Argument → Type 0
OptionalWithin l (Some a) = ArgumentWithin l a
OptionalWithin l None = Unit {0}

-- a variable that is set: "IVn, FVn, SVn (n 1–99)"
abbrev pub TargetWithin : Target → Type 0
TargetWithin (IntegerTarget n) = Between 1 99 n
TargetWithin (DecimalTarget n) = Between 1 99 n
TargetWithin (StringTarget n) = Between 1 99 n

abbrev TargetFine : Option Target → Type 0
TargetFine (Some t) = TargetWithin t
TargetFine None = Unit {0}

target_fine : (l : List ℕ) (o : Operand) (word : Operation) → OperandWithin l o → TargetFine (target_of o word)
unfolding target_of string_target
target_fine l (O.IntegerVariable n) word h = h
target_fine l (O.DecimalVariable n) word h = h
target_fine l (O.StringVariable n) Assign h = h
target_fine l (O.StringVariable n) Add h = tt
target_fine l (O.StringVariable n) Subtract h = tt
target_fine l (O.StringVariable n) Multiply h = tt
target_fine l (O.StringVariable n) Divide h = tt
target_fine l (O.NumberLiteral q) word h = tt
target_fine l (O.StringLiteral a e) word h = tt
target_fine l O.PageNumber word h = tt
target_fine l O.LineNumber word h = tt
target_fine l O.LoopCounter word h = tt
target_fine l (O.RecordElement n) word h = tt
target_fine l (O.EntryElement n) word h = tt
target_fine l (O.Parameter n) word h = tt
target_fine l (O.Record n r) word h = tt
target_fine l (O.Entry n r e) word h = tt

-- "`$REC n Pm record entry count`": n 1–10, m 1–65,535, indexes
pub record FetchWithin (f : Fetch) : Type 0 where
  pub number : Between 1 10 f.number
  pub parameter : Between 1 65535 f.parameter
  pub «record» : IndexWithin f.«record»
  pub entry : IndexWithin f.entry
  pub count : IndexWithin f.count

-- "`$PHn text` (n 1–9, ..)": the text starts behind the word, in the line or at its end
pub record HeadingWithin (l : List ℕ) (n at : ℕ) : Type 0 where
  pub number : Between 1 9 n
  pub behind : 1 ≤ at
  pub inside : at ≤ length l

module _ (P : Option Line → Type 0) (lack : P None) where
  pub last : (l : List ℕ) (at : ℕ) (f : Line) → P (Some f) → P (ending l at f)
  last l at f o = picked P (ltb at (length l)) lack o

  pub behind_argument : (l : List ℕ) (at : ℕ) {found : Argument → ℕ → Option Line} → ((a : Argument) (n : ℕ) → ArgumentWithin l a → P (found a n)) → P (argument_or None (argument_at l at) found)
  behind_argument l at {found} h = go (argument_at l at) refl
    where
      go : (r : Option (Argument × ℕ)) → argument_at l at ≡ r → P (argument_or None r found)
      go (Some (a, n)) e = h a n (argument_bounded l at a n e)
      go None e = lack

  pub behind_index : (l : List ℕ) (at : ℕ) {found : Index → ℕ → Option Line} → ((i : Index) (n : ℕ) → IndexWithin i → P (found i n)) → P (index_or None (index_at l at) found)
  behind_index l at {found} h = go (index_at l at) refl
    where
      go : (r : Option (Index × ℕ)) → index_at l at ≡ r → P (index_or None r found)
      go (Some (i, n)) e = h i n (index_bounded l at i n e)
      go None e = lack

  pub behind_number : {none : Option Line} → P none → (l : List ℕ) (at limit : ℕ) {found : ℕ → ℕ → Option Line} → ((m n : ℕ) → Between 1 limit m → P (found m n)) → P (numeral_or none (number_at l at limit) found)
  behind_number {none} o l at limit {found} h = go (number_at l at limit) (number_within l at limit)
    where
      go : (r : Option (ℕ × ℕ)) → Within limit at r → P (numeral_or none r found)
      go (Some (m, n)) k = h m n (record { least = k.least; most = k.most })
      go None k = o

  pub behind_operand : (l : List ℕ) (at : ℕ) {found : Operand → ℕ → Option Line} → ((o : Operand) (n : ℕ) → OperandWithin l o → P (found o n)) → P (operand_or (operand_at l at) found)
  behind_operand l at {found} h = go (operand_at l at) refl
    where
      go : (r : Option (Operand × ℕ)) → operand_at l at ≡ r → P (operand_or r found)
      go (Some (o, n)) e = h o n (operand_bounded l at o n e)
      go None e = lack

  pub behind_target : (l : List ℕ) (o : Operand) (word : Operation) {found : Target → Option Line} → OperandWithin l o → ((t : Target) → TargetWithin t → P (found t)) → P (target_or (target_of o word) found)
  behind_target l o word {found} b h = go (target_of o word) (target_fine l o word b)
    where
      go : (r : Option Target) → TargetFine r → P (target_or r found)
      go (Some t) k = h t k
      go None k = lack

  pub behind_parameter : (l : List ℕ) (at : ℕ) {found : ℕ → ℕ → Option Line} → ((m n : ℕ) → Between 1 65535 m → P (found m n)) → P (numeral_or None (parameter_at l at) found)
  unfolding parameter_at
  behind_parameter l at {found} h = go (byte_is l at "P") (number_at l (at + 1) 65535) (number_within l (at + 1) 65535)
    where
      go : (b : Bool) (r : Option (ℕ × ℕ)) → Within 65535 (at + 1) r → P (numeral_or None (cond b r None) found)
      go true (Some (m, n)) k = h m n (record { least = k.least; most = k.most })
      go true None k = lack
      go false r k = lack

  pub behind_fetched : (l : List ℕ) (at n m : ℕ) {found : Fetch → ℕ → Option Line} → Between 1 10 n → Between 1 65535 m → ((f : Fetch) (k : ℕ) → FetchWithin f → P (found f k)) → P (fetch_or (fetched_at l at n m) found)
  unfolding fetched_at
  behind_fetched l at n m {found} b h o = first_index (index_at l (behind_space l at)) refl
    where
      third : (r e : Index) → IndexWithin r → IndexWithin e → (i : ℕ) (x : Option (Index × ℕ)) → index_at l i ≡ x → P (fetch_or (index_or None x (λ c end. Some (record { number = n; parameter = m; «record» = r; entry = e; count = c }, end))) found)
      third r e u v i (Some (c, end)) q = o (record { number = n; parameter = m; «record» = r; entry = e; count = c }) end (record { number = b; parameter = h; «record» = u; entry = v; count = index_bounded l i c end q })
      third r e u v i None q = lack

      second_index : (r : Index) → IndexWithin r → (i : ℕ) (x : Option (Index × ℕ)) → index_at l i ≡ x → P (fetch_or (index_or None x (λ e after. index_or None (index_at l (behind_space l after)) (λ c end. Some (record { number = n; parameter = m; «record» = r; entry = e; count = c }, end)))) found)
      second_index r u i (Some (e, after)) q = third r e u (index_bounded l i e after q) (behind_space l after) (index_at l (behind_space l after)) refl
      second_index r u i None q = lack

      first_index : (x : Option (Index × ℕ)) → index_at l (behind_space l at) ≡ x → P (fetch_or (index_or None x (λ r next. index_or None (index_at l (behind_space l next)) (λ e after. index_or None (index_at l (behind_space l after)) (λ c end. Some (record { number = n; parameter = m; «record» = r; entry = e; count = c }, end))))) found)
      first_index (Some (r, next)) q = second_index r (index_bounded l (behind_space l at) r next q) (behind_space l next) (index_at l (behind_space l next)) refl
      first_index None q = lack

  pub set_makes : (word : Operation) {l : List ℕ} → ((t : Target) (a : Argument) → TargetWithin t × ArgumentWithin l a → P (Some (Set word t a))) → (at : ℕ) → P (set_at word l at)
  unfolding set_at
  set_makes word {l} o at =
      behind_operand l (behind_space l at) (λ v next b.
      behind_target l v word b (λ t c.
      behind_argument l (behind_space l next) (λ a end k. last l end (Set word t a) (o t a (c, k)))))

  pub datasource_makes : ((i : Index) → IndexWithin i → P (Some (Datasource i))) → (l : List ℕ) (at : ℕ) → P (datasource_at l at)
  unfolding datasource_at
  datasource_makes o l at = behind_index l (behind_space l at) (λ i end k. last l end (Datasource i) (o i k))

  pub compare_makes : (word : Comparison) {l : List ℕ} → ((a b : Argument) → ArgumentWithin l a → ArgumentWithin l b → P (Some (Compare word a b))) → (at : ℕ) → P (compare_at word l at)
  unfolding compare_at
  compare_makes word {l} o at =
      behind_argument l (behind_space l at) (λ a next j.
      behind_argument l (behind_space l next) (λ b end k. last l end (Compare word a b) (o a b j k)))

  pub single_makes : (form : Argument → Line) {l : List ℕ} → ((a : Argument) → ArgumentWithin l a → P (Some (form a))) → (at : ℕ) → P (single_at form l at)
  unfolding single_at
  single_makes form {l} o at = behind_argument l (behind_space l at) (λ a end k. last l end (form a) (o a k))

  pub bare_makes : (form : Line) → P (Some form) → (l : List ℕ) (at : ℕ) → P (bare_at form l at)
  unfolding bare_at
  bare_makes form o l at = last l at form o

  pub optional_makes : (form : Option Argument → Line) {l : List ℕ} → ((k : Option Argument) → OptionalWithin l k → P (Some (form k))) → (at : ℕ) → P (optional_at form l at)
  unfolding optional_at
  optional_makes form {l} o at =
      picked P (leb (length l) at) (o None tt)
      (behind_argument l (behind_space l at) (λ a end k. last l end (form (Some a)) (o (Some a) k)))

  pub fetch_makes : (form : Fetch → Line) → ((f : Fetch) → FetchWithin f → P (Some (form f))) → (l : List ℕ) (at : ℕ) → P (fetch_at form l at)
  unfolding fetch_at
  fetch_makes form o l at =
      behind_number lack l (behind_space l at) 10 (λ n next b.
      behind_parameter l (behind_space l next) (λ m after k.
      behind_fetched l after n m b k (λ f end j. last l end (form f) (o f j))))

  pub section_makes : ((a e : ℕ) → P (Some (Section a e))) → (l : List ℕ) (at : ℕ) → P (section_at l at)
  unfolding section_at name_at
  section_makes o l at =
      let start = behind_space l at in
      picked P (eqb (name_length l start) 0) lack (last l (start + name_length l start) (Section start (start + name_length l start)) (o start (start + name_length l start)))

  module _ (l : List ℕ) (o : (n at : ℕ) → text_fits l at ≡ true → HeadingWithin l n at → P (Some (Heading n at))) (u : (n : ℕ) → Between 1 9 n → P (Some (NoHeading n))) where
    -- a heading is read where its text fits
    heading_of_law : (at n : ℕ) → Between 1 9 n → P (heading_of l at n)
    unfolding heading_of
    heading_of_law at n b = start (leb (length l) at) refl
      where
        go : at < length l → (b : Bool) → text_fits l (at + 1) ≡ b → P (cond b (Some (Heading n (at + 1))) None)
        go k true e = o n (at + 1) e (record { number = b; behind = omega arith; inside = omega arith })
        go k false e = lack

        start : (b : Bool) → leb (length l) at ≡ b → P (cond b (Some (NoHeading n)) (cond (byte_is l at " ") (cond (text_fits l (at + 1)) (Some (Heading n (at + 1))) None) None))
        start true e = u n b
        start false e = picked P (byte_is l at " ") (go (leb-false (length l) at e) (text_fits l (at + 1)) refl) lack

    pub heading_makes : (at : ℕ) → P (heading_at l at)
    unfolding heading_at
    heading_makes at = behind_number (heading_of_law at 1 (record { least = omega arith; most = omega arith })) l at 9 (λ n next k. heading_of_law next n k)

  pub remark_makes : P (Some Remark) → (l : List ℕ) (at : ℕ) → P (remark_at l at)
  unfolding remark_at
  remark_makes o l at = picked P (leb (length l) at) o (picked P (byte_is l at " ") o lack)
