-- How lines are spelled: "A line beginning with `$` is a command: word, then arguments, one space before each. Other lines are
-- text, blank ones included." Nothing stands behind the last argument.
use Rattle.std.specs.Prelude.{◌≡◌, List, [], ◌∷◌, ◌++◌, ℕ, ◌+◌, ◌≤◌, length, Option, Some, None}
use Prim.Native.Char.{code}
use Rattle.scan.specs.declared.run.Class.TheVariants.{InName}
use Rattle.scan.specs.Ascii.{ascii}
use Rattle.scan.specs.Line.{byte_at}
use Rattle.arguments.specs.declared.index.Index.{Index}
use Rattle.arguments.specs.declared.argument.Argument.{Argument}
use Rattle.texts.specs.declared.text.Piece.{Piece}
use Rattle.texts.specs.Width.{total_width}
use Rattle.lines.specs.declared.command.Operation.{Operation}
use Rattle.lines.specs.declared.command.Operation.TheVariants.{Assign, Add, Subtract, Multiply, Divide}
use Rattle.lines.specs.declared.command.Target.{Target}
use Rattle.lines.specs.declared.command.Target.TheVariants.{IntegerTarget, DecimalTarget, StringTarget}
use Rattle.lines.specs.declared.command.Comparison.{Comparison}
use Rattle.lines.specs.declared.command.Comparison.TheVariants.{SameString, SameLetters, Equal, NotEqual, Less, AtMost, Greater, AtLeast}
use Rattle.lines.specs.declared.command.Fetch.{Fetch}
use Rattle.lines.specs.declared.command.Line.{Line}
use Rattle.lines.specs.declared.command.Line.TheVariants.{Text, Section, Set, IfNot, If, Compare, Else, EndIf, BeginTable, EndTable, Records, Entries, Datasource, NoFormFeed, NewPage, Heading, NoHeading, Remark}
use Rattle.grammar.specs.Number.{Several, Numbered, IndexSpelled}
use Rattle.grammar.specs.Argument.{ArgumentSpelled}
use Rattle.grammar.specs.Text.{TextSpelled}

abbrev pub space : ℕ
space = code " "

-- "`$SETE`, `$SETA`, `$SETS`, `$SETM`, `$SETD`", with the space behind the word
abbrev pub set_word : Operation → List ℕ
set_word Assign = ascii "$SETE "
set_word Add = ascii "$SETA "
set_word Subtract = ascii "$SETS "
set_word Multiply = ascii "$SETM "
set_word Divide = ascii "$SETD "

-- "variable": IVn, FVn, and "SV takes a string; after another word than $SETE it is 3"
pub data TargetSpelled : Operation → Target → List ℕ → Type 0 where
  integer_target : (o : Operation) (n : ℕ) (s : List ℕ) → Numbered 99 n s → TargetSpelled o (IntegerTarget n) (ascii "IV" ++ s)
  decimal_target : (o : Operation) (n : ℕ) (s : List ℕ) → Numbered 99 n s → TargetSpelled o (DecimalTarget n) (ascii "FV" ++ s)
  string_as_target : (n : ℕ) (s : List ℕ) → Numbered 99 n s → TargetSpelled Assign (StringTarget n) (ascii "SV" ++ s)

abbrev pub compare_word : Comparison → List ℕ
compare_word SameString = ascii "$IFEQSS "
compare_word SameLetters = ascii "$IFEQSI "
compare_word Equal = ascii "$IFEQ "
compare_word NotEqual = ascii "$IFNE "
compare_word Less = ascii "$IFLT "
compare_word AtMost = ascii "$IFLE "
compare_word Greater = ascii "$IFGT "
compare_word AtLeast = ascii "$IFGE "

-- "[k]", "[n]": an argument, or nothing
pub data OptionalSpelled (at : ℕ) : Option Argument → List ℕ → Type 0 where
  absent : OptionalSpelled at None []
  present : (a : Argument) (s : List ℕ) → ArgumentSpelled (at + 1) a s → OptionalSpelled at (Some a) (space ∷ s)

-- "n Pm record entry count"
pub data FetchSpelled : Fetch → List ℕ → Type 0 where
  fetch : (n : ℕ) (x : List ℕ) (m : ℕ) (y : List ℕ) (r : Index) (u : List ℕ) (e : Index) (v : List ℕ) (c : Index) (w : List ℕ) → Numbered 10 n x → Numbered 65535 m y → IndexSpelled r u → IndexSpelled e v → IndexSpelled c w → FetchSpelled (record { number = n; parameter = m; «record» = r; entry = e; count = c }) (x ++ (ascii " P" ++ (y ++ (space ∷ (u ++ (space ∷ (v ++ (space ∷ w))))))))

-- "`$PHn text` (n 1–9, `$PH` is `$PH1`; ..)"
pub data HeadingWord : ℕ → List ℕ → Type 0 where
  bare_word : HeadingWord 1 (ascii "$PH")
  numbered_word : (n : ℕ) (s : List ℕ) → Numbered 9 n s → HeadingWord n (ascii "$PH" ++ s)

pub data Spells : Line → List ℕ → Type 0 where
  -- "at most 132 bytes", with fields at their widths
  text : (ps : List Piece) (l : List ℕ) → (byte_at l 0 ≡ code "$" → ⊥) → TextSpelled 0 ps l → total_width ps ≤ 132 → Spells Text l
  -- "1–16 of A–Z, 0–9"
  section_form : (name : List ℕ) → Several InName 1 16 name → Spells (Section 5 (5 + length name)) (ascii "$SEC " ++ name)
  set : (o : Operation) (t : Target) (x : List ℕ) (a : Argument) (y : List ℕ) → TargetSpelled o t x → ArgumentSpelled (7 + length x) a y → Spells (Set o t a) (set_word o ++ (x ++ (space ∷ y)))
  if_not : (a : Argument) (s : List ℕ) → ArgumentSpelled 7 a s → Spells (IfNot a) (ascii "$IFNOT " ++ s)
  if : (a : Argument) (s : List ℕ) → ArgumentSpelled 4 a s → Spells (If a) (ascii "$IF " ++ s)
  compare : (c : Comparison) (a : Argument) (x : List ℕ) (b : Argument) (y : List ℕ) → ArgumentSpelled (length (compare_word c)) a x → ArgumentSpelled (length (compare_word c) + length x + 1) b y → Spells (Compare c a b) (compare_word c ++ (x ++ (space ∷ y)))
  «else» : Spells Else (ascii "$ELSE")
  end_if : Spells EndIf (ascii "$ENDIF")
  begin_table : (a : Argument) (s : List ℕ) → ArgumentSpelled 4 a s → Spells (BeginTable a) (ascii "$BT " ++ s)
  end_table : (k : Option Argument) (s : List ℕ) → OptionalSpelled 3 k s → Spells (EndTable k) (ascii "$ET" ++ s)
  records_form : (f : Fetch) (s : List ℕ) → FetchSpelled f s → Spells (Records f) (ascii "$REC " ++ s)
  entries_form : (f : Fetch) (s : List ℕ) → FetchSpelled f s → Spells (Entries f) (ascii "$TBL " ++ s)
  datasource : (i : Index) (s : List ℕ) → IndexSpelled i s → Spells (Datasource i) (ascii "$SETDS " ++ s)
  no_form_feed : Spells NoFormFeed (ascii "$NOFF")
  new_page_line : (n : Option Argument) (s : List ℕ) → OptionalSpelled 3 n s → Spells (NewPage n) (ascii "$NP" ++ s)
  -- "no space after the word undefines it, a space alone defines a blank"; the width is that of the line, "command word included"
  heading : (n : ℕ) (w : List ℕ) (ps : List Piece) (s : List ℕ) → HeadingWord n w → TextSpelled (length w + 1) ps s → length w + 1 + total_width ps ≤ 132 → Spells (Heading n (length w + 1)) (w ++ (space ∷ s))
  no_heading_line : (n : ℕ) (w : List ℕ) → HeadingWord n w → Spells (NoHeading n) w
  -- "alone or with a space and any text, unread"
  remark : Spells Remark (ascii "$REM")
  remark_text : (s : List ℕ) → Spells Remark (ascii "$REM " ++ s)
