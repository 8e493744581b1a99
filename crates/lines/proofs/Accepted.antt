-- What the form of a parsed line says of its parts: a text fits, and whatever was read lies within its limits.
use Rattle.std.specs.Prelude.{Option, Some, None}
use mathlib.Core.Path.{◌≡◌, refl, subst}
use mathlib.Core.Bool.{Bool, true, false, cond}
use mathlib.Core.List.{List}
use Prim.Native.Nat.{ℕ}
use Rattle.scan.specs.Line.{byte_is}
use Rattle.scan.proofs.TestLaws.{picked}
use Rattle.scan.proofs.WordLaws.{EachForm, all, ◌besides◌, found_form}
use Rattle.arguments.specs.declared.argument.Argument.{Argument}
use Rattle.arguments.proofs.Parsed.{Between, IndexWithin, ArgumentWithin, small_parameter}
use Rattle.texts.specs.Readers.Text.{text_fits}
use Rattle.lines.specs.declared.command.Operation.{Operation}
use Rattle.lines.specs.declared.command.Comparison.{Comparison}
use Rattle.lines.specs.declared.command.Line.{Line}
use Rattle.lines.specs.declared.command.Line.TheVariants.{Text, Section, Set, IfNot, If, Compare, Else, EndIf, BeginTable, EndTable, Records, Entries, Datasource, NoFormFeed, NewPage, Heading, NoHeading, Remark}
use Rattle.lines.specs.Readers.Set.{set_at}
use Rattle.lines.specs.Readers.Compare.{compare_at}
use Rattle.lines.specs.Readers.Command.{commands, parse_line}
use Rattle.lines.specs.Inner.Sound.{Small, SmallOptional, Sound}
use Rattle.lines.proofs.Makes.{set_makes, datasource_makes, compare_makes, single_makes, bare_makes, optional_makes, fetch_makes, section_makes, heading_makes, remark_makes}
pub use Rattle.lines.proofs.Makes.{TargetWithin, OptionalWithin, FetchWithin, HeadingWithin}

-- what the form of line l says of its parts: each is within the limits of document 01
abbrev pub Bounded : List ℕ → Line → Type 0
Bounded l Text = text_fits l 0 ≡ true
Bounded l (Section a e) = Unit {0}
Bounded l (Set o t a) = TargetWithin t × ArgumentWithin l a
Bounded l (IfNot a) = ArgumentWithin l a
Bounded l (If a) = ArgumentWithin l a
Bounded l (Compare c a b) = ArgumentWithin l a × ArgumentWithin l b
Bounded l Else = Unit {0}
Bounded l EndIf = Unit {0}
Bounded l (BeginTable a) = ArgumentWithin l a
Bounded l (EndTable k) = OptionalWithin l k
Bounded l (Records f) = FetchWithin f
Bounded l (Entries f) = FetchWithin f
Bounded l (Datasource i) = IndexWithin i
Bounded l NoFormFeed = Unit {0}
Bounded l (NewPage n) = OptionalWithin l n
Bounded l (Heading n at) = (text_fits l at ≡ true) × HeadingWithin l n at
Bounded l (NoHeading n) = Between 1 9 n
Bounded l Remark = Unit {0}

abbrev BoundedOr : List ℕ → Option Line → Type 0
BoundedOr l (Some f) = Bounded l f
BoundedOr l None = Unit {0}

record Fine (l : List ℕ) (f : Option Line) : Type 0 where
  is : BoundedOr l f

fine : {l : List ℕ} {f : Line} → Bounded l f → Fine l (Some f)
fine h = record { is = h }

small : (l : List ℕ) (a : Argument) → ArgumentWithin l a → Small a
small l a h = small_parameter l a.operand h.operand

small_optional : (l : List ℕ) (k : Option Argument) → OptionalWithin l k → SmallOptional k
small_optional l (Some a) h = small l a h
small_optional l None h = tt

sound : (l : List ℕ) (f : Line) → Bounded l f → Sound l f
sound l Text h = h
sound l (Section a e) h = tt
sound l (Set o t a) h = small l a h.1
sound l (IfNot a) h = small l a h
sound l (If a) h = small l a h
sound l (Compare c a b) h = (small l a h.0, small l b h.1)
sound l Else h = tt
sound l EndIf h = tt
sound l (BeginTable a) h = small l a h
sound l (EndTable k) h = small_optional l k h
sound l (Records f) h = h.parameter.most
sound l (Entries f) h = h.parameter.most
sound l (Datasource i) h = tt
sound l NoFormFeed h = tt
sound l (NewPage n) h = small_optional l n h
sound l (Heading n at) h = (h.0, h.1.inside)
sound l (NoHeading n) h = tt
sound l Remark h = tt

module _ (l : List ℕ) where
  none : Fine l None
  none = record { is = tt }

  set : (word : Operation) (at : ℕ) → Fine l (set_at word l at)
  set word = set_makes (Fine l) none word (λ t a k. fine k)

  compare : (word : Comparison) (at : ℕ) → Fine l (compare_at word l at)
  compare word = compare_makes (Fine l) none word (λ a b j k. fine (j, k))

  commands_fine : EachForm (Fine l) l commands
  unfolding commands
  commands_fine =
      datasource_makes (Fine l) none (λ i k. fine k) l
      besides set _
      besides set _
      besides set _
      besides set _
      besides set _
      besides compare _
      besides compare _
      besides compare _
      besides compare _
      besides compare _
      besides compare _
      besides compare _
      besides compare _
      besides single_makes (Fine l) none IfNot (λ a k. fine k)
      besides single_makes (Fine l) none If (λ a k. fine k)
      besides single_makes (Fine l) none BeginTable (λ a k. fine k)
      besides bare_makes (Fine l) none Else (fine tt) l
      besides bare_makes (Fine l) none EndIf (fine tt) l
      besides bare_makes (Fine l) none NoFormFeed (fine tt) l
      besides optional_makes (Fine l) none EndTable (λ k h. fine h)
      besides optional_makes (Fine l) none NewPage (λ k h. fine h)
      besides fetch_makes (Fine l) none Records (λ f h. fine h) l
      besides fetch_makes (Fine l) none Entries (λ f h. fine h) l
      besides section_makes (Fine l) none (λ a e. fine tt) l
      besides heading_makes (Fine l) none l (λ n at e h. fine (e, h)) (λ n k. fine k)
      besides remark_makes (Fine l) none (fine tt) l
      besides all

  parsed_fine : Fine l (parse_line l)
  unfolding parse_line
  parsed_fine = picked (Fine l) (byte_is l 0 "$") (found_form (Fine l) None commands l 1 none commands_fine) (go (text_fits l 0) refl)
    where
      go : (b : Bool) → text_fits l 0 ≡ b → Fine l (cond b (Some Text) None)
      go true e = fine e
      go false e = none

  -- "With fields at width w a line, command word included, has at most 132 bytes"
  pub text_accepted : parse_line l ≡ Some Text → text_fits l 0 ≡ true
  text_accepted e = (subst (Fine l) e parsed_fine).is

  pub heading_accepted : (n at : ℕ) → parse_line l ≡ Some (Heading n at) → text_fits l at ≡ true
  heading_accepted n at e = (subst (Fine l) e parsed_fine).is.0

  -- Whatever was read of the line lies within its limits.
  pub parsed_bounded : (f : Line) → parse_line l ≡ Some f → Bounded l f
  parsed_bounded f e = (subst (Fine l) e parsed_fine).is

  pub parsed_sound : (f : Line) → parse_line l ≡ Some f → Sound l f
  parsed_sound f e = sound l f (parsed_bounded f e)
