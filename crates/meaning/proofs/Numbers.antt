-- 9 and 14 are the numbers of runs that were cut off, and of no others.
use mathlib.Core.Path.{◌≡◌, refl}
use mathlib.Core.Bool.{false}
use Prim.Native.Nat.{ℕ}
use native.Mathlib.Omega.{arith}
use borrow.Author.Tests.{eqb-false}
use lib.Dec.{eqb}
use Rattle.meaning.specs.Tree.{refused, cut, End, finished, halted}
use Rattle.meaning.specs.Number.{refusal_number, number_of}
use Rattle.meaning.specs.declared.refusal.Refusal.{Refusal}
use Rattle.meaning.specs.declared.refusal.Refusal.TheVariants.{BadStore, BadTemplate, BadLine, BadNesting, RepeatedSection, NoSection, TooManyLines, BadIndex, MissingArgument, WrongKind, ZeroDivisor, OutOfRange, BadRequest, StoreFull, NoCell}
use Rattle.meaning.specs.declared.refusal.Overflow.TheVariants.{ReadList, Output}

-- Neither 9 nor 14.
abbrev Apart : ℕ → Type 0
Apart n = (eqb n 9 ≡ false) × (eqb n 14 ≡ false)

apart : (e : Refusal) → Apart (refusal_number e)
apart = elim [
  | BadStore ↦ (refl, refl)
  | BadTemplate ↦ (refl, refl)
  | BadLine ↦ (refl, refl)
  | BadNesting ↦ (refl, refl)
  | RepeatedSection ↦ (refl, refl)
  | NoSection ↦ (refl, refl)
  | TooManyLines ↦ (refl, refl)
  | BadIndex ↦ (refl, refl)
  | MissingArgument ↦ (refl, refl)
  | WrongKind ↦ (refl, refl)
  | ZeroDivisor ↦ (refl, refl)
  | OutOfRange ↦ (refl, refl)
  | BadRequest ↦ (refl, refl)
  | StoreFull ↦ (refl, refl)
  | NoCell ↦ (refl, refl)
]

module _ {L A : Type 0} where
  -- A run that ends with 9 had no place on the read list.
  pub nine : (e : End Refusal L A) → number_of e ≡ 9 → (l : L) × (e ≡ halted (cut ReadList) l)
  nine (finished a) h = absurd (omega arith)
  nine (halted (refused e) l) h = absurd (eqb-false (refusal_number e) 9 (apart e).0 h)
  nine (halted (cut ReadList) l) h = (l, refl)
  nine (halted (cut Output) l) h = absurd (omega arith)

  -- A run that ends with 14 had no room in the output.
  pub fourteen : (e : End Refusal L A) → number_of e ≡ 14 → (l : L) × (e ≡ halted (cut Output) l)
  fourteen (finished a) h = absurd (omega arith)
  fourteen (halted (refused e) l) h = absurd (eqb-false (refusal_number e) 14 (apart e).1 h)
  fourteen (halted (cut ReadList) l) h = absurd (omega arith)
  fourteen (halted (cut Output) l) h = (l, refl)
