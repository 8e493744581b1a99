-- What the contracts of arms.rt say: the state behind a command, by what its values came to.
use Rattle.std.specs.Prelude.{◌≡◌, Bool, true, false, cond, ◌&&◌, List, ◌++◌, ℕ, ◌+◌, ◌-◌, ◌≤◌, leb, ℤ, pos, length, drop, replicate, Result, Ok, Err}
use Rattle.std.specs.Int.Signed.{lt_z}
use Rattle.values.specs.Inner.Registers.{Puts}
use Rattle.values.specs.Machine.{set_numbered}
use Rattle.template.specs.declared.seek.Sought.TheVariants.{Branch, TableEnd}
use Rattle.meaning.specs.declared.refusal.Refusal.{Refusal}
use Rattle.meaning.specs.declared.refusal.Refusal.TheVariants.{BadIndex}
use Rattle.commands.specs.Settling.{Settled}
use Rattle.values.specs.Inner.State.{bank, headings_in}
use Rattle.pages.specs.declared.heading.Heading.{Heading}
use Rattle.pages.specs.Inner.Packed.{headings_of}
use Rattle.control.specs.declared.state.Flow.{Flow}
use Rattle.control.specs.Inner.Remembering.{Remembered}
use Rattle.control.specs.Inner.Going.{depth_in, feeds_in, page_in, jumped_in, again_in}
use Rattle.meaning.specs.declared.end.Stop.{Stop}
use Rattle.meaning.specs.declared.end.Halt.TheVariants.{Refused}
use Rattle.meaning.specs.Number.{stopped}
use Rattle.pages.specs.Inner.Paging.{Breaks}

-- a jump's sums stay small, and those that are remembered are right
pub record Jumpable (t words : List ℕ) (f : Flow) : Type 0 where
  pub short : length t ≤ 65536
  pub few : f.line ≤ 131072
  pub remembered : Remembered t words

-- what a command came to, or that its line is refused
abbrev pub on_line : {A : Type 0} → ℕ → Settled A → Result A Stop
on_line l (Ok x) = Ok x
on_line l (Err e) = Err (stopped (Refused e) l)

-- how a line ends that neither asks nor prints, and the flow behind it: refused, or on the flow that follows from its result
abbrev pub settled_end : {A : Type 0} → ℕ → Settled A → Result (Unit {0}) Stop
settled_end l (Ok x) = Ok tt
settled_end l (Err e) = Err (stopped (Refused e) l)

abbrev pub settled_flow : {A : Type 0} → Flow → (A → Flow) → Settled A → Flow
settled_flow f to (Ok x) = to x
settled_flow f to (Err e) = f

pub record Settles {A : Type 0} (l : ℕ) (f : Flow) (to : A → Flow) (x : Settled A) (f' : Flow) (r : Result (Unit {0}) Stop) : Type 0 where
  pub end : r ≡ settled_end l x
  pub flow : f' ≡ settled_flow f to x

abbrev pub branched_in : List ℕ → Flow → Bool → Flow
branched_in t f holds = cond holds f (jumped_in t f Branch)

abbrev pub begun_in : List ℕ → Flow → Bool → Flow
begun_in t f holds = cond holds (depth_in f (f.depth + 1)) (jumped_in t f TableEnd)

abbrev pub over_in : List ℕ → Flow → Bool → Flow
over_in ws f holds = cond holds (again_in ws f) (depth_in f (f.depth - 1))

-- $SETDS by a number from 0 to 999, or 1000 (proofs/Following: datasource_is)
unfoldable pub datasource_at : ℕ → Settled ℕ
datasource_at n = cond (leb 1 n && leb n 35) (Ok n) (Err BadIndex)

-- $REC, $TBL: Rn or Tn, which begin at a place of the words; a fetch that was refused or cut leaves all of them
pub record Refills (from n : ℕ) (v : Result ℕ Stop) (words words' : List ℕ) (r : Result (Unit {0}) Stop) : Type 0 where
  pub puts : (w : ℕ) → v ≡ Ok w → (r ≡ Ok tt) × Puts words from 10 n w words'
  pub kept : (s : Stop) → v ≡ Err s → (r ≡ Err s) × (words' ≡ words)
  pub above : (i k : ℕ) → 128 ≤ i → bank i k words' ≡ bank i k words

-- $SEC
pub record Clears (numbers : List ℤ) (words : List ℕ) (f : Flow) (numbers' : List ℤ) (words' : List ℕ) (f' : Flow) : Type 0 where
  pub numbers_zero : numbers' ≡ replicate 198 (pos 0) ++ drop 198 numbers
  pub words_zero : words' ≡ replicate 128 0 ++ drop 128 words
  pub went : f' ≡ feeds_in f true

-- $PH
pub record Heads (words : List ℕ) (n : ℕ) (h : Heading) (words' : List ℕ) : Type 0 where
  pub set : headings_of (headings_in words') ≡ set_numbered (headings_of (headings_in words)) n h
  pub others : (i k : ℕ) → i + k ≤ 119 → bank i k words' ≡ bank i k words
  pub above : (i k : ℕ) → 128 ≤ i → bank i k words' ≡ bank i k words

-- `$NP n` with its value: refused, on the same page, or broken
pub record Unbroken (f : Flow) (T : List ℕ) (u : ℕ) (f' : Flow) (T' : List ℕ) (u' : ℕ) : Type 0 where
  pub flow : f' ≡ f
  pub text : T' ≡ T
  pub printed : u' ≡ u

pub record PagesLine (t : Result ℤ Refusal) (l : ℕ) (f : Flow) (T : List ℕ) (u : ℕ) (f' : Flow) (T' : List ℕ) (u' : ℕ) (r : Result (Unit {0}) Stop) : Type 0 where
  pub refused : (e : Refusal) → t ≡ Err e → (r ≡ Err (stopped (Refused e) l)) × Unbroken f T u f' T' u'
  pub stays : (z : ℤ) → t ≡ Ok z → lt_z (pos (61 - f.page.row)) z ≡ false → (r ≡ Ok tt) × Unbroken f T u f' T' u'
  pub breaks : (z : ℤ) → t ≡ Ok z → lt_z (pos (61 - f.page.row)) z ≡ true → Breaks l f.feeds f.page T u f'.page T' u' r × (f' ≡ page_in f f'.page)
  pub kept : length T' ≡ length T
