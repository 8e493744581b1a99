-- What the contracts of $SETE to $SETD say.
use Rattle.meaning.specs.declared.refusal.Refusal.{Refusal}
use Rattle.std.specs.Prelude.{◌≡◌, List, ℕ, ◌+◌, ◌≤◌, ℤ, length, Result}
use Rattle.values.specs.Machine.{set_numbered}
use Rattle.meaning.specs.Answer.{Answer}
use Rattle.meaning.specs.declared.question.Question.{Question}
use Rattle.lines.specs.declared.command.Operation.{Operation}
use Rattle.lines.specs.declared.command.Target.{Target}
use Rattle.values.specs.Inner.Texts.{strings}
use Rattle.values.specs.Inner.State.{texts, bank, lengths_in, Held, variables_of}
use Rattle.values.specs.declared.worth.Worth as W
use Rattle.values.specs.Inner.Yielding.{meant}
use Rattle.commands.specs.Inner.Taking.{mapped}
use Rattle.commands.specs.Settling.{Settled}
use Rattle.commands.specs.Setting.{as_variable, string_new, set_of}

-- "SV1–SV99": a row for each
pub record Rowed (rows : List (List ℕ)) : Type 0 where
  pub rows_held : length rows ≡ 99

-- a result as the n-th of IV or FV, or the refusal
pub record StoresNumber (numbers : List ℤ) (from n : ℕ) (t : Result ℤ Refusal) (numbers' : List ℤ) (r : Settled (Unit {0})) : Type 0 where
  pub same : as_variable (bank from 99 numbers) n t ≡ mapped (λ _. bank from 99 numbers') r
  pub below : (i k : ℕ) → i + k ≤ from → bank i k numbers' ≡ bank i k numbers
  pub above : (i k : ℕ) → from + 99 ≤ i → bank i k numbers' ≡ bank i k numbers

-- SVn is s now, any other what it was
pub record PutsString (rows : List (List ℕ)) (words : List ℕ) (n : ℕ) (s : List ℕ) (rows' : List (List ℕ)) (words' : List ℕ) : Type 0 where
  pub put : texts rows' 0 (lengths_in words') ≡ set_numbered (texts rows 0 (lengths_in words)) n s
  pub held : Rowed rows'
  pub above : (i k : ℕ) → 99 ≤ i → bank i k words' ≡ bank i k words

-- the string of a value as SVn, or the refusal
pub record StoresString (line store : List ℕ) (rows : List (List ℕ)) (words : List ℕ) (n : ℕ) (w : W.Worth) (rows' : List (List ℕ)) (words' : List ℕ) (r : Settled (Unit {0})) : Type 0 where
  pub same : as_variable (texts rows 0 (lengths_in words)) n (string_new (meant (strings line store rows) w)) ≡ mapped (λ _. texts rows' 0 (lengths_in words')) r
  pub held : Rowed rows'
  pub above : (i k : ℕ) → 99 ≤ i → bank i k words' ≡ bank i k words

-- a value given to a variable of any kind: what `assigned` says, by all that it is handed and hands back
pub record Assigns (line store : List ℕ) (vars : Held) (o : Operation) (t : Target) (w : W.Worth) (vars' : Held) (r : Settled (Unit {0})) : Type 0 where
  pub same : (source : Question → Answer) → set_of (variables_of source vars) o t (meant (strings line store vars.rows) w) ≡ mapped (λ _. variables_of source vars') r
  pub held : Rowed vars'.rows
  pub above : (i k : ℕ) → 99 ≤ i → bank i k vars'.words ≡ bank i k vars.words
