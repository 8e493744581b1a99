-- $SETE to $SETD: one law for each return of the code.
use Rattle.std.specs.Prelude.{Ok, Err, Result}
use mathlib.Core.Path.{◌≡◌, refl}
use mathlib.Core.List.{List}
use Prim.Native.Nat.{ℕ}
use native.Mathlib.Omega.{arith}
use lib.IntN.{ℤ, pos}
use Rattle.meaning.specs.Answer.{Answer}
use Rattle.meaning.specs.declared.question.Question.{Question}
use Rattle.meaning.specs.declared.refusal.Refusal.{Refusal}
use Rattle.lines.specs.declared.command.Operation.{Operation}
use Rattle.lines.specs.declared.command.Target.{Target}
use Rattle.lines.specs.declared.command.Target.TheVariants.{IntegerTarget, DecimalTarget, StringTarget}
use Rattle.values.specs.Inner.Texts.{Strings, strings}
use Rattle.values.specs.Machine.{Variables, numbered}
use Rattle.values.specs.Inner.State.{texts, integers_in, decimals_in, lengths_in, held, variables_of}
use Rattle.values.specs.declared.worth.Worth.{Worth}
use Rattle.values.specs.Inner.Yielding.{meant}
use Rattle.commands.specs.Settling.{Settled}
use Rattle.commands.specs.Setting.{as_variable, integer_new, decimal_new, string_new, with_integers, with_decimals, with_strings, set_of}
use Rattle.commands.specs.Inner.Taking.{mapped, Takes}
use Rattle.commands.specs.Inner.Assigning.{Rowed, StoresNumber, StoresString, Assigns}

-- ---- a value in hand

-- what is stored, put into the machine
stored_in : {A B C : Type 0} (f : A → B) (a : A) (x : Settled A) (y : Settled C) → x ≡ mapped (λ _. a) y → mapped f x ≡ mapped (λ _. f a) y
stored_in f a x (Ok c) e = rw e
stored_in f a x (Err r) e = rw e

module _ (line store : List ℕ) (numbers : List ℤ) (rows : List (List ℕ)) (words : List ℕ) (o : Operation) (t : Target) (w : Worth) (n : ℕ) (v : Settled (Unit {0})) (r : Rowed rows) where
  abbrev Here : Strings
  Here = strings line store rows

  abbrev Now : (Question → Answer) → Variables
  Now source = variables_of source (held numbers rows words)

  pub assigned_integer : t ≡ IntegerTarget n → (a : ℤ) → a ≡ numbered (pos 0) (integers_in numbers) n → (taken : Result ℤ Refusal) → Takes (integer_new o a) w taken → (numbers' : List ℤ) → StoresNumber numbers 0 n taken numbers' v → Assigns line store (held numbers rows words) o t w (held numbers' rows words) v
  unfolding set_of
  assigned_integer h a e taken d numbers' k = record {
    same = λ source. rw (h, ← e, ← (d.same Here), k.above 99 99 (omega arith)) (stored_in (with_integers (Now source)) (integers_in numbers') (as_variable (integers_in numbers) n taken) v k.same);
    held = r;
    above = λ i k g. refl;
  }

  pub assigned_decimal : t ≡ DecimalTarget n → (a : ℤ) → a ≡ numbered (pos 0) (decimals_in numbers) n → (taken : Result ℤ Refusal) → Takes (decimal_new o a) w taken → (numbers' : List ℤ) → StoresNumber numbers 99 n taken numbers' v → Assigns line store (held numbers rows words) o t w (held numbers' rows words) v
  unfolding set_of
  assigned_decimal h a e taken d numbers' k = record {
    same = λ source. rw (h, ← e, ← (d.same Here), k.below 0 99 (omega arith)) (stored_in (with_decimals (Now source)) (decimals_in numbers') (as_variable (decimals_in numbers) n taken) v k.same);
    held = r;
    above = λ i k g. refl;
  }

  pub assigned_string : t ≡ StringTarget n → (rows' : List (List ℕ)) (words' : List ℕ) → StoresString line store rows words n w rows' words' v → Assigns line store (held numbers rows words) o t w (held numbers rows' words') v
  unfolding set_of
  assigned_string h rows' words' d = record {
    same = λ source. rw (h, d.above 99 10 (omega arith), d.above 109 10 (omega arith)) (stored_in (with_strings (Now source)) (texts rows' 0 (lengths_in words')) (as_variable (texts rows 0 (lengths_in words)) n (string_new (meant Here w))) v d.same);
    held = d.held;
    above = d.above;
  }
