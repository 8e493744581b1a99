-- The arguments of a line: one law for each way that they end.
use Rattle.std.specs.Prelude.{Option, Some}
use mathlib.Core.Path.{◌≡◌}
use mathlib.Core.List.{List}
use Prim.Native.Nat.{ℕ, ◌+◌, ◌≤◌}
use lib.IntN.{ℤ}
use native.Mathlib.Omega.{arith}
use Rattle.numbers.specs.declared.Quantity.{Quantity}
use Rattle.meaning.specs.Answer.{Answer}
use Rattle.meaning.specs.Tree.{done, bind}
use Rattle.meaning.specs.Meaning.{Meaning}
use Rattle.meaning.specs.Inner.Place.{Place, Does}
use Rattle.meaning.specs.declared.question.Question.{Question}
use Rattle.meaning.proofs.Doing.{then_does, then_over, does_done}
use Rattle.arguments.specs.declared.argument.Argument.{Argument}
use Rattle.arguments.specs.declared.argument.Filter.TheVariants.{Unfiltered}
use Rattle.arguments.specs.declared.operand.Operand.TheVariants.{NumberLiteral}
use Rattle.arguments.specs.Inner.Parameter.{parameter_of}
use Rattle.values.specs.Inner.Texts.{Strings, strings}
use Rattle.values.specs.declared.scene.Scene.{Scene}
use Rattle.values.specs.Source.{answers}
use Rattle.values.specs.Inner.State.{Held, held, machine}
use Rattle.values.specs.Inner.Hearing.{Askable}
use Rattle.values.specs.declared.worth.Worth as D
use Rattle.values.specs.declared.worth.Worth.TheVariants as W
use Rattle.values.specs.declared.working.Inputs.{Inputs}
use Rattle.values.specs.declared.working.Inputs.TheVariants as inputs
use Rattle.values.specs.declared.working.Inputs.TheVariants.{One, Two}
use Rattle.values.specs.Worth.{Worth, missing}
use Rattle.values.specs.Meanings.{argument_meaning}
use Rattle.values.specs.Inner.Yielding.{meant, ArgumentValue}
use Rattle.values.specs.Inner.Working.{worths, inputs_meaning, Literally, LiteralOf, first_parameter, second_parameter, Workable, WorksOut}
use Rattle.values.proofs.Arguments.{literal_value}
use Rattle.values.specs.declared.log.Log.{Log}
use Rattle.values.specs.Inner.Logged.{filled_to}
use Rattle.std.specs.Prelude.{Result, Ok, Err}
use Rattle.meaning.specs.declared.end.Stop.{Stop}
use Rattle.meaning.specs.Tree.{finished}

-- ---- what the calls require

module _ (d : ℕ) (i : Inputs) (a : ℕ) (h : Workable d i a) where
  pub askable_one : (x : Argument) → i ≡ One x → Askable d 1 (parameter_of x.operand) a
  unfolding first_parameter
  askable_one x e = record { datasource = h.datasource; kinds = omega arith; parameter = rw e at h.first; place = omega (arith, h.places) }

  pub askable_first : (x y : Argument) → i ≡ Two x y → Askable d 1 (parameter_of x.operand) a
  unfolding first_parameter
  askable_first x y e = record { datasource = h.datasource; kinds = omega arith; parameter = rw e at h.first; place = omega (arith, h.places) }

  pub askable_second : (x y : Argument) (b : ℕ) → i ≡ Two x y → b ≤ a + 1 → Askable d 1 (parameter_of y.operand) b
  unfolding second_parameter
  askable_second x y b e l = record { datasource = h.datasource; kinds = omega arith; parameter = rw e at h.second; place = omega (arith, h.places) }

-- ---- a value, then what is made of it

mapped : {A B : Type 0} (source : Question → Answer) (t : Meaning A) (P P' : Place Question) (v : A) (f : A → B) → Does source t P P' (finished v) → Does source (bind t (λ x. done (f x))) P P' (finished (f v))
mapped source t P P' v f d = then_does (λ x. done (f x)) d (does_done source P' (f v))

module _ (line store index : List ℕ) (vars : Held) (sc : Scene) (i : Inputs) (log : Log) where
  abbrev Out : Log → Result (D.Worth × D.Worth) Stop → Type 0
  Out log' r = WorksOut line store index vars sc i log log' r

  abbrev S : Strings
  S = strings line store vars.rows

  pub works_none : i ≡ inputs.None → Out log (Ok (W.Missing, W.Missing))
  unfolding inputs_meaning meant
  works_none h = record {
    does = λ n cs r text m g. rw h (does_done (answers store n) (filled_to text m log g) (worths missing missing));
    few = omega arith;
  }

  abbrev Of : Argument → ℕ → Meaning Worth
  Of x n = argument_meaning (machine (answers store n) vars sc) line sc.number x

  module _ (x : Argument) (log' : Log) where
    abbrev First : Result D.Worth Stop → Type 0
    First v = ArgumentValue line store index vars sc x log log' v

    pub works_one : (v : D.Worth) → First (Ok v) → i ≡ One x → Out log' (Ok (v, W.Missing))
    unfolding inputs_meaning meant
    works_one v d h = record {
      does = λ n cs r text m g. rw h (mapped (answers store n) (Of x n) (filled_to text m log g) (filled_to text m log' g) (meant S v) (λ z. worths z missing) (d.yields.does n cs r text m g));
      few = omega (arith, d.yields.few);
    }

    pub one_over : (s : Stop) → First (Err s) → i ≡ One x → Out log' (Err s)
    unfolding inputs_meaning
    one_over s d h = record {
      does = λ n cs r text m g. rw h (then_over (λ z. done (worths z missing)) (d.yields.does n cs r text m g));
      few = omega (arith, d.yields.few);
    }

    module _ (y : Argument) (h : i ≡ Two x y) where
      pub first_over : (s : Stop) → First (Err s) → Out log' (Err s)
      unfolding inputs_meaning
      first_over s d = record {
        does = λ n cs r text m g. rw h (then_over (λ z. bind (Of y n) (λ w. done (worths z w))) (d.yields.does n cs r text m g));
        few = omega (arith, d.yields.few);
      }

      module _ (v : D.Worth) (d : First (Ok v)) (log'' : Log) where
        pub works_two : (w : D.Worth) → ArgumentValue line store index vars sc y log' log'' (Ok w) → Out log'' (Ok (v, w))
        unfolding inputs_meaning
        works_two w d' = record {
          does = λ n cs r text m g. rw h (then_does (λ z. bind (Of y n) (λ q. done (worths z q))) (d.yields.does n cs r text m g) (mapped (answers store n) (Of y n) (filled_to text m log' g) (filled_to text m log'' g) (meant S w) (λ q. worths (meant S v) q) (d'.yields.does n cs r text m g)));
          few = omega (arith, d.yields.few, d'.yields.few);
        }

        pub second_over : (s : Stop) → ArgumentValue line store index vars sc y log' log'' (Err s) → Out log'' (Err s)
        unfolding inputs_meaning
        second_over s d' = record {
          does = λ n cs r text m g. rw h (then_does (λ z. bind (Of y n) (λ q. done (worths z q))) (d.yields.does n cs r text m g) (then_over (λ q. done (worths (meant S v) q)) (d'.yields.does n cs r text m g)));
          few = omega (arith, d.yields.few, d'.yields.few);
        }

-- ---- a number without a filter

pub works_literal : (line store index : List ℕ) (numbers : List ℤ) (rows : List (List ℕ)) (words : List ℕ) (sc : Scene) (i : Inputs) (log : Log) (x : Argument) (r : Option Quantity) (q : Quantity) → LiteralOf x r → r ≡ Some q → i ≡ One x → WorksOut line store index (held numbers rows words) sc i log log (Ok (W.Number q, W.Missing))
unfolding Literally
works_literal line store index numbers rows words sc i log x r q l e h =
    let k : (x.operand ≡ NumberLiteral q) × (x.filter ≡ Unfiltered) = rw e at l.literal in
    works_one line store index (held numbers rows words) sc i log x log (W.Number q) (literal_value line store index numbers rows words sc x log q k.0 k.1) h
