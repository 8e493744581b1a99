-- Cells without entry and filter: their value is that of the argument.
use mathlib.Core.Path.{◌≡◌, refl, sym}
use mathlib.Core.List.{List}
use Prim.Native.Nat.{ℕ}
use lib.IntN.{ℤ}
use Rattle.arguments.specs.declared.index.Index.{Index}
use Rattle.arguments.specs.declared.argument.Filter.TheVariants.{Unfiltered}
use Rattle.arguments.specs.declared.operand.Operand.{Operand}
use Rattle.arguments.specs.declared.operand.Operand.TheVariants as O
use Rattle.arguments.specs.Inner.CellArgument.{CellOperand, indexed, alone, unfiltered}
use Rattle.values.specs.declared.scene.Scene.{Scene}
use Rattle.values.specs.Asking.{question}
use Rattle.values.specs.Indexes.{index_number}
use Rattle.values.specs.Meanings.{operand_meaning, argument_meaning}
use Rattle.values.specs.Worth.{Worth, missing, wrong, number, string, filtered, filtered_number, filtered_string, question_kind}
use Rattle.values.specs.Inner.Texts.{strings}
use Rattle.values.specs.Inner.State.{integers_in, held}
use Rattle.values.specs.Inner.Hearing.{place_of, cell_at, Hears}
use Rattle.values.specs.Inner.Yielding.{meant, ValuedOf, OperandValue, ArgumentValue, CellValue}
use Rattle.values.proofs.Operands.{operand_in_record}
use Rattle.values.proofs.Arguments.{filter_follows, filter_over}
use Rattle.values.specs.declared.log.Log.{Log}
use Rattle.std.specs.Prelude.{Result, Ok, Err}
use Rattle.meaning.specs.declared.end.Stop.{Stop}
use Rattle.cells.specs.declared.Answered.{Answered}
use Rattle.values.specs.declared.worth.Worth as D

as_it_is : (w : Worth) → filtered Unfiltered w ≡ w
unfolding filtered filtered_number filtered_string
as_it_is missing = refl
as_it_is wrong = refl
as_it_is (number q) = refl
as_it_is (string s) = refl

module _ (store index : List ℕ) (numbers : List ℤ) (sc : Scene) (log : Log) (log' : Log) where
  without_filter : (o : Operand) (words : List ℕ) (v : Result D.Worth Stop) → OperandValue store index numbers words sc 1 o log log' v → (line : List ℕ) (rows : List (List ℕ)) → ArgumentValue line store index (held numbers rows words) sc (unfiltered o) log log' v
  unfolding question_kind
  without_filter o words (Ok w) d line rows = filter_follows line store index numbers rows words sc 1 (unfiltered o) log log' refl w w d (sym (as_it_is (meant (strings line store rows) w)))
  without_filter o words (Err h) d line rows = filter_over line store index numbers rows words sc 1 (unfiltered o) log log' refl h d

  pub cell_valued : (n : ℕ) (i : Index) (r : ℕ) (z : ℤ) (x : Result Answered Stop) (v : Result D.Worth Stop) → ValuedOf x v → z ≡ sc.turn → r ≡ place_of (index_number (integers_in numbers) z i) → Hears store index (cell_at sc.number (question 1 sc.datasource n r 0)) log log' x → CellValue store index numbers sc n i log log' v
  cell_valued n i r z x v k q f d = record {
    value = λ line rows words. without_filter (O.Record n i) words v (operand_in_record store index numbers words sc 1 (O.Record n i) log log' n x v k i r z refl q f d) line rows;
  }

  -- Pn asks what Pn.0 asks: "absent parts 0"
  pub cell_argument : (n : ℕ) (i : Index) (o : Operand) (v : Result D.Worth Stop) → CellOperand n i o → CellValue store index numbers sc n i log log' v → (line : List ℕ) (rows : List (List ℕ)) (words : List ℕ) → ArgumentValue line store index (held numbers rows words) sc (unfiltered o) log log' v
  unfolding argument_meaning operand_meaning
  cell_argument n i o v (indexed e) d line rows words = rw e (d.value line rows words)
  cell_argument n i o v (alone e z) d line rows words = let y = rw z at (d.value line rows words) in rw e (record { yields = y.yields })
