-- A field with its argument worked out, whichever reader took it.
use Rattle.std.specs.Prelude.{Option, Some, None}
use mathlib.Core.Path.{◌≡◌, sym, subst, ◌∙◌}
use mathlib.Core.List.{List}
use Prim.Native.Nat.{ℕ}
use lib.IntN.{ℤ}
use Rattle.arguments.specs.declared.index.Index.{Index}
use Rattle.arguments.specs.declared.operand.Operand.{Operand}
use Rattle.arguments.specs.Inner.Parameter.{parameter_of}
use Rattle.arguments.specs.Inner.CellArgument.{CellOperand, indexed, alone, unfiltered}
use Rattle.texts.specs.declared.text.Field.{Field}
use Rattle.texts.specs.declared.cell_field.CellField as T
use Rattle.texts.specs.Readers.Text.{field_at}
use Rattle.texts.specs.Inner.CellField.{CellShown}
use Rattle.values.specs.declared.scene.Scene.{Scene}
use Rattle.values.specs.Inner.Hearing.{Askable}
use Rattle.values.specs.Inner.Yielding.{ArgumentValue, CellValue}
use Rattle.values.proofs.Cells.{cell_argument}
use Rattle.std.specs.Prelude.{Result, Ok, Err}
use Rattle.meaning.specs.declared.end.Stop.{Stop}
use Rattle.values.specs.declared.log.Log.{Log}
use Rattle.values.specs.declared.worth.Worth as D
use Rattle.pages.specs.declared.text.FieldValue.{FieldValue}
use Rattle.pages.specs.Inner.Pass.{Lent, lent, FieldReady, FieldIs, FieldStops, FieldValued}

-- a cell asks for its parameter
parameter_is : (n : ℕ) (i : Index) (o : Operand) → CellOperand n i o → parameter_of o ≡ n
unfolding parameter_of
parameter_is n i o (indexed e) = rw e
parameter_is n i o (alone e z) = rw e

pub cell_askable : (d : ℕ) (l : List ℕ) (at : ℕ) (store : List ℕ) (a : ℕ) (c : T.CellField) → FieldReady d l at store a → CellShown l at c → Askable d 1 c.parameter a
cell_askable d l at store a c h k = subst (λ (n : ℕ). Askable d 1 n a) (parameter_is c.parameter c.index k.operand k.cell) (h.asks _ c.next k.field)

module _ (store index : List ℕ) (numbers : List ℤ) (rows : List (List ℕ)) (words : List ℕ) (s : Scene) (l : List ℕ) (at : ℕ) (log log' : Log) where
  abbrev X : Lent
  X = lent store index numbers rows words

  abbrev Is : Result D.Worth Stop → ℕ → Option ℕ → ℕ → Type 0
  Is v w shown next = FieldIs X s l at log log' v w shown next

  abbrev Valued : Result (Option FieldValue) Stop → Type 0
  Valued r = FieldValued X s l at log log' r

  -- what is said of a field that is there, and of one whose argument stopped the run
  abbrev Said : Result (Option FieldValue) Stop → Type 0
  Said (Ok (Some v)) = Is (Ok v.worth) v.width v.places v.next
  Said (Ok None) = Unit {0}
  Said (Err e) = FieldStops X s l at log log' e

  abbrev There : Result (Option FieldValue) Stop → Type 0
  There (Ok (Some v)) = Unit {0}
  There (Ok None) = ⊥
  There (Err e) = ⊥

  abbrev Stops : Result (Option FieldValue) Stop → Type 0
  Stops (Ok o) = ⊥
  Stops (Err e) = Unit {0}

  there : (v : FieldValue) → Is (Ok v.worth) v.width v.places v.next → Valued (Ok (Some v))
  there v h = record { some = λ v' e. subst Said e h; none = λ e. absurd (subst There e tt); stops = λ e q. absurd (subst There q tt) }

  stops : (e : Stop) → FieldStops X s l at log log' e → Valued (Err e)
  stops e h = record { some = λ v q. absurd (subst Stops q tt); none = λ q. absurd (subst Stops q tt); stops = λ e' q. subst Said q h }

  module _ (c : T.CellField) (k : CellShown l at c) where
    of_cell : (v : Result D.Worth Stop) → CellValue store index numbers s c.parameter c.index log log' v → Is v c.width c.places c.next
    of_cell v d = record { argument = unfiltered k.operand; field = k.field; value = cell_argument store index numbers s log log' c.parameter c.index k.operand v k.cell d l rows words }

    pub cell_there : (v : D.Worth) → CellValue store index numbers s c.parameter c.index log log' (Ok v) → Valued (Ok (Some (record { worth = v; width = c.width; places = c.places; next = c.next })))
    cell_there v d = there _ (of_cell (Ok v) d)

    pub cell_stops : (e : Stop) → CellValue store index numbers s c.parameter c.index log log' (Err e) → Valued (Err e)
    cell_stops e d = stops e (record { width = c.width; shown = c.places; next = c.next; is = of_cell (Err e) d })

  module _ (r : Option (Field × ℕ)) (e : r ≡ field_at l at) where
    pub no_field : r ≡ None → Valued (Ok None)
    no_field k = record { some = λ v q. absurd (subst There (sym q) tt); none = λ q. sym e ∙ k; stops = λ s q. absurd (subst Stops (sym q) tt) }

    module _ (f : Field) (next : ℕ) (k : r ≡ Some (f, next)) where
      of_field : (v : Result D.Worth Stop) → ArgumentValue l store index X.vars s f.argument log log' v → Is v f.width f.places next
      of_field v d = record { argument = f.argument; field = sym e ∙ k; value = d }

      pub field_there : (v : D.Worth) → ArgumentValue l store index X.vars s f.argument log log' (Ok v) → Valued (Ok (Some (record { worth = v; width = f.width; places = f.places; next = next })))
      field_there v d = there _ (of_field (Ok v) d)

      pub field_stops : (q : Stop) → ArgumentValue l store index X.vars s f.argument log log' (Err q) → Valued (Err q)
      field_stops q d = stops q (record { width = f.width; shown = f.places; next = next; is = of_field (Err q) d })
