-- A field of a cell that is read at once is the field that stands there.
use Rattle.std.specs.Prelude.{Option, Some, None}
use Rattle.texts.specs.declared.cell_field.CellField.{CellField}
use mathlib.Core.Path.{◌≡◌, sym, subst}
use mathlib.Core.List.{List}
use Prim.Native.Nat.{ℕ, ◌+◌}
use Rattle.scan.specs.Readers.Digits.{number_at}
use Rattle.arguments.specs.declared.index.Index.{Index}
use Rattle.arguments.specs.Inner.CellArgument.{CellArgument}
use Rattle.texts.specs.Readers.Text.{places_at, places_of, width_next, field_of, field_at}
use Rattle.texts.specs.Inner.CellField.{CellShown, ReadsField}

-- what is said of a field that was read
abbrev Said : List ℕ → ℕ → Option CellField → Type 0
Said l at (Some c) = CellShown l at c
Said l at None = Unit {0}

abbrev Told : Option CellField → Type 0
Told (Some c) = Unit {0}
Told None = ⊥

pub other_reads : (l : List ℕ) (at : ℕ) → ReadsField l at None
other_reads l at = record { reads = λ c e. absurd (subst Told (sym e) tt) }

module _ (l : List ℕ) (at n : ℕ) (i : Index) (comma : ℕ) (h : CellArgument l at n i comma) where
  pub field_reads : (w end : ℕ) (p : Option ℕ) (next : ℕ) → number_at l (comma + 1) 32 ≡ Some (w, end) → places_at l end ≡ Some (p, next) → ReadsField l at (Some (record { parameter = n; index = i; width = w; places = p; next = next }))
  unfolding field_at field_of width_next places_of
  field_reads w end p next q r =
      let shown : CellShown l at (record { parameter = n; index = i; width = w; places = p; next = next }) = record { operand = h.operand; cell = h.cell; field = rw (h.argument, h.comma, q, r) } in
      record { reads = λ c e. subst (Said l at) e shown }
