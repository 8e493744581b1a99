-- Two runs side by side, and a source behind a filter.
use Rattle.std.specs.Prelude.{◌≡◌, Bool, true, false, List, ◌++◌}
use Rattle.meaning.specs.Each.{Each}
use Rattle.meaning.specs.Tree.{refused, cut, End, finished, halted, Run}

-- Two sources give the same answer to each question of a list.
abbrev pub Agree : {Q R : Type 0} → (Q → R) → (Q → R) → List Q → Type 0
Agree s s' qs = Each (λ q. s q ≡ s' q) qs

-- ys begins with xs.
abbrev pub Prefix : {A : Type 0} → List A → List A → Type 0
Prefix {A} xs ys = (rest : List A) × (ys ≡ xs ++ rest)

-- The questions and the events of y begin with those of x.
pub record Start {Q E L A : Type 0} (x y : Run Q E L A) : Type 0 where
  pub asked : Prefix x.asked y.asked
  pub events : Prefix x.events y.events

-- y is the run x in longer buffers, x having ended in the way given: where x was cut off, it is the start of y; else it is y.
unfoldable pub LongerBy : {Q E L A : Type 0} → End E L A → Run Q E L A → Run Q E L A → Type 0
LongerBy (finished a) x y = x ≡ y
LongerBy (halted (refused e) l) x y = x ≡ y
LongerBy (halted (cut o) l) x y = Start x y

abbrev pub Longer : {Q E L A : Type 0} → Run Q E L A → Run Q E L A → Type 0
Longer x y = LongerBy x.end x y

-- A source behind a filter: a question that isn't shown gets a blank answer instead of the source's.
unfoldable pub behind_filter : {Q R : Type 0} → (Q → Bool) → (Q → R) → (Q → R) → Q → R
behind_filter shown blank source q = elim (shown q) [ true ↦ source q | false ↦ blank q ]
