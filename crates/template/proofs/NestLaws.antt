-- Laws of check 4's loop: the code holds what is open at each line.
use Rattle.std.specs.Prelude.{Some, None, Option}
use mathlib.Core.Path.{◌≡◌, refl, sym, ◌∙◌}
use mathlib.Core.Bool.{Bool, true, false}
use mathlib.Core.List.{List, []}
use Prim.Native.Nat.{ℕ, ◌+◌, ◌<◌, ◌≤◌, zero-le}
use lib.ListN.{length, drop}
use Rattle.scan.specs.Line.{line_at}
use Rattle.nesting.specs.declared.Shape.{Shape}
use Rattle.nesting.specs.declared.Open.{Open}
use Rattle.template.specs.Lines.{lines_of}
use Rattle.template.specs.Walk.{walk}
use Rattle.template.specs.Shape.{shape_of}
use Rattle.nesting.specs.Nest.{Mark, tests_open, tables_open, behind}
use Rattle.nesting.specs.Inner.Open.{code, HoldsOpen, Follows, Steps, Ends}
use Rattle.template.specs.Checks.{nest_step, nest_end, nest_check}
use Rattle.template.proofs.WalkLaws.{walk_end, walk_here, walk_later}

-- a state of the code that holds what some marks say is open
pub record Sound (state : Open) : Type 0 where
  pub list : List Mark
  pub holds : HoldsOpen state list

-- nothing is open at first
nothing_open : Sound (record { marks = 0; tests = 0; tables = 0 })
unfolding code tests_open tables_open
nothing_open = record { list = []; holds = record { coded = refl; tested = refl; tabled = refl; few_tests = zero-le; few_tables = zero-le; short = zero-le } }

pub nest_start : (t : List ℕ) → (x : Sound (record { marks = 0; tests = 0; tables = 0 })) × (walk nest_step nest_end x.list 0 (lines_of (drop 0 t)) ≡ nest_check t)
unfolding nest_check nothing_open
nest_start t = (nothing_open, refl)

follows_wrong : (o : Option (List Mark)) → Follows None o → o ≡ None
unfolding Follows
follows_wrong (Some s) f = absurd f
follows_wrong None f = refl

follows_went : (g : Open) (o : Option (List Mark)) → Follows (Some g) o → (x : Sound g) × (o ≡ Some x.list)
unfolding Follows
follows_went g (Some s) f = (record { list = s; holds = f }, refl)
follows_went g None f = absurd f

module _ (t : List ℕ) (at n : ℕ) (g : Open) (x : Sound g) {w : (Option ℕ)} (inv : walk nest_step nest_end x.list n (lines_of (drop at t)) ≡ w) where
  module _ (line : List ℕ) (shape : Shape) (r : Option Open) (inside : at < length t) (e : line ≡ line_at t at) (q : shape ≡ shape_of line) (f : Steps g shape r) where
    pub nest_here : r ≡ None → Some (n + 1) ≡ w
    unfolding nest_step
    nest_here k =
        let o : behind shape x.list ≡ None = follows_wrong (behind shape x.list) (rw k at (f.follows x.list x.holds)) in
        walk_here nest_step nest_end t at n x.list inv line inside e (rw (← q) o)

    pub nest_later : (g' : Open) → r ≡ Some g' → (y : Sound g') × (walk nest_step nest_end y.list (n + 1) (lines_of (drop (at + (length line + 1)) t)) ≡ w)
    unfolding nest_step
    nest_later g' k =
        let (y, o) = follows_went g' (behind shape x.list) (rw k at (f.follows x.list x.holds)) in
        (y, walk_later nest_step nest_end t at n x.list inv line inside e y.list (rw (← q) o))

  module _ (h : length t ≤ at) (b : Bool) (f : Ends g b) where
    pub nest_closed : b ≡ true → None ≡ w
    unfolding nest_end
    nest_closed k = sym (rw (← f.closed x.list x.holds, k)) ∙ walk_end nest_step nest_end t at n x.list inv h

    pub nest_open : b ≡ false → Some n ≡ w
    unfolding nest_end
    nest_open k = sym (rw (← f.closed x.list x.holds, k)) ∙ walk_end nest_step nest_end t at n x.list inv h
