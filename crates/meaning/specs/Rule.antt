-- Rules on what may be printed when, by a state that each event moves on.
use Rattle.std.specs.Prelude.{List, [], ◌∷◌, ℕ, suc, ◌<◌}
use Rattle.meaning.specs.Event.{Event, line, break}
use Rattle.meaning.specs.Tree.{Tree, done, stop, ask, print, End, finished, halted}

-- The state after an event, and whether an event is allowed in a state.
pub record Rule (S : Type 0) : Type 1 where
  pub next : S → Event → S
  pub allowed : S → Event → Type 0

module _ {S : Type 0} (rule : Rule S) where
  -- The state behind a list of events.
  abbrev pub state_after : S → List Event → S
  state_after s [] = s
  state_after s (v ∷ vs) = state_after (rule.next s v) vs

  -- Each event of the list is allowed where it stands.
  abbrev pub AllAllowed : S → List Event → Type 0
  AllAllowed s [] = Unit {0}
  AllAllowed s (v ∷ vs) = rule.allowed s v × AllAllowed (rule.next s v) vs

  -- From state s, whatever the answers, the tree prints only what is allowed, and where it is done with a in state s', `Φ a s'` holds.
  abbrev pub Keeps : {Q R E L A : Type 0} → Tree Q R E L A → S → (A → S → Type 0) → Type 0
  Keeps (done a) s Φ = Φ a s
  Keeps (stop e l) s Φ = Unit {0}
  Keeps {R = R} (ask q l k) s Φ = (r : R) → Keeps (k r) s Φ
  Keeps (print v l t) s Φ = rule.allowed s v × Keeps t (rule.next s v) Φ

-- Φ of what a finished run yields and of the state it ended in.
abbrev pub AtEnd : {S E L A : Type 0} → (A → S → Type 0) → End E L A → S → Type 0
AtEnd Φ (finished a) s = Φ a s
AtEnd Φ (halted c l) s = Unit {0}

-- At most m lines a page: the state is how many lines the page has, and a break starts the next page.
abbrev pub lines_after : ℕ → Event → ℕ
lines_after c (line b) = suc c
lines_after c (break b) = 0

abbrev pub RoomFor : ℕ → ℕ → Event → Type 0
RoomFor m c (line b) = c < m
RoomFor m c (break b) = Unit {0}

abbrev pub page_limit : ℕ → Rule ℕ
page_limit m = record { next = lines_after; allowed = RoomFor m }
