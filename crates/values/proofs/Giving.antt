-- What trees that only ask give, whatever the answers are: arguments, and what $REC and $TBL fetch, print nothing.
use mathlib.Core.Path.{◌≡◌, refl, sym, subst}
use mathlib.Core.Bool.{Bool, true, false, cond}
use mathlib.Core.List.{List, [], ◌∷◌}
use Prim.Native.Nat.{ℕ, ◌+◌}
use lib.Dec.{leb}
use lib.IntN.{ℤ, pos, negsuc}
use Rattle.meaning.specs.Answer.{Answer}
use Rattle.meaning.specs.Tree.{done, stop, ask, print, bind, finished}
use Rattle.meaning.specs.Meaning.{Meaning, asks_each}
use Rattle.meaning.specs.Inner.Place.{Place, Does, places_left, room_left, from}
use Rattle.meaning.specs.Rule.{Rule, state_after, Keeps, AtEnd}
use Rattle.meaning.specs.declared.question.Question.{Question}
use Rattle.meaning.specs.declared.refusal.Refusal.{Refusal}
use Rattle.meaning.specs.declared.refusal.Refusal.TheVariants.{BadIndex}
use Rattle.meaning.proofs.Keeping.{keeps_end}
use Rattle.arguments.specs.declared.argument.Argument.{Argument}
use Rattle.arguments.specs.declared.index.Index.{Index}
use Rattle.arguments.specs.declared.index.Index.TheVariants.{Fixed}
use Rattle.arguments.specs.declared.operand.Operand.{Operand}
use Rattle.arguments.specs.declared.operand.Operand.TheVariants.{NumberLiteral, StringLiteral, IntegerVariable, DecimalVariable, StringVariable, PageNumber, LineNumber, LoopCounter, RecordElement, EntryElement, Parameter, Record, Entry}
use Rattle.values.specs.declared.fetch.Along.{Along}
use Rattle.values.specs.Machine.{Machine}
use Rattle.values.specs.Indexes.{index_number, limited, index_value}
use Rattle.values.specs.Asking.{asks, cell_meaning}
use Rattle.values.specs.Fetching.{first_along, count_value, asks_elements, element_question, element_questions, fetch_meaning}
use Rattle.values.specs.Worth.{answered, filtered, question_kind}
use Rattle.values.specs.Meanings.{worth_of, operand_meaning, argument_meaning}

-- The tree prints nothing, and where it is done with a, Φ a holds.
abbrev pub Gives : {A : Type 0} → Meaning A → (A → Type 0) → Type 0
Gives (done a) Φ = Φ a
Gives (stop e l) Φ = Unit {0}
Gives (ask q l k) Φ = (r : Answer) → Gives (k r) Φ
Gives (print v l t) Φ = ⊥

abbrev pub Anything : {A : Type 0} → A → Type 0
Anything a = Unit {0}

module _ {A : Type 0} where
  pub gives_bind : {B : Type 0} (t : Meaning A) (f : A → Meaning B) (Φ : A → Type 0) (Ψ : B → Type 0) → Gives t Φ → ((a : A) → Φ a → Gives (f a) Ψ) → Gives (bind t f) Ψ
  gives_bind (done a) f Φ Ψ h g = g a h
  gives_bind (stop e l) f Φ Ψ h g = tt
  gives_bind (ask q l k) f Φ Ψ h g = λ r. gives_bind (k r) f Φ Ψ (h r) g
  gives_bind (print v l t) f Φ Ψ h g = absurd h

  -- Such a tree keeps every rule on what is printed, and its state.
  pub gives_keeps : {S : Type 0} (rule : Rule S) (t : Meaning A) (s : S) (Φ : A → Type 0) → Gives t Φ → Keeps rule t s (λ a s'. Φ a × (s' ≡ s))
  gives_keeps rule (done a) s Φ h = (h, refl)
  gives_keeps rule (stop e l) s Φ h = tt
  gives_keeps rule (ask q l k) s Φ h = λ r. gives_keeps rule (k r) s Φ (h r)
  gives_keeps rule (print v l t) s Φ h = absurd h

-- Where a call led such a tree to a, Φ a holds.
pub gives_does : {A : Type 0} (source : Question → Answer) (t : Meaning A) (P P' : Place Question) (a : A) (Φ : A → Type 0) → Gives t Φ → Does source t P P' (finished a) → Φ a
gives_does {A} source t P P' a Φ h d =
    (subst (λ e. AtEnd (λ x s. Φ x × (s ≡ 0)) e (state_after nothing 0 (from source P t).events)) (sym d.did.end) (keeps_end nothing source (places_left P) (room_left P) t 0 (λ x s. Φ x × (s ≡ 0)) (gives_keeps nothing t 0 Φ h))).0
  where
    nothing : Rule ℕ
    nothing = record { next = λ s v. s; allowed = λ s v. ⊥ }

-- ---- arguments

stops_or : {A : Type 0} (b : Bool) (t : Meaning A) (e : Refusal) (line : ℕ) (Φ : A → Type 0) → Gives t Φ → Gives (cond b t (stop e line)) Φ
stops_or true t e line Φ h = h
stops_or false t e line Φ h = tt

limited_gives : (line : ℕ) (z : ℤ) → Gives (limited line z) Anything
unfolding limited
limited_gives line (negsuc k) = tt
limited_gives line (pos k) = stops_or (leb k 999) (done k) BadIndex line Anything tt

index_gives : (m : Machine) (line : ℕ) (i : Index) → Gives (index_value m line i) Anything
unfolding index_value
index_gives m line i = limited_gives line (index_number m.variables.integers m.counter i)

cell_gives : (m : Machine) (line kind p : ℕ) (i j : Index) → Gives (worth_of (cell_meaning m line kind p i j)) Anything
unfolding worth_of cell_meaning asks
cell_gives m line kind p i j =
    gives_bind (cell_meaning m line kind p i j) (λ a. done (answered a)) Anything Anything
    (gives_bind (index_value m line i) _ Anything Anything (index_gives m line i) (λ r h. gives_bind (index_value m line j) _ Anything Anything (index_gives m line j) (λ e k a. tt)))
    (λ a h. tt)

operand_gives : (m : Machine) (s : List ℕ) (line kind : ℕ) (o : Operand) → Gives (operand_meaning m s line kind o) Anything
unfolding operand_meaning
operand_gives m s line kind (NumberLiteral q) = tt
operand_gives m s line kind (StringLiteral a e) = tt
operand_gives m s line kind (IntegerVariable n) = tt
operand_gives m s line kind (DecimalVariable n) = tt
operand_gives m s line kind (StringVariable n) = tt
operand_gives m s line kind PageNumber = tt
operand_gives m s line kind LineNumber = tt
operand_gives m s line kind LoopCounter = tt
operand_gives m s line kind (RecordElement n) = tt
operand_gives m s line kind (EntryElement n) = tt
operand_gives m s line kind (Parameter p) = cell_gives m line kind p (Fixed 0) (Fixed 0)
operand_gives m s line kind (Record p r) = cell_gives m line kind p r (Fixed 0)
operand_gives m s line kind (Entry p r e) = cell_gives m line kind p r e

pub argument_gives : (m : Machine) (s : List ℕ) (line : ℕ) (a : Argument) → Gives (argument_meaning m s line a) Anything
unfolding argument_meaning
argument_gives m s line a =
    gives_bind (operand_meaning m s line (question_kind a.filter) a.operand) (λ w. done (filtered a.filter w)) Anything Anything (operand_gives m s line (question_kind a.filter) a.operand) (λ w h. tt)

-- ---- $REC and $TBL

each_gives : (line : ℕ) (qs : List Question) → Gives (asks_each line qs) Anything
unfolding asks_each
each_gives line [] = tt
each_gives line (q ∷ qs) = λ r. gives_bind (asks_each line qs) (λ rest. done (r ∷ rest)) Anything Anything (each_gives line qs) (λ l h. tt)

count_gives : (line : ℕ) (z : ℤ) → Gives (count_value line z) Anything
unfolding count_value
count_gives line (pos n) = stops_or (leb n 64) (done n) BadIndex line Anything tt
count_gives line (negsuc n) = tt

pub fetch_gives : (m : Machine) (line : ℕ) (along : Along) (p : ℕ) (i j c : Index) → Gives (fetch_meaning m line along p i j c) Anything
unfolding fetch_meaning asks_elements
fetch_gives m line along p i j c =
    gives_bind (index_value m line i) _ Anything Anything (index_gives m line i) (λ r h.
    gives_bind (index_value m line j) _ Anything Anything (index_gives m line j) (λ e k.
    gives_bind (count_value line (index_number m.variables.integers m.counter c)) _ Anything Anything (count_gives line (index_number m.variables.integers m.counter c)) (λ n l.
    stops_or (leb (first_along along r e + n) 1000) (asks_each line (element_questions (element_question m.datasource along p r e) 0 n)) BadIndex line Anything (each_gives line _))))
