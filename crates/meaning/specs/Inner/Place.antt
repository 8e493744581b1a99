-- The lent buffers of a run with how far they are filled, and what a call did to them.
use Rattle.std.specs.Prelude.{◌≡◌, List, ℕ, ◌+◌, ◌-◌, ◌≤◌, length}
use Rattle.std.proofs.lemmas.List.Edits.{sets}
use Rattle.meaning.specs.Event.{breaks}
use Rattle.meaning.specs.Tree.{Tree, End, Run, run, text_of}

-- text is filled up to printed, log up to asked; places is how many questions there may be in all, which the log's length
-- need not say; pages is PAGENUM.
pub record Place (Q : Type 0) : Type 0 where
  pub text : List ℕ
  pub printed : ℕ
  pub log : List Q
  pub asked : ℕ
  pub places : ℕ
  pub pages : ℕ

-- A place by its six parts.
abbrev pub at : {Q : Type 0} → List ℕ → ℕ → List Q → ℕ → ℕ → ℕ → Place Q
at text printed log asked places pages = record { text = text; printed = printed; log = log; asked = asked; places = places; pages = pages }

-- Neither buffer is filled past its end.
pub record Fits {Q : Type 0} (P : Place Q) : Type 0 where
  pub room : P.printed ≤ length P.text
  pub left : P.asked ≤ P.places

-- From P to P', ending in e: what the run x printed and asked stands behind what was there, the rest of each buffer is
-- untouched, and its breaks are counted.
pub record Did {Q E L A : Type 0} (x : Run Q E L A) (P P' : Place Q) (e : End E L A) : Type 0 where
  pub end : e ≡ x.end
  pub text : P'.text ≡ sets P.text P.printed (text_of x)
  pub printed : P'.printed ≡ P.printed + length (text_of x)
  pub log : P'.log ≡ sets P.log P.asked x.asked
  pub asked : P'.asked ≡ P.asked + length x.asked
  pub places : P'.places ≡ P.places
  pub pages : P'.pages ≡ P.pages + breaks x.events

abbrev pub places_left : {Q : Type 0} → Place Q → ℕ
places_left P = P.places - P.asked

abbrev pub room_left : {Q : Type 0} → Place Q → ℕ
room_left P = length P.text - P.printed

-- The run of a tree in what P has left.
abbrev pub from : {Q R E L A : Type 0} → (Q → R) → Place Q → Tree Q R E L A → Run Q E L A
from source P t = run source (places_left P) (room_left P) t

-- What the contract of a function says: the tree t, run from P, led to P' and ended in e.
pub record Does {Q R E L A : Type 0} (source : Q → R) (t : Tree Q R E L A) (P P' : Place Q) (e : End E L A) : Type 0 where
  pub did : Did (from source P t) P P' e
