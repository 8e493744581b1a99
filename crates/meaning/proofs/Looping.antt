-- Where a loop stands in a whole: what the rest does from here, the whole does from the start.
use mathlib.Core.Path.{◌≡◌, refl, ◌∙◌}
use lib.ListN.{length}
use Rattle.meaning.specs.Tree.{Tree, done, bind, Cause, End, finished, halted}
use Rattle.meaning.specs.Inner.Place.{Place, Fits, Does}
use Rattle.meaning.proofs.Doing.{text_kept, log_kept, fits_kept, then_does, then_over, does_done}

-- From P on, t is what is left of the whole, which started at P₀.
pub record Leads {Q R E L A : Type 0} (source : Q → R) (whole : Tree Q R E L A) (P₀ : Place Q) (t : Tree Q R E L A) (P : Place Q) : Type 0 where
  pub leads : (P' : Place Q) (e : End E L A) → Does source t P P' e → Does source whole P₀ P' e

-- At the start all is left.
pub leads_start : {Q R E L A : Type 0} (source : Q → R) (t : Tree Q R E L A) (P : Place Q) → Leads source t P t P
leads_start source t P = record { leads = λ P' e d. d }

module _ {Q R E L A B : Type 0} {source : Q → R} {whole : Tree Q R E L B} {P₀ P P' : Place Q} (t : Tree Q R E L A) (f : A → Tree Q R E L B) (at : Leads source whole P₀ (bind t f) P) where
  -- A call that finished leaves what follows.
  pub leads_next : {a : A} → Does source t P P' (finished a) → Leads source whole P₀ (f a) P'
  leads_next d = record { leads = λ P'' e d'. at.leads P'' e (then_does f d d') }

  -- A call that ended the run ended the whole.
  pub leads_over : {c : Cause E} {l : L} → Does source t P P' (halted c l) → Does source whole P₀ P' (halted c l)
  leads_over {c} {l} d = at.leads P' (halted c l) (then_over f d)

-- Where nothing is left, the whole has finished.
pub leads_end : {Q R E L B : Type 0} {source : Q → R} {whole : Tree Q R E L B} {P₀ P : Place Q} {b : B} → Leads source whole P₀ (done b) P → Does source whole P₀ P (finished b)
leads_end {source = source} {P = P} {b = b} at = at.leads P (finished b) (does_done source P b)

-- The same for a loop that touches both buffers: they fit, and are as long as they were.
pub record Reached {Q R E L A : Type 0} (source : Q → R) (whole : Tree Q R E L A) (P₀ : Place Q) (t : Tree Q R E L A) (P : Place Q) : Type 0 where
  pub leads : Leads source whole P₀ t P
  pub fits : Fits P
  pub text_same : length P.text ≡ length P₀.text
  pub log_same : length P.log ≡ length P₀.log

pub reached_start : {Q R E L A : Type 0} (source : Q → R) (t : Tree Q R E L A) (P : Place Q) → Fits P → Reached source t P t P
reached_start source t P h = record { leads = leads_start source t P; fits = h; text_same = refl; log_same = refl }

module _ {Q R E L A B : Type 0} {source : Q → R} {whole : Tree Q R E L B} {P₀ P P' : Place Q} (t : Tree Q R E L A) (f : A → Tree Q R E L B) (at : Reached source whole P₀ (bind t f) P) where
  pub reached_next : {a : A} → Does source t P P' (finished a) → Reached source whole P₀ (f a) P'
  reached_next d = record {
    leads = leads_next t f at.leads d;
    fits = fits_kept d at.fits;
    text_same = text_kept d ∙ at.text_same;
    log_same = log_kept d ∙ at.log_same;
  }

  pub reached_over : {c : Cause E} {l : L} → Does source t P P' (halted c l) → Does source whole P₀ P' (halted c l)
  reached_over d = leads_over t f at.leads d

pub reached_end : {Q R E L B : Type 0} {source : Q → R} {whole : Tree Q R E L B} {P₀ P : Place Q} {b : B} → Reached source whole P₀ (done b) P → Does source whole P₀ P (finished b)
reached_end at = leads_end at.leads
