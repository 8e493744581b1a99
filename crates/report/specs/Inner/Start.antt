-- What a run starts from, a call that is refused, and what a stretch hands back.
use Rattle.std.specs.Prelude.{true, false, List, ℕ, ◌+◌, pos, replicate, Result}
use Rattle.template.specs.declared.Extent.{Extent}
use Rattle.meaning.specs.Number.{refusal_number, number_of, line_named, ended_in}
use Rattle.meaning.specs.declared.refusal.Refusal.{Refusal}
use Rattle.pages.specs.Page.{new_page}
use Rattle.control.specs.declared.state.Flow.{Flow}
use Rattle.report.specs.declared.state.Batch.{Batch}
use Rattle.report.specs.declared.state.Saved.{Saved}
use Rattle.report.specs.declared.state.Stretch.{Stretch}
use Rattle.report.specs.declared.Report.{Report}
use Rattle.meaning.specs.declared.end.Stop.{Stop}

unfoldable pub no_log : Batch
no_log = record { at = 0; n = 0; words = replicate 512 0 }

-- the first line of the run, no table open
unfoldable pub start_flow : Extent → Flow
start_flow r =
    record {
      at = r.start;
      line = r.line;
      datasource = 1;
      feeds = true;
      page = new_page;
      depth = 0;
    }

-- nothing printed, nothing asked, every variable blank
unfoldable pub start_saved : Extent → ℕ → ℕ → ℕ → Saved
start_saved r len count places =
    record {
      flow = start_flow r;
      left = 50000;
      end = r.until;
      len = len;
      count = count;
      printed = 0;
      asked = 0;
      places = places;
      numbers = replicate 198 (pos 0);
      words = replicate 212 0;
    }

abbrev pub empty_report : ℕ → ℕ → Report
empty_report number line = record { number = number; line = line; pages = 0; bytes = 0; questions = 0 }

-- where there is no next stretch
unfoldable pub nothing_saved : Saved
nothing_saved = start_saved (record { start = 0; line = 0; until = 0 }) 0 0 0

unfoldable pub refused_at : Refusal → ℕ → Stretch
refused_at e line = record { more = false; log = no_log; report = empty_report (refusal_number e) line; saved = nothing_saved }

unfoldable pub started_at : Extent → ℕ → ℕ → ℕ → Stretch
started_at r len count places = record { more = true; log = no_log; report = empty_report 0 0; saved = start_saved r len count places }

-- "pages (PAGENUM at the end)"; the questions stand on the read list from a place on
unfoldable pub over_at : Result (Unit {0}) Stop → ℕ → ℕ → ℕ → List ℕ → ℕ → Stretch
over_at e page printed at words n =
    record {
      more = false;
      log = record { at = at; n = n; words = words };
      report =
          record {
            number = number_of (ended_in (λ x. x) e);
            line = line_named (ended_in (λ x. x) e);
            pages = page;
            bytes = printed;
            questions = at + n;
          };
      saved = nothing_saved;
    }

-- v is where the run goes on
unfoldable pub full_at : ℕ → List ℕ → ℕ → Saved → Stretch
full_at at words n v = record { more = true; log = record { at = at; n = n; words = words }; report = empty_report 0 0; saved = v }
