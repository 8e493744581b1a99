-- PAGENUM when a run ended.
use Rattle.std.specs.Prelude.{◌≡◌, List, ◌++◌, ℕ, suc, ◌+◌, ◌<◌, Some}
use Rattle.lines.specs.declared.command.Line.TheVariants.{Text}
use Rattle.lines.specs.Readers.Command.{parse_line}
use Rattle.template.specs.declared.Extent.{Extent}
use Rattle.meaning.specs.Answer.{Answer}
use Rattle.meaning.specs.Event.{Event, breaks}
use Rattle.meaning.specs.Tree.{Cause, refused, End, finished, halted, run}
use Rattle.meaning.specs.declared.question.Question.{Question}
use Rattle.meaning.specs.declared.refusal.Refusal.{Refusal}
use Rattle.meaning.specs.declared.refusal.Refusal.TheVariants.{TooManyLines}
use Rattle.pages.specs.Inner.Listing.{turned_page}
use Rattle.control.specs.State.{State}
use Rattle.report.specs.Report.{start_of, run_meaning}
use Rattle.report.specs.Inner.Stretch.{stretch}
use Rattle.demands.specs.Due.{bytes_due}

-- "pages (PAGENUM at the end)" of a run that ended with e
pub data LastPage (source : Question → Answer) (t : List ℕ) (r : Extent) (places room pages : ℕ) (e : End Refusal ℕ State) : Type 0 where
  -- it finished: PAGENUM of its last state
  finally : (s : State) → e ≡ finished s → pages ≡ s.page.number → LastPage source t r places room pages e
  -- 7: "50,000 lines were executed and another is due, which is named.": PAGENUM of the state behind them
  lines_used_up : (s : State) → e ≡ halted (refused TooManyLines) s.position.line → (run source places room (stretch 50000 t r.until (start_of r))).end ≡ finished s → s.position.at < r.until
      → (run source places room (run_meaning t r)).events ≡ (run source places room (stretch 50000 t r.until (start_of r))).events → pages ≡ s.page.number → LastPage source t r places room pages e
  -- it was refused or cut off in the line behind k lines, before that line had printed anything; "A refused step prints nothing and
  -- leaves the page.": PAGENUM of the state behind the k
  nothing_printed : (c : Cause Refusal) (l k : ℕ) (s : State) → e ≡ halted c l → (run source places room (stretch k t r.until (start_of r))).end ≡ finished s
      → (run source places room (stretch (suc k) t r.until (start_of r))).end ≡ halted c l → (run source places room (run_meaning t r)).events ≡ (run source places room (stretch k t r.until (start_of r))).events
      → pages ≡ s.page.number → LastPage source t r places room pages e
  -- it was refused or cut off in the text line behind k lines, behind the line's break if one was due: PAGENUM of the page on which its
  -- headings and the line itself are worked out
  in_text_line : (c : Cause Refusal) (l k : ℕ) (s : State) → e ≡ halted c l → (run source places room (stretch k t r.until (start_of r))).end ≡ finished s
      → (run source places room (stretch (suc k) t r.until (start_of r))).end ≡ halted c l → parse_line (bytes_due t s) ≡ Some Text
      → (own : List Event) → (run source places room (run_meaning t r)).events ≡ (run source places room (stretch k t r.until (start_of r))).events ++ own
      → (turned_page s.page).number ≡ s.page.number + breaks own → pages ≡ (turned_page s.page).number → LastPage source t r places room pages e
