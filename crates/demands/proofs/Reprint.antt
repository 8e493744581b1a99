-- Demand 3, whole, of the calls: a report, any list of puts and removes, the report again.
use mathlib.Core.Path.{◌≡◌, refl, sym, ap, ◌∙◌, subst}
use mathlib.Core.List.{List, [], ◌∷◌}
use Prim.Native.Nat.{ℕ, ◌≤◌}
use lib.ListN.{length}
use Rattle.meaning.specs.Each.{Each}
use Rattle.meaning.specs.declared.question.Question.{Question}
use Rattle.history.specs.LentStore as history
use Rattle.history.specs.LentStore.{LentStore}
use Rattle.history.specs.History.{after_changes}
use Rattle.report.specs.declared.Report.{Report}
use Rattle.report.specs.Report.{Outcome, report_of}
use Rattle.report.specs.Reported.{Reported}
use Rattle.report.proofs.Pages.{pages_hold_60, pages_reported}
use Rattle.report.proofs.Reprint.{SameReport, report_fits, printed_is, reprinted}
use Rattle.output.proofs.Reports.{text_is_lines}
use Rattle.demands.specs.Calls.{ReportCall, questions_asked, EditCall, InTurn, last_handed, AnsweredAsBefore}
use Rattle.demands.specs.Sheet.{PrintedSheet, Reprinted}
use Rattle.demands.proofs.Answering.{answer_meant}
use Rattle.demands.proofs.Refused.{early_is_nothing}
use Rattle.demands.proofs.Editing.{changes, after_calls}

-- Whatever the template, the section, the store and the buffers, a report prints a sheet.
pub prints_a_sheet : (t name : List ℕ) (m : LentStore) (x : ReportCall t name m) → PrintedSheet t name m x
prints_a_sheet t name m x = record {
  events = o.events;
  ran = refl;
  joins = printed_is o x.text x.reads x.text_after x.reads_after x.returned x.contract (report_fits t name m.buffer m.length (length x.reads) (length x.text));
  proper = text_is_lines t name m.buffer m.length (length x.reads) (length x.text);
  sixty = pages_hold_60 t name m.buffer m.length (length x.reads) (length x.text);
  page_count = rw x.contract.result (pages_reported t name m.buffer m.length (length x.reads) (length x.text));
  none = λ a b. let e = early_is_nothing t name m.buffer m.length (length x.reads) (length x.text) (subst (λ (n : ℕ). 1 ≤ n) number_is a) (subst (λ (n : ℕ). n ≤ 6) number_is b) in (ap (λ (r : Report). r.pages) x.contract.result ∙ e.pages, e.events);
}
  where
    o : Outcome
    o = report_of t name m.buffer m.length (length x.reads) (length x.text)

    number_is : x.returned.number ≡ o.number
    number_is = ap (λ (r : Report). r.number) x.contract.result

-- answers by ask are those of the store
as_before : (m m' : LentStore) (qs : List Question) → Each (AnsweredAsBefore m m') qs → history.AsBefore m m' qs
as_before m m' [] h = tt
as_before m m' (q ∷ qs) h =
    (sym (answer_meant m'.buffer m'.length q) ∙ h.0 ∙ answer_meant m.buffer m.length q, as_before m m' qs h.1)

-- "Demand 3 is one claim about the whole list of edits, the empty list included, and not one for each edit. The list starts from the
-- store, of any bytes, that the first run was handed."; "the first run, every edit and the second run are handed one store in the
-- same buffer, at the length last handed back"; "Both runs are lent text buffers equally long and read lists with equally many
-- places, whatever these held."
pub reprint : (t name : List ℕ) (m : LentStore) (first : ReportCall t name m) (edits : List EditCall) → InTurn m edits
    → (second : ReportCall t name (last_handed m edits)) → length second.text ≡ length first.text → length second.reads ≡ length first.reads
    → Each (AnsweredAsBefore m (last_handed m edits)) (questions_asked first.reads_after first.returned)
    → Reprinted t name m (last_handed m edits) first second
reprint t name m first edits h second e_t e_r b = record {
  returned = same.result;
  text = same.text;
  reads = same.reads;
  first_sheet = prints_a_sheet t name m first;
  second_sheet = prints_a_sheet t name (last_handed m edits) second;
}
  where
    after_edits : after_changes (changes edits) m ≡ last_handed m edits
    after_edits = after_calls m edits h

    same : SameReport first.text_after first.reads_after first.returned second.text_after second.reads_after second.returned
    same =
        reprinted t name (changes edits) m first.text first.reads first.text_after first.reads_after first.returned first.contract
        (subst (λ (n : LentStore). history.AsBefore m n (questions_asked first.reads_after first.returned)) (sym after_edits) (as_before m (last_handed m edits) (questions_asked first.reads_after first.returned) b))
        second.text second.reads second.text_after second.reads_after second.returned e_t e_r
        (subst (λ (n : LentStore). Reported t name n.buffer n.length second.text second.reads second.text_after second.reads_after second.returned) (sym after_edits) second.contract)
