-- Each form by its law.
use mathlib.Core.Path.{refl, ap, ◌∙◌}
use native.Mathlib.Omega.{arith}
use Rattle.values.specs.Inner.State.{bank}
use Rattle.values.proofs.Clearing.{zeros_behind}
use Rattle.control.specs.Line.{form_meaning}
use Rattle.control.specs.Inner.Forms.{form_with}
use Rattle.control.proofs.Commanding.{jump_executes}
use Rattle.control.proofs.Remembering.{remembered_same}
use Rattle.executed_line.proofs.Performing.{jumpable, section_ready, set_ready, records_ready, entries_ready, heading_small, begin_ready, begun_ready, end_ready, turn_ready, step_ready, went_line, else_line, no_form_feed_line, datasource_line, text_line, heading_line, no_heading_line, records_line, entries_line, section_line, set_line, if_zero_line, if_non_zero_line, compare_line, begin_line, end_line, new_page_line}
use mir.Syntax.{w64}
use mir.Val.{SFits}
use mir.ValLaws.{to_z-of_z}
use borrow.Author.Rules.{rules}
use Rattle.executed_line.proofs.execute.execute.Goals as goal

pub step-requires : goal.step-requires
step-requires c = step_ready c.requires c.in-Text.is

pub section_line-requires : goal.section_line-requires
section_line-requires c = section_ready c.requires

pub assigned-verdict-requires : goal.assigned-verdict-requires
assigned-verdict-requires c = set_ready c.requires

pub branched-requires : goal.branched-requires
branched-requires c = jumpable c.requires

pub branched-requires-in-If : goal.branched-requires-in-If
branched-requires-in-If c = jumpable c.requires

pub branched-requires-in-Compare : goal.branched-requires-in-Compare
branched-requires-in-Compare c = jumpable c.requires

pub jumped-requires : goal.jumped-requires
jumped-requires c = jumpable c.requires

pub begin_table-judged-requires : goal.begin_table-judged-requires
begin_table-judged-requires c = begin_ready c.requires _ c.in-BeginTable.is

pub begun-requires : goal.begun-requires
begun-requires c = begun_ready c.requires _ c.in-BeginTable.is c.begin_table-judged.ensures.stays

pub end_table-judged-requires : goal.end_table-judged-requires
end_table-judged-requires c = end_ready c.requires

pub fetch-v-requires : goal.fetch-v-requires
fetch-v-requires c = records_ready c.requires _ c.in-Records.is

pub fetch-v-requires-in-Entries : goal.fetch-v-requires-in-Entries
fetch-v-requires-in-Entries c = entries_ready c.requires _ c.in-Entries.is

pub page_for-requires : goal.page_for-requires
page_for-requires c = turn_ready c.requires

pub heading_line-requires : goal.heading_line-requires
heading_line-requires c = heading_small c.requires _ _ c.in-Heading.is

pub returns-in-Text : goal.returns-in-Text
returns-in-Text c = record { executes = text_line c.requires _ _ _ _ _ _ c.in-Text.is c.step.ensures; remembered = c.requires.remembered }

pub returns-in-Section : goal.returns-in-Section
returns-in-Section c = record { executes = section_line c.requires _ _ _ _ _ _ c.in-Section.is c.section_line.ensures; remembered = remembered_same (ap (bank 148 64) c.section_line.ensures.words_zero ∙ zeros_behind 0 _ 128 148 64 (omega arith)) c.requires.remembered }

pub returns-in-Set : goal.returns-in-Set
returns-in-Set c = record { executes = set_line c.requires _ _ _ _ _ _ _ _ c.in-Set.is c.assigned-verdict.ensures c.settled.ensures; remembered = remembered_same (c.assigned-verdict.ensures.above 148 64 (omega arith)) c.requires.remembered }

pub returns-in-IfNot : goal.returns-in-IfNot
returns-in-IfNot c = record { executes = jump_executes c.branched.ensures.1 (if_zero_line c.requires _ _ _ _ _ _ c.in-IfNot.is c.if_zero-judged.ensures c.branched.ensures.0); remembered = c.branched.ensures.1.right }

pub returns-in-If : goal.returns-in-If
returns-in-If c = record { executes = jump_executes c.branched-in-If.ensures.1 (if_non_zero_line c.requires _ _ _ _ _ _ c.in-If.is c.if_zero-judged-in-If.ensures c.branched-in-If.ensures.0); remembered = c.branched-in-If.ensures.1.right }

pub returns-in-Compare : goal.returns-in-Compare
returns-in-Compare c = record { executes = jump_executes c.branched-in-Compare.ensures.1 (compare_line c.requires _ _ _ _ c.compare-judged.result _ _ _ c.in-Compare.is c.compare-judged.ensures c.branched-in-Compare.ensures.0); remembered = c.branched-in-Compare.ensures.1.right }

pub returns-in-Else : goal.returns-in-Else
returns-in-Else c = record { executes = jump_executes c.jumped.ensures.1 (else_line c.requires _ _ c.in-Else.is c.jumped.ensures.0); remembered = c.jumped.ensures.1.right }

pub returns-in-BeginTable : goal.returns-in-BeginTable
returns-in-BeginTable c = record { executes = jump_executes c.begun.ensures.1 (begin_line c.requires _ _ _ _ _ _ _ _ c.in-BeginTable.is c.integer_of-n.ensures c.begin_table-judged.ensures c.begun.ensures.0); remembered = c.begun.ensures.1.right }

pub returns-in-EndTable : goal.returns-in-EndTable
returns-in-EndTable c = record { executes = end_line c.requires _ _ _ _ _ _ _ _ c.in-EndTable.is c.integer_or-k.ensures c.end_table-judged.ensures c.ended.ensures; remembered = remembered_same (c.end_table-judged.ensures.stays.above 148 64 (omega arith)) c.requires.remembered }

pub returns-in-Records : goal.returns-in-Records
returns-in-Records c = record { executes = records_line c.requires _ _ _ _ _ _ c.in-Records.is c.fetch-v.ensures c.fetched.ensures; remembered = remembered_same (c.fetched.ensures.above 148 64 (omega arith)) c.requires.remembered }

pub returns-in-Entries : goal.returns-in-Entries
returns-in-Entries c = record { executes = entries_line c.requires _ _ _ _ _ _ c.in-Entries.is c.fetch-v-in-Entries.ensures c.fetched-in-Entries.ensures; remembered = remembered_same (c.fetched-in-Entries.ensures.above 148 64 (omega arith)) c.requires.remembered }

pub returns-in-Datasource : goal.returns-in-Datasource
returns-in-Datasource c = let f : SFits w64 c.args.line.scene.turn = search rules in record { executes = datasource_line c.requires _ _ _ _ _ _ c.in-Datasource.is (to_z-of_z w64 c.args.line.scene.turn f) c.index_place-place.ensures c.selected.ensures; remembered = c.requires.remembered }

pub returns-in-NoFormFeed : goal.returns-in-NoFormFeed
returns-in-NoFormFeed c = record { executes = no_form_feed_line c.requires _ c.in-NoFormFeed.is; remembered = c.requires.remembered }

pub returns-in-NewPage : goal.returns-in-NewPage
returns-in-NewPage c = record { executes = new_page_line c.requires _ _ _ _ _ _ _ _ c.in-NewPage.is c.integer_or-n.ensures c.page_for.ensures; remembered = c.requires.remembered }

pub returns-in-Heading : goal.returns-in-Heading
returns-in-Heading c = record { executes = heading_line c.requires _ _ _ _ c.in-Heading.is c.heading_line.ensures; remembered = remembered_same (c.heading_line.ensures.above 148 64 (omega arith)) c.requires.remembered }

pub returns-in-NoHeading : goal.returns-in-NoHeading
returns-in-NoHeading c = record { executes = no_heading_line c.requires _ _ _ c.in-NoHeading.is c.no_heading_line.ensures; remembered = remembered_same (c.no_heading_line.ensures.above 148 64 (omega arith)) c.requires.remembered }

pub returns-in-EndIf : goal.returns-in-EndIf
unfolding form_with form_meaning
returns-in-EndIf c = record { executes = went_line c.requires _ _ c.in-EndIf.is refl; remembered = c.requires.remembered }

pub returns-in-Remark : goal.returns-in-Remark
unfolding form_with form_meaning
returns-in-Remark c = record { executes = went_line c.requires _ _ c.in-Remark.is refl; remembered = c.requires.remembered }
