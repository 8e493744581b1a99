-- One law for each operand.
use Rattle.arguments.specs.Inner.Parameter.{parameter_of}
use Rattle.values.proofs.Operands.{operand_number, operand_text, operand_integer, operand_decimal, operand_string, operand_page, operand_row, operand_loop, operand_record, operand_entry, operand_parameter, operand_in_record, operand_in_entry}
use native.Mathlib.Omega.{arith}
use mir.ValLaws.{to_z-of_z}
use mir.Val.{SFits}
use mir.Syntax.{w64}
use borrow.Author.Rules.{rules}
use Rattle.values.proofs.value.operand_value.Goals as goal

pub overflow_cast-q : goal.overflow_cast-q
unfolding parameter_of
overflow_cast-q c = let h = rw c.in-Parameter.is at c.requires in omega (arith, h.parameter)

pub ask_cell-requires : goal.ask_cell-requires
unfolding parameter_of
ask_cell-requires c = let h = rw c.in-Parameter.is at c.requires in h

pub returns-in-Parameter : goal.returns-in-Parameter
returns-in-Parameter c = operand_parameter _ _ _ _ _ _ _ _ _ _ _ _ c.valued.ensures c.in-Parameter.is c.ask_cell.ensures

pub overflow_cast-q-in-Record : goal.overflow_cast-q-in-Record
unfolding parameter_of
overflow_cast-q-in-Record c = let h = rw c.in-Record.is at c.requires in omega (arith, h.parameter)

pub ask_cell-requires-in-Record : goal.ask_cell-requires-in-Record
unfolding parameter_of
ask_cell-requires-in-Record c = let h = rw c.in-Record.is at c.requires in h

pub returns-in-Record : goal.returns-in-Record
returns-in-Record c = let f : SFits w64 c.args.scene.turn = search rules in operand_in_record _ _ _ _ _ _ _ _ _ _ _ _ c.valued-in-Record.ensures _ _ _ c.in-Record.is (to_z-of_z w64 _ f) c.index_place-r.ensures c.ask_cell-in-Record.ensures

pub overflow_cast-q-in-Entry : goal.overflow_cast-q-in-Entry
unfolding parameter_of
overflow_cast-q-in-Entry c = let h = rw c.in-Entry.is at c.requires in omega (arith, h.parameter)

pub ask_cell-requires-in-Entry : goal.ask_cell-requires-in-Entry
unfolding parameter_of
ask_cell-requires-in-Entry c = let h = rw c.in-Entry.is at c.requires in h

pub returns-in-Entry : goal.returns-in-Entry
returns-in-Entry c = let f : SFits w64 c.args.scene.turn = search rules in operand_in_entry _ _ _ _ _ _ _ _ _ _ _ _ c.valued-in-Entry.ensures _ _ _ _ _ _ c.in-Entry.is (to_z-of_z w64 _ f) (to_z-of_z w64 _ f) c.index_place-r-in-Entry.ensures c.index_place-e.ensures c.ask_cell-in-Entry.ensures

pub returns-in-NumberLiteral : goal.returns-in-NumberLiteral
returns-in-NumberLiteral c = operand_number _ _ _ _ _ _ _ _ _ c.in-NumberLiteral.is

pub returns-in-StringLiteral : goal.returns-in-StringLiteral
returns-in-StringLiteral c = operand_text _ _ _ _ _ _ _ _ _ _ _ c.in-StringLiteral.is c.less-count.ensures

pub returns-in-IntegerVariable : goal.returns-in-IntegerVariable
returns-in-IntegerVariable c = let f : SFits w64 c.integer.result = search rules in operand_integer _ _ _ _ _ _ _ _ _ _ _ c.in-IntegerVariable.is (to_z-of_z w64 _ f) c.integer.ensures

pub returns-in-DecimalVariable : goal.returns-in-DecimalVariable
returns-in-DecimalVariable c = let f : SFits w64 c.decimal.result = search rules in operand_decimal _ _ _ _ _ _ _ _ _ _ _ c.in-DecimalVariable.is (to_z-of_z w64 _ f) c.decimal.ensures

pub returns-in-StringVariable : goal.returns-in-StringVariable
returns-in-StringVariable c = operand_string _ _ _ _ _ _ _ _ _ _ c.in-StringVariable.is c.length-count.ensures

pub returns-in-PageNumber : goal.returns-in-PageNumber
returns-in-PageNumber c = let f : SFits w64 c.signed.result = search rules in operand_page _ _ _ _ _ _ _ _ _ _ c.in-PageNumber.is (to_z-of_z w64 _ f) c.signed.ensures

pub returns-in-LineNumber : goal.returns-in-LineNumber
returns-in-LineNumber c = let f : SFits w64 c.signed-in-LineNumber.result = search rules in operand_row _ _ _ _ _ _ _ _ _ _ c.in-LineNumber.is (to_z-of_z w64 _ f) c.signed-in-LineNumber.ensures

pub returns-in-LoopCounter : goal.returns-in-LoopCounter
returns-in-LoopCounter c = let f : SFits w64 c.args.scene.turn = search rules in operand_loop _ _ _ _ _ _ _ _ _ c.in-LoopCounter.is (to_z-of_z w64 _ f)

pub returns-in-RecordElement : goal.returns-in-RecordElement
returns-in-RecordElement c = let f : SFits w64 c.args.scene.turn = search rules in operand_record _ _ _ _ _ _ _ _ _ _ _ _ _ c.in-RecordElement.is c.record_word-fetched.ensures c.element-answer.ensures (to_z-of_z w64 _ f) c.worth_of-worth.ensures

pub returns-in-EntryElement : goal.returns-in-EntryElement
returns-in-EntryElement c = let f : SFits w64 c.args.scene.turn = search rules in operand_entry _ _ _ _ _ _ _ _ _ _ _ _ _ c.in-EntryElement.is c.entry_word-fetched.ensures c.element-answer-in-EntryElement.ensures (to_z-of_z w64 _ f) c.worth_of-worth-in-EntryElement.ensures
