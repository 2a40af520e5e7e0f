use mathlib.Core.Path.{refl}
use Rattle.machine.specs.Codes.{code_of, code001, code002}
use Rattle.spelling.specs.Spelling.{passing, spelling, words_of}
use Rattle.spelling.specs.Rows.{row_words, form_at, form_table, operands_in, code_at, operand_table}
use Rattle.spelling.proofs.Table.{same, same-eq}
use Rattle.line.specs.Joined.{codes_of}
use Rattle.line.proofs.Tables.new.Goals as goal

pub invariant_of-result-clause-are_forms : goal.invariant_of-result-clause-are_forms
unfolding same code_of code001 code002 passing spelling words_of row_words form_at form_table
invariant_of-result-clause-are_forms c = same-eq _ form_table refl

pub invariant_of-result-clause-are_operands : goal.invariant_of-result-clause-are_operands
unfolding same code_of code001 code002 passing spelling words_of row_words operands_in code_at operand_table codes_of
invariant_of-result-clause-are_operands c = same-eq _ operand_table refl
