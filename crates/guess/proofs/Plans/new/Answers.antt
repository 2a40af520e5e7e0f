use mathlib.Core.Path.{refl}
use Rattle.machine.specs.Codes.{code_of, code001, code002}
use Rattle.spelling.specs.Spelling.{passing, spelling, words_of}
use Rattle.spelling.specs.Rows.{row_words}
use Rattle.spelling.specs.Candidate.{place_of, number_place, number_code, plan_of, plan_table}
use Rattle.spelling.proofs.Table.{same, same-eq}
use Rattle.guess.specs.Numbers.{numbers_of}
use Rattle.guess.proofs.Plans.new.Goals as goal

pub invariant_of-result : goal.invariant_of-result
unfolding same code_of code001 code002 passing spelling words_of row_words place_of number_place number_code plan_of plan_table numbers_of
invariant_of-result c = record { are_plans = same-eq _ plan_table refl }
