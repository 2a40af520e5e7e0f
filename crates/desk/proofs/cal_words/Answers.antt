use Rattle.desk.specs.Desk.{sheet_words, cal_words_of}
use Rattle.desk.proofs.Texts.{answer-some, answer-refusal}
use Rattle.desk.proofs.cal_words.Goals as goal

pub returns-in-Ok-clause-wrote : goal.returns-in-Ok-clause-wrote
unfolding cal_words_of
returns-in-Ok-clause-wrote c = (answer-some (sheet_words _) c.in-Ok.ensures.gives.0 c.put_sheet.ensures.0, c.in-Ok.ensures.parcels_after)

pub returns-in-Err-clause-wrote : goal.returns-in-Err-clause-wrote
unfolding cal_words_of
returns-in-Err-clause-wrote c = (answer-refusal (sheet_words _) c.in-Err.ensures.gives c.put_error.ensures.0, c.in-Err.ensures.parcels_after)
