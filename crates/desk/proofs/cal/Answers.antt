use Rattle.octal.specs.Lines.{parcels_text}
use Rattle.desk.specs.Desk.{cal_of}
use Rattle.desk.proofs.Texts.{answer-some, answer-refusal}
use Rattle.desk.proofs.cal.Goals as goal

pub returns-in-Ok-clause-wrote : goal.returns-in-Ok-clause-wrote
unfolding cal_of
returns-in-Ok-clause-wrote c = (answer-some parcels_text c.in-Ok.ensures.gives.0 c.put_parcels.ensures.wrote, c.in-Ok.ensures.parcels_after)

pub returns-in-Err-clause-wrote : goal.returns-in-Err-clause-wrote
unfolding cal_of
returns-in-Err-clause-wrote c = (answer-refusal parcels_text c.in-Err.ensures.gives c.put_error.ensures.0, c.in-Err.ensures.parcels_after)
