use Rattle.text.specs.Report.{stop_line}
use Rattle.text.proofs.put_stop.Goals as goal

pub returns-in-Ok : goal.returns-in-Ok
returns-in-Ok c = (rw c.in-Ok.is c.put_ending.ensures.0, c.put_ending.ensures.1)

pub returns-in-Err : goal.returns-in-Err
unfolding stop_line
returns-in-Err c = (rw c.in-Err.is c.put_text.ensures.0, c.put_text.ensures.1)
