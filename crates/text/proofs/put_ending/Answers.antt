use Rattle.text.specs.Report.{stop_line}
use Rattle.text.proofs.put_ending.Goals as goal

pub returns-in-Budget : goal.returns-in-Budget
unfolding stop_line
returns-in-Budget c = (rw c.in-Budget.is c.put_text.ensures.0, c.put_text.ensures.1)

pub returns-in-NotHeld : goal.returns-in-NotHeld
unfolding stop_line
returns-in-NotHeld c = (rw c.in-NotHeld.is c.put_text-in-NotHeld.ensures.0, c.put_text-in-NotHeld.ensures.1)

pub returns-in-MonitorFetch : goal.returns-in-MonitorFetch
unfolding stop_line
returns-in-MonitorFetch c = (rw c.in-MonitorFetch.is c.put_text-in-MonitorFetch.ensures.0, c.put_text-in-MonitorFetch.ensures.1)
