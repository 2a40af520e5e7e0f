use Rattle.turns.proofs.run.ending_after.Goals as goal

pub returns-in-NotHeld : goal.returns-in-NotHeld
returns-in-NotHeld c = cc

pub returns-in-MonitorFetch : goal.returns-in-MonitorFetch
returns-in-MonitorFetch c = cc
