use Rattle.text.specs.Report.{cause_name}
use Rattle.text.proofs.put_stray.Goals as goal

pub returns-in-BelowBase : goal.returns-in-BelowBase
unfolding cause_name
returns-in-BelowBase c =
    (rw c.in-BelowBase.is c.put_line.ensures.0, c.put_line.ensures.1)

pub returns-in-OverLimit : goal.returns-in-OverLimit
unfolding cause_name
returns-in-OverLimit c =
    (rw c.in-OverLimit.is c.put_line-in-OverLimit.ensures.0, c.put_line-in-OverLimit.ensures.1)

pub returns-in-BeyondMemory : goal.returns-in-BeyondMemory
unfolding cause_name
returns-in-BeyondMemory c =
    (rw c.in-BeyondMemory.is c.put_line-in-BeyondMemory.ensures.0, c.put_line-in-BeyondMemory.ensures.1)
