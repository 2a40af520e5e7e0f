use Rattle.turns.proofs.Steps.{some_after}
use Rattle.turns.proofs.last_after.Goals as goal

pub returns-else-n-eq0 : goal.returns-else-n-eq0
returns-else-n-eq0 c = some_after _ c.if-n-eq0.false
