use Rattle.std.proofs.Common.{ap}
use Rattle.numbers.specs.Left.{after_start}
use Rattle.export.proofs.pulxarrid_start.Goals as goal

pub returns-in-Ok : goal.returns-in-Ok
returns-in-Ok c = ap after_start (rw c.in-Ok.is at c.start.ensures)

pub returns-in-Err : goal.returns-in-Err
returns-in-Err c = rw c.into.ensures (ap after_start (rw c.in-Err.is at c.start.ensures))
