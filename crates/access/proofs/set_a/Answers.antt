use Rattle.std.proofs.Common.{arith}
use Rattle.access.proofs.Places.{to-a}
use Rattle.access.proofs.set_a.Goals as goal

pub returns : goal.returns
returns c = to-a _ _ _ (omega arith)
