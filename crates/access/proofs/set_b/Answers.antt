use Rattle.std.proofs.Common.{arith}
use Rattle.access.proofs.Places.{to-b}
use Rattle.access.proofs.set_b.Goals as goal

pub returns : goal.returns
returns c = to-b _ _ _ (omega arith)
