use Rattle.std.proofs.Common.{arith}
use Rattle.access.proofs.Places.{to-t}
use Rattle.access.proofs.set_t.Goals as goal

pub returns : goal.returns
returns c = to-t _ _ _ (omega arith)
