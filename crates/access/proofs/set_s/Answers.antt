use Rattle.std.proofs.Common.{arith}
use Rattle.access.proofs.Places.{to-s}
use Rattle.access.proofs.set_s.Goals as goal

pub returns : goal.returns
returns c = to-s _ _ _ (omega arith)
