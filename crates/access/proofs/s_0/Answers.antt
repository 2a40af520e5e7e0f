use Rattle.std.proofs.Common.{sym, arith}
use Rattle.access.proofs.Places.{s-at}
use Rattle.access.proofs.s_0.Goals as goal

pub returns : goal.returns
returns c = sym (s-at _ 0 (omega arith))
