use Rattle.std.proofs.Common.{sym, arith}
use Rattle.access.proofs.Places.{a_at}
use Rattle.access.proofs.a_0.Goals as goal

pub returns : goal.returns
returns c = sym (a_at _ 0 (omega arith))
