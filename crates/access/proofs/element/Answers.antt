use Rattle.std.proofs.Common.{sym, arith}
use Rattle.access.proofs.Places.{el-at}
use Rattle.access.proofs.element.Goals as goal

pub returns : goal.returns
returns c = sym (el-at _ _ _ (omega arith) (omega arith))
