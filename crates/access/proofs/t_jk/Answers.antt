use Rattle.std.proofs.Common.{sym, arith}
use Rattle.access.proofs.Places.{t-at}
use Rattle.access.proofs.t_jk.Goals as goal

pub returns : goal.returns
returns c = rw (← c.jk.ensures) (sym (t-at _ _ (omega arith)))
