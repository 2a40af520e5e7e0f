use Rattle.std.proofs.Common.{sym, arith}
use Rattle.access.proofs.Places.{b_at}
use Rattle.access.proofs.b_jk.Goals as goal

pub returns : goal.returns
returns c = rw (← c.jk.ensures) (sym (b_at _ _ (omega arith)))
