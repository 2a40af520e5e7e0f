use Rattle.std.proofs.Common.{sym, arith}
use Rattle.access.proofs.Places.{s-at}
use Rattle.access.proofs.s_i.Goals as goal

pub returns : goal.returns
returns c = rw (← c.i.ensures) (sym (s-at _ _ (omega arith)))
